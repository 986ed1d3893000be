-- What is proved of the rules: the worked examples, laws on the definitions, one step, whole runs, and demand 3 above them.
pub mod Examples
pub mod Worked
pub mod Laws
pub mod Steps
pub mod Runs
pub mod Claim
pub mod Callers
