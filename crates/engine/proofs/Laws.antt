-- Laws that the proofs of several functions cite.
pub mod Filling
pub mod Checking
pub mod Placing
pub mod Stopping
pub mod Accepting
pub mod Sounding
pub mod Opening
pub mod Turning
