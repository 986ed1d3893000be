-- Laws that the proofs of several functions cite.
pub mod Cutting
pub mod Splitting
pub mod Coordinates
pub mod Reading
pub mod Stepping
pub mod Ending
pub mod Running
pub mod Filling
