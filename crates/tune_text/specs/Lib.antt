-- The text of `tune`: what is printed for every input, and the steps in which it is printed.
pub mod Ascii
pub mod Scan
pub mod Fields
pub mod Lines
pub mod Reading
pub mod Transcript
pub mod Steps
pub mod Handed
pub mod Carried
pub mod Worked
