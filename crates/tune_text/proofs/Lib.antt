-- Theorems that no single function owns.
pub mod Laws
pub mod Whole
pub mod Decimals
pub mod Carried
pub mod Worked
