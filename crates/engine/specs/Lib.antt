-- Definitions that private contracts of the engine cite: places as code reads and writes them, and what is in range.
pub mod Places
pub mod Ready
