-- How numbers stand in texts. A float and its bits are the library's own, `of_bits` and `to_bits`.
pub mod Digits
