pub mod Bits
pub mod Packed
pub mod Loop
pub mod Ones
pub mod Signed
pub mod Rows
pub mod Parts
