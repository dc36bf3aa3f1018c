pub mod Lengths
pub mod Ready
