pub mod Blocks
pub mod Delivering
