pub mod Lengths
pub mod InTable
pub mod States
