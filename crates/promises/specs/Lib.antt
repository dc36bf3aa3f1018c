pub mod World
pub mod Contract
pub mod Demands
pub mod Ours
pub mod Ties
