pub mod Puts
pub mod Sinks
pub mod Laws
