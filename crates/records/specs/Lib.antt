pub mod Draws
pub mod Ends
