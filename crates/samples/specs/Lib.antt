pub mod Steps
pub mod Around
pub mod Blockwise
pub mod Blocks
pub mod Rules
