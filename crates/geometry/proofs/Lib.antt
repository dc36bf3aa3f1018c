pub mod Counts
pub mod Marks
pub mod Neighbours
pub mod Pinned
