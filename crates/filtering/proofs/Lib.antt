pub mod Missing
pub mod Planes
pub mod Marks
pub mod Judging
pub mod Filtering
