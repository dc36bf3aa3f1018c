pub mod Raster
pub mod Blocks
pub mod Fill
pub mod Scans
