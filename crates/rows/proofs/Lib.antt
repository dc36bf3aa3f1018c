pub mod Widths
pub mod Signs
pub mod Scales
pub mod Lows
pub mod Picks
pub mod Moved
