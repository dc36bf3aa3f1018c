pub mod Geometry
pub mod OneProof
pub mod Found
pub mod Dues
