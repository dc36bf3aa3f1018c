pub mod Places
pub mod Scans
