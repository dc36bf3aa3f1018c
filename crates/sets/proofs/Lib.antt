pub mod Bytes
pub mod Lists
pub mod Finding
pub mod Once
