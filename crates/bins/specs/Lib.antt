pub mod Takes
pub mod Values
pub mod Forms
