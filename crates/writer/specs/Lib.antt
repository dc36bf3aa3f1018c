pub mod Forms
pub mod Outcome
