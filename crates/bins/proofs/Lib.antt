-- The laws that the functions' proofs cite, bottom to top; `Contracts` has that the contracts pin their answers.
pub mod Ones
pub mod Fetch
pub mod Readers
pub mod ByReader
pub mod Steps
pub mod Fours
pub mod Places
pub mod AfterCb
pub mod Forms
pub mod Contracts
