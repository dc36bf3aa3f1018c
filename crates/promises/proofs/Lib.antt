-- Demand 3 of any stage that meets the contract, then that ours does, and what follows.
pub mod Turns
pub mod Written
pub mod Stored
pub mod Blocks
pub mod Invariant
pub mod History
pub mod Ready
pub mod Third
pub mod Painting
pub mod Finishing
pub mod Meets
pub mod Unique
pub mod First
pub mod Second
pub mod Tied
pub mod Pinned
pub mod Proved
