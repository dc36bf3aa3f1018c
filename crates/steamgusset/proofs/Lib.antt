-- Laws of what crosses: answers and numbers, components, the bytes of a set; that each export's contract has one outcome, and that it is the stage's.
pub mod Crossing
pub mod Components
pub mod Standing
pub mod Pinned
pub mod Verdicts
pub mod Ours
