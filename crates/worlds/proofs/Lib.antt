-- Worlds in which each premise of the demands holds, and the wrong stages refuted in them. `Small`, `Runs` and `Worlds` have pictures of one or two
-- CTUs at depth 8; `Four`, `Wide`, `Deep`, `ChromaAlone` and `Copied` have the other depths, formats, CTB sizes and switches, over one telling of a
-- picture's life.
pub mod Small
pub mod Runs
pub mod Refuted
pub mod Worlds
pub mod Excluded
pub mod Events
pub mod Lives
pub mod Four
pub mod Wide
pub mod Deep
pub mod ChromaAlone
pub mod Copied
