-- The laws that the functions' proofs cite. That `read`'s contract pins its answer and the table is `read_pinned` of the crate promises.
pub mod Merges
pub mod Answering
