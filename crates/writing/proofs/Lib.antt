-- The laws that the functions' proofs cite. That `write`'s contract pins its answer and what is lent is `write_pinned` of the crate promises.
pub mod Setting
