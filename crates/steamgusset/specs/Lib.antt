-- What crosses into C, and what each exported function ensures.
pub mod Boundary
pub mod Exports
