-- Inner promises, which the contracts of this crate cite: Core, of what `block_rows` hands to `blocking`; Measured, of the blocks' measures.
pub mod Measured
pub mod Core
