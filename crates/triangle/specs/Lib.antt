-- Inner promises: Pairs, of the search for a pair that violates the triangle inequality; Prefilter, of the quick test before it.
pub mod Pairs
pub mod Prefilter
