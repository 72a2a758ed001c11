-- PartialSolution, to be read beside document 01. The rest: inner promises. What the search promises stands in crate promise.
pub mod PartialSolution
pub mod Matching
pub mod Graph
pub mod Slots
pub mod Steps
pub mod Values
