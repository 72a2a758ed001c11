-- Laws, cited by the proofs of this crate and of those above it.
pub mod Tests
pub mod Members
pub mod Counts
pub mod Counting
pub mod Tables
pub mod Tuples
pub mod Results
pub mod Scans
pub mod Fills
pub mod Filtered
