-- To be read beside document 02, 2.9: Merge, Calls; what is proved of them: Theorems, Cases. Lent, Sources, Rows: inner promises.
pub mod Merge
pub mod Calls
pub mod Theorems
pub mod Cases
pub mod Sources
pub mod Rows
pub mod Lent
