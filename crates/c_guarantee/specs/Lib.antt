-- To be read beside documents 01 and 02: Runs; what is proved of the calls for C one after the other: Theorems.
pub mod Runs
pub mod Theorems
