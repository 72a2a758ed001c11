-- To be read beside document 01: Calls, Theorems.
pub mod Calls
pub mod Theorems
