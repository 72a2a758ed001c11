-- To be read beside document 01: Memory, Validity (reason 21 in plain words), Theorems.
pub mod Memory
pub mod View
pub mod Validity
pub mod Theorems
