-- To be read beside document 02, 2.1: Text; what is proved of it: Theorems, Cases. Rows: an inner promise.
pub mod Text
pub mod Theorems
pub mod Cases
pub mod Rows
