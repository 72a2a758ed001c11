-- To be read beside document 01: Bits, File; what is proved of them: Theorems, Cases. Head: an inner promise.
pub mod Bits
pub mod File
pub mod Theorems
pub mod Cases
pub mod Head
