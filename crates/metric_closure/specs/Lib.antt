-- To be read beside document 02, 2.1: Closure, Call; what is proved of them: Theorems, Cases. Tables: an inner promise.
pub mod Closure
pub mod Call
pub mod Theorems
pub mod Cases
pub mod Tables
