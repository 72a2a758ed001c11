-- To be read beside document 02, 2.3: Tariff; what is proved of it: Theorems, Cases. Inputs: an inner promise.
pub mod Tariff
pub mod Theorems
pub mod Cases
pub mod Inputs
