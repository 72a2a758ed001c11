-- Statements, to be read: Packing, Cases. Inner promises, which contracts of the reading cite: Steps, Reached.
pub mod Packing
pub mod Cases
pub mod Steps
pub mod Reached
