-- Statements, to be read: Text, Cases. Inner promises, which only contracts of private functions cite: Putting, Lines.
pub mod Text
pub mod Cases
pub mod Putting
pub mod Lines
