-- Statements, to be read: Text, Cases, Limit.
pub mod Text
pub mod Cases
pub mod Limit
