-- Statements, to be read: Calls, and Rows for whoever takes the records by value. Inner promises, which only contracts of private
-- functions cite: Accepted.
pub mod Calls
pub mod Rows
pub mod Accepted
