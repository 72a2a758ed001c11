-- Narrowing, to be read: definitions and what is proved of them.
pub mod Narrowing
