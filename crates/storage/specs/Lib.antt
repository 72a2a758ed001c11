-- Inner promises: what the functions here write.
pub mod Places
