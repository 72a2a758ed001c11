-- Calls, to be read beside the documents. Accepted: inner promises.
pub mod Calls
pub mod Accepted
