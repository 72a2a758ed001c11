-- Calls, to be read beside the documents. Passed: inner promises.
pub mod Calls
pub mod Passed
