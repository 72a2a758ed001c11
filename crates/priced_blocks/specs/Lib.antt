-- To be read beside document 02, 2.3: Calls, and Rows for whoever takes the records by value. Accepted: an inner promise.
pub mod Calls
pub mod Rows
pub mod Accepted
