-- To be read: what is written.
pub mod Report
