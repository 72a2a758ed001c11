-- Inner promises: Scan, what the scan for a duplicate looks for and answers.
pub mod Scan
