-- All of it is to be read beside documents 01 and 02: Runs, Ledger, Counts; what is proved of them: Theorems, Cases.
pub mod Runs
pub mod Ledger
pub mod Counts
pub mod Cases
pub mod Theorems
pub mod Shams
