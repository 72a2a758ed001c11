-- To be read beside document 02, 2.9: Pairs, Joining; what is proved of them: Limit, Cases. Steps: inner promises.
pub mod Pairs
pub mod Joining
pub mod Limit
pub mod Cases
pub mod Steps
