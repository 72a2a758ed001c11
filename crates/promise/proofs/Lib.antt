-- Laws, cited by the proofs of this crate and of those above it.
pub mod PromiseLaws
pub mod Pairs
pub mod Enough
pub mod MeetingLaws
