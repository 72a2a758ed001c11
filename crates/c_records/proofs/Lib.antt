-- Laws, cited by the proofs of this crate and of those above it.
pub mod RecordLaws
pub mod CodeLaws
