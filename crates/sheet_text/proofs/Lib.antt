-- Laws, cited by the proofs of this crate and of those above it.
pub mod NumberLaws
pub mod PuttingLaws
pub mod LineLaws
pub mod CasesProof
