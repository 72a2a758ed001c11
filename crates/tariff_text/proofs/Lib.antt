-- Laws, cited by the proofs of this crate.
pub mod LineLaws
pub mod Laws
pub mod CasesProof
