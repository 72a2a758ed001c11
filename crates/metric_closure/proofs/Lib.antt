-- Laws, cited by the proofs of this crate and of those above it.
pub mod ClosureLaws
pub mod TableLaws
pub mod CallLaws
pub mod CasesProof
pub mod Proofs
