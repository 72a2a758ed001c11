-- Laws, cited by the proofs of this crate and of those above it.
pub mod StepLaws
pub mod MeasuredLaws
pub mod ReachedLaws
pub mod CallLaws
pub mod Turns
pub mod Writing
pub mod CasesProof
