-- Laws, cited by the proofs of this crate and of those above it.
pub mod ProblemLaws
pub mod Approximation
pub mod Dictionary
pub mod StudyLaws
pub mod TriangleLaws
pub mod CallLaws
pub mod ReasonLaws
pub mod LadderLaws
pub mod DuplicateLaws
pub mod MinimaLaws
pub mod NearestLaws
pub mod Proofs
pub mod RenumberingLaws
