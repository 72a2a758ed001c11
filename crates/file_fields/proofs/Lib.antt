-- Laws, cited by the proofs of this crate and of those above it.
pub mod Lengths
pub mod WritingLaws
pub mod PuttingLaws
pub mod LoadingLaws
pub mod AdvanceLaws
pub mod TakingLaws
pub mod HeadLaws
pub mod RowLaws
