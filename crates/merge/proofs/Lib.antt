-- Laws, cited by the proofs of this crate and of those above it.
pub mod AcrossLaws
pub mod AgreeLaws
pub mod PlaceLaws
pub mod MergedLaws
pub mod Proofs
pub mod SourceLaws
pub mod RestLaws
pub mod RowLaws
pub mod TableLaws
pub mod AnswerLaws
pub mod CasesProof
