-- Laws, cited by the proofs of this crate.
pub mod RowLaws
pub mod LineLaws
pub mod ClosedLaws
pub mod ReadingLaws
pub mod ReadBack
pub mod TextLength
pub mod TextLaws
pub mod CasesProof
pub mod Proofs
