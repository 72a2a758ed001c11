-- Laws, cited by the proofs of this crate and of those above it.
pub mod Follows
pub mod Names
pub mod LedgerLaws
pub mod CountLaws
pub mod AnewLaws
pub mod FreeLaws
pub mod InquiryLaws
pub mod BlockLaws
pub mod CentresLaws
pub mod DemandLaws
pub mod Proofs
pub mod CasesProof
pub mod ShamsProof
