-- Laws, cited by the proofs of this crate and of those above it.
pub mod BitLaws
pub mod RunLaws
pub mod FileLaws
pub mod DistanceLaws
pub mod DecodedLaws
pub mod ReadLaws
pub mod WrittenLaws
pub mod AcceptedLaws
pub mod Proofs
pub mod CasesProof
