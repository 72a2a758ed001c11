-- Laws, cited by the proofs of this crate; LimitLaws and CasesProof prove the statements of Limit and Cases.
pub mod PairLaws
pub mod ListingLaws
pub mod JoiningLaws
pub mod LimitLaws
pub mod CasesProof
