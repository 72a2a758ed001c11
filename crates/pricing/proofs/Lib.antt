-- Laws; the functions' proofs stand beside them. Proofs and CasesProof prove the statements of specs/.
pub mod BandLaws
pub mod PriceLaws
pub mod OrderLaws
pub mod ShareLaws
pub mod CountLaws
pub mod FillLaws
pub mod Proofs
pub mod CasesProof
