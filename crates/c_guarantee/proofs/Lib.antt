-- Laws, and the record of specs/Theorems.antt, proved.
pub mod RunLaws
pub mod Proofs
