-- Laws, cited by the proofs of this crate.
pub mod ScanLaws
