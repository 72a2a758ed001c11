-- Laws, cited by the proofs of this crate.
pub mod ColumnLaws
pub mod FirstLaws
