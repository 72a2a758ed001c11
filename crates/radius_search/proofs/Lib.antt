-- Laws, cited by the proofs of this crate and of those above it.
pub mod FrontLaws
pub mod NextLaws
pub mod TallyLaws
pub mod BoundLaws
pub mod TableLaws
pub mod AssigningLaws
pub mod AscentLaws
