-- Laws, cited by the proofs of this crate and of those above it.
pub mod CallLaws
pub mod MergeLaws
pub mod OutputLaws
pub mod BlockLaws
pub mod TariffLaws
pub mod MendLaws
