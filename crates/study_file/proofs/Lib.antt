-- Laws, cited by the proofs of this crate and of those above it.
pub mod WriteCallLaws
pub mod RoomLaws
pub mod ReadCallLaws
pub mod Proofs
