-- The definitions; their laws are under proofs/.
pub mod Lists
