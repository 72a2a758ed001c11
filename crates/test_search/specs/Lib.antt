-- What the contracts of the trials cite.
pub mod Ranges
