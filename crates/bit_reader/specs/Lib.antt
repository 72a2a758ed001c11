-- Fields: what a read field is, for the contracts here and above; its laws are under proofs/.
pub mod Fields
