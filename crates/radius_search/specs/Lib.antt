-- Inner promises, which the contracts of this crate cite: Ascents, of the least radius; the rest of what it is found by.
pub mod Inputs
pub mod Front
pub mod Next
pub mod Tally
pub mod Bounds
pub mod Table
pub mod Ascents
