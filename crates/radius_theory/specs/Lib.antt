-- Inner promises: Represents, the problem that lists of numbers pose; Radii, that no smaller radius has an assignment; Posed, the problem of a
-- study as one value.
pub mod Arrays
pub mod Radii
pub mod Posed
