-- Lemmas on plain lists for the proofs of the functions.
pub mod Laying
pub mod Hall
pub mod Push
pub mod Shift
pub mod Turns
pub mod Correspondence
pub mod Writing
pub mod Answers
pub mod Surplus
pub mod PartialSolutionProof
