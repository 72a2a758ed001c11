-- To be read beside document 01: Problem, Study, Refusals, Calls; what is proved of them: Theorems, Renumbering. Minima and Triangle:
-- tests in plain words.
pub mod Limits
pub mod Problem
pub mod Study
pub mod Refusals
pub mod Numbers
pub mod Calls
pub mod Theorems
pub mod Minima
pub mod Triangle
pub mod Renumbering
