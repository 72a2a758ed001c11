-- Inner promises: of what Read takes in (Advance, Heading, Loading, Rows), and of what Write puts down (Writing, Putting).
pub mod Writing
pub mod Putting
pub mod Advance
pub mod Heading
pub mod Loading
pub mod Rows
