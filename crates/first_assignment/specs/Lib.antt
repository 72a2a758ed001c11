-- Inner promises: First, what the first assignment is; Column, what one step does to a tide's column of the table.
pub mod Column
pub mod First
