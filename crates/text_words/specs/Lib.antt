-- Statements, to be read: the words and numbers of a text.
pub mod Words
