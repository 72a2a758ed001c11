-- Laws of the words and numbers of a text.
pub mod WordLaws
