-- Statements, to be read: Sheet, Cases, Limit. `blocked_text` of Sheet is an inner promise, which only a private function cites.
pub mod Sheet
pub mod Cases
pub mod Limit
