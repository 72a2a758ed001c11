-- To be read beside documents 01 and 02: Record. Records: inner promises.
pub mod Record
pub mod Records
