-- To be read beside documents 01 and 02: Api. What is proved of it stands in c_guarantee.
pub mod Api
