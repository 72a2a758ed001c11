-- Laws; the functions' proofs stand beside them.
pub mod CostLaws
pub mod ReplyLaws
