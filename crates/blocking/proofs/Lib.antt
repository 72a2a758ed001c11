pub mod ProblemOfArrays
pub mod CentresLaws
pub mod BlockLaws
pub mod RowLaws
pub mod JudgeLaws
pub mod TidesLaws
pub mod ScanLaws
