pub mod PuttingLaws
pub mod EnteringRows
