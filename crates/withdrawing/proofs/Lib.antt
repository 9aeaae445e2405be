pub mod GatherLaws
pub mod RenameLaws
pub mod CloseOrderLaws
pub mod RenameListsLaws
pub mod RowsLeftLaws
pub mod CountLessLaws
pub mod MoveTreesLaws
