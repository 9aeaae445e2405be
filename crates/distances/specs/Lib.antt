-- The definitions that the contracts cite, and the laws of marks, distances and the entries of the matrix.
pub mod Marks
pub mod Entries
pub mod Short
pub mod WholeTreeLaws
pub mod LackLaws
pub mod MarkLaws
pub mod EntryLaws
pub mod ShortLaws
pub mod RowLaws
pub mod Eight
pub mod EightLaws
