-- Every byte of a store, what "whole" means of it, and the laws of where things lie and of parts in order.
pub mod Columns
pub mod Store
pub mod Becomes
pub mod StoreLaws
pub mod KeptLaws
pub mod WholeStore
pub mod AllLaws
pub mod WholeFacts
pub mod InsideLaws
pub mod Sound
pub mod UpToLaws
pub mod PigeonLaws
pub mod OrderLaws
pub mod HighestLaws
pub mod InsertLaws
pub mod OpeningKeptLaws
