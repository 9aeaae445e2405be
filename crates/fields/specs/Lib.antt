-- The definitions that the contracts of `fields` cite, and the laws of each.
pub mod Field
pub mod FieldLaws
pub mod PartLaws
pub mod Run
pub mod RunLaws
