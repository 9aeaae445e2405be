-- The definitions that the contracts of `writer` cite, and the laws of each.
pub mod Text
pub mod TextLaws
pub mod Branch
pub mod BranchLaws
pub mod BranchTextLaws
pub mod Name
pub mod NameLaws
pub mod StepLaws
pub mod RootLaws
pub mod SearchLaws
