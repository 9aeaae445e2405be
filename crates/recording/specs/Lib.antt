-- The definitions that the contracts cite, and their laws.
pub mod Added
pub mod ListSoundLaws
pub mod LengthLaws
pub mod EnteringLaws
pub mod Recording
pub mod RowLaws
pub mod AddedLaws
pub mod SplitSoundLaws
pub mod WalkLaws
pub mod NewLaws
pub mod GrownLaws
pub mod AcceptLaws
