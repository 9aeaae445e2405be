-- The definitions that the contracts of `opening` cite, and the laws of each.
pub mod Given
pub mod GivenLaws
pub mod Walk
pub mod WalkLaws
pub mod Places
pub mod PlacesLaws
pub mod NameTestLaws
pub mod Writing
pub mod WritingLaws
pub mod HeadWriting
pub mod HeadWritingLaws
