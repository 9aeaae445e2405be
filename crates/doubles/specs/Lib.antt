-- The definitions that the contracts of `doubles` cite, and the laws of each.
pub mod Double
pub mod DoubleLaws
pub mod Stored
pub mod StoredLaws
