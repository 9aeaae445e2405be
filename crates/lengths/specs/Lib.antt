-- The definitions that the contracts of `lengths` cite, and the laws of each.
pub mod Answer
pub mod Near
pub mod NearLaws
pub mod PartLaws
pub mod Read
pub mod ReadLaws
