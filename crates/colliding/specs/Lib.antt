-- The definitions that the contracts cite, and their laws.
pub mod Collisions
pub mod PlacedLaws
pub mod CollisionLaws
