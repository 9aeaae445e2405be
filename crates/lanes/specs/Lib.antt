-- The definitions that the contracts cite, and the laws of one lane of a whole store.
pub mod Lanes
pub mod LaneLaws
pub mod LaneChangeLaws
pub mod LaneWritingLaws
pub mod ClosingLaws
