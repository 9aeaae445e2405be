pub mod FindingLaws
pub mod MovingLaws
