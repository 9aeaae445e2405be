-- What the calls that compare trees answer, and its laws.
pub mod Asked
pub mod Weighed
pub mod CompareLaws
pub mod WeighedLaws
pub mod NumberLaws
