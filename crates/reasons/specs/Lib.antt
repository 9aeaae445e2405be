-- The refusals in words.
pub mod Reasons
pub mod ReasonLaws
