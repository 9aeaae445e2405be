-- The definitions that the contracts of `head` cite, and the laws of each.
pub mod Head
pub mod HeadLaws
pub mod Index
pub mod IndexLaws
pub mod FindLaws
pub mod WordLaws
