-- The claim that a text is the majority tree: what is promised, and the laws of its loop and of its returns.
pub mod Claims
pub mod Along
pub mod CompareLaws
pub mod AskedLaws
