-- What the release sheet of a collection is, line by line, and the laws of putting it.
pub mod Release
pub mod ReleaseLaws
pub mod AlikeLaws
