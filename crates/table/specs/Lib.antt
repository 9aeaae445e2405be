-- What opening promises, what is asked, and the laws of both.
pub mod Promises
pub mod Emptied
pub mod EmptiedLaws
pub mod OpenLaws
pub mod Asked
pub mod QuestionLaws
pub mod SplitListLaws
pub mod SplitLengths
pub mod SplitLengthLaws
pub mod NumberLaws
