-- The answers as document 01 has them, and the laws of how a call comes to its answer.
pub mod Answers
pub mod Filled
pub mod AnswerLaws
pub mod FrontLaws
