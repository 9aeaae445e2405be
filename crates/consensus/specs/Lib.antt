-- What the calls that write a tree answer, and the laws of the splits that they write.
pub mod Consensus
pub mod Chosen
pub mod ChosenLaws
pub mod ChooseLaws
pub mod FewLaws
pub mod AskedLaws
pub mod BothLaws
