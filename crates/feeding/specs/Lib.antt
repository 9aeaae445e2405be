-- What feeding promises, its steps, and their laws.
pub mod Feeding
pub mod Texts
pub mod Judging
pub mod JudgingLaws
pub mod HoldLaws
pub mod ClosingLaws
pub mod FinishLaws
pub mod FedLaws
pub mod BatchLaws
pub mod CutLaws
