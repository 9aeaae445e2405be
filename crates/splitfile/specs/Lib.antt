-- What the calls on split files answer, and the laws of files in bytes.
pub mod Files
pub mod Entries
pub mod EntryLaws
pub mod Form
pub mod FormLaws
pub mod Reading
pub mod ReadingLaws
pub mod WritingLaws
pub mod Choosing
pub mod ChoosingLaws
pub mod ChosenTreeLaws
pub mod MergeStep
pub mod MergeStepLaws
pub mod MergeWalk
pub mod MergeWalkLaws
pub mod MergingLaws
