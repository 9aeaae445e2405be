-- The definitions that the contracts cite, and the laws of the walk over two trees, of one length more and of lengths that are all given.
pub mod Side
pub mod Summed
pub mod MergeLaws
pub mod WalkLaws
pub mod SummedLaws
pub mod GivenLaws
