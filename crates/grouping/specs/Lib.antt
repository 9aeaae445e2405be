-- The groups of the majority tree of a collection, the lines that name them and the stand-ins of a taxon, and the laws of each.
pub mod Majority
pub mod MajorityLaws
pub mod GroupLines
pub mod Nearest
pub mod NearestLaws
pub mod LabelLaws
pub mod LineLaws
pub mod UpToLaws
pub mod StandInLineLaws
