pub mod MaskLaws
pub mod LowestLaws
