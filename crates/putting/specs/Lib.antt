-- What is put into a buffer one behind another, the lines that are put, and the laws of each.
pub mod Put
pub mod PutLaws
pub mod Lines
pub mod LinesLaws
pub mod DigitLaws
pub mod WritingLaws
