-- What the summary program prints of an input, how the input is taken in pieces, what the calls promise, and the laws of all this.
pub mod Summary
pub mod FirstLine
pub mod Texts
pub mod Summing
pub mod FirstLineLaws
pub mod OpeningLaws
pub mod KeptLaws
pub mod TextsLaws
pub mod PartLaws
pub mod InputLaws
pub mod FedSoFarLaws
pub mod StandsLaws
pub mod CallLaws
