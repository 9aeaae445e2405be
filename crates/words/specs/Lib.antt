pub mod Words
pub mod Parsed
pub mod WordLaws
pub mod DigitLaws
