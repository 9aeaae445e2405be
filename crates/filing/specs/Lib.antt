-- What the contracts cite of names that are counted and of files that are written; the laws of these, of verdicts that are counted, and of bytes
-- that are compared.
pub mod Names
pub mod NameLaws
pub mod VerdictLaws
pub mod Saving
pub mod PartLaws
