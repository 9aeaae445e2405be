-- The definitions that the contracts of `records` cite, and their laws.
pub mod Records
pub mod RecordLaws
pub mod Slot
pub mod SlotLaws
