-- What the summary sheet of a collection is, line by line, and the laws of writing it.
pub mod Sheet
pub mod Asked
pub mod Lines
pub mod LineLaws
pub mod SheetLaws
pub mod AskedLaws
pub mod LineRoomLaws
pub mod Run
pub mod RunLaws
