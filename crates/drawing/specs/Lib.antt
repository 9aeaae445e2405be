-- A tree drawn in plain text, line by line, and the laws of putting it.
pub mod DrawnLines
pub mod Drawing
pub mod TextLaws
pub mod GrownLaws
pub mod CountLaws
pub mod StepLaws
pub mod RootLaws
