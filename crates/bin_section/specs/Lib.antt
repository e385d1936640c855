pub mod Boxes
pub mod Cell
pub mod Inside
pub mod Layouts
pub mod Leaning
pub mod Overlap
pub mod Section
pub mod Sides
