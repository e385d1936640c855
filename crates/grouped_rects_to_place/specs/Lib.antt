pub mod Rect
pub mod Checks
pub mod Groups
pub mod Layouts
pub mod Leaning
