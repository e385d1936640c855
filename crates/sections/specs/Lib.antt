pub mod Sections
pub mod Inside
pub mod Common
pub mod Leaning
