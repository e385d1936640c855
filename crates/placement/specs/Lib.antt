pub mod Placements
pub mod Layouts
pub mod Leaning
