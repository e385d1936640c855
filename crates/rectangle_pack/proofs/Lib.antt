pub mod Checked
pub mod Ending
pub mod Running
pub mod Seating
pub mod Serving
pub mod Tables
pub mod Tidying
pub mod Turns
