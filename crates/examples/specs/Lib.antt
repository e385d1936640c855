pub mod Shown
pub mod Job
pub mod Rows
pub mod Table
