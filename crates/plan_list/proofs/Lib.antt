pub mod Examples
pub mod Lines
pub mod Pieces
pub mod Reading
pub mod Saying
pub mod Small
pub mod Words
