pub mod Reading
pub mod Moves
pub mod Nearing
pub mod Searching
pub mod Earlier
