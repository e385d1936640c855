pub mod Counting
pub mod Grid
pub mod Held
pub mod Insides
