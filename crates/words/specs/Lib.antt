pub mod Leaning
pub mod Records
pub mod Words
