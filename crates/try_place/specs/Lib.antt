pub mod Splits
pub mod Choice
pub mod Location
pub mod Try
pub mod Leaning
pub mod Words
