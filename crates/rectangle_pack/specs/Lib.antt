pub mod Records
pub mod Pack
pub mod Leaning
