pub mod Audit
pub mod Meaning
pub mod Place
pub mod Leaning
