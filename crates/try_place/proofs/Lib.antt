pub mod Six
pub mod Words
pub mod Choosing
pub mod Meaning
pub mod Trying
pub mod Remaining
pub mod Refusing
