pub mod Chambers
pub mod Store
pub mod Layouts
pub mod Checks
pub mod Outcome
pub mod Fresh
pub mod Return
pub mod Leaning
