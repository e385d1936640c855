pub mod Leaning
pub mod Lowest
pub mod Pick
pub mod Sort
pub mod Sum
pub mod Tab
