pub mod Checking
pub mod Ordering
pub mod Parting
pub mod Sizes
