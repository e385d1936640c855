pub mod Bounding
pub mod Ranges
pub mod Sharing
pub mod Volume
