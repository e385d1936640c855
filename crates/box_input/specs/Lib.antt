pub mod Input
pub mod Read
