pub mod Places
pub mod Tests
pub mod TwoLists
pub mod Replying
pub mod Means
