pub mod Neighbour
pub mod Joining
pub mod Means
pub mod Leaning
