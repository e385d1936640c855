pub mod Adding
pub mod Copying
pub mod Finding
pub mod Reaches
pub mod Placed
pub mod Stepping
