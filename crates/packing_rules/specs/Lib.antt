pub mod Appended
pub mod Rules
pub mod Order
pub mod Seats
pub mod Packing
pub mod Promises
