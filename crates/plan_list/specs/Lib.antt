pub mod Words
pub mod Number
pub mod Said
pub mod List
