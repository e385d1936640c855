pub mod Common
pub mod Try
pub mod Return
pub mod Join
pub mod Audit
