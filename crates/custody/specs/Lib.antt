pub mod Ledger
pub mod Run
