pub mod Digest
pub mod Records
