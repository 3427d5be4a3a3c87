pub mod Honest
pub mod Calls
