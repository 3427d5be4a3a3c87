pub mod Stores
pub mod Flat
pub mod Split
pub mod Calls
pub mod Words
