pub mod Words
pub mod Values
pub mod Verbs
pub mod Calls
