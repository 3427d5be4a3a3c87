pub mod Outcomes
pub mod Words
