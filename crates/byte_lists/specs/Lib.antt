pub mod Runs
pub mod Numbers
pub mod Found
pub mod Fields
