pub mod Runs
pub mod Lent
pub mod Octets
pub mod Numbers
pub mod Fields
