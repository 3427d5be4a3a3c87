pub mod Lines
pub mod Paths
pub mod Spoiled
