pub mod References
pub mod Names
pub mod Walk
