pub mod States
pub mod Sessions
