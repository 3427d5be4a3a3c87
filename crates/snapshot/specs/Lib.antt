pub mod Records
pub mod All
