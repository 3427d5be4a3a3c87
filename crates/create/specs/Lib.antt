pub mod Create
pub mod Laid
