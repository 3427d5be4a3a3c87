pub mod Touched
pub mod Marks
pub mod Notes
pub mod Filled
