pub mod Maps
pub mod Copies
