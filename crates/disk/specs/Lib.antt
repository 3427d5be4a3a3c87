pub mod Readings
pub mod Disks
pub mod Sounds
