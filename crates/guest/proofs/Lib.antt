pub mod Entered
pub mod Guests
pub mod Sounding
