pub mod Words
pub mod Tally
pub mod Filling
pub mod Uses
