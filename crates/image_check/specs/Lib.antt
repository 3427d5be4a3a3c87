pub mod Totals
pub mod Outcome
pub mod Lawful
