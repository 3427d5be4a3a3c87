pub mod Sums
pub mod Bounds
pub mod Found
pub mod Added
pub mod Counted
pub mod Laws
