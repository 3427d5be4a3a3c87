pub mod Lent
pub mod Lists
