mod Listing
mod Parting
pub mod ReadBack
