mod Fronts
mod ReadBack
mod Examples
