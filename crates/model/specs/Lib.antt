-- The definitions of the model, from clusters to the law.
pub mod Clusters
pub mod References
pub mod Pictures
pub mod Calls
pub mod Invariant
pub mod Law
pub mod Masks
