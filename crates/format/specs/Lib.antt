pub mod Clusters
pub mod Header
pub mod Entries
