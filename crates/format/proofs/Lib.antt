pub mod Clusters
pub mod Headers
pub mod Goods
