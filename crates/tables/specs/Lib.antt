pub mod Refcounts
