pub mod Outcomes
mod Seams
mod Agreement
