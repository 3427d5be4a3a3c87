mod Laying
mod Wishes
mod Lists
mod Filling
mod Judged
mod Good
