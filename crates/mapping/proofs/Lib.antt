mod Words
mod Readers
