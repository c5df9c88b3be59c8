pub mod Requests
pub mod Meanings
