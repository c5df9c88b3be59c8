pub mod Transcript
pub mod Consoles
