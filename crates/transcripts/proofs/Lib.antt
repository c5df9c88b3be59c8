pub mod Runs
pub mod Reading
pub mod Keeping
pub mod Output
pub mod Ends
