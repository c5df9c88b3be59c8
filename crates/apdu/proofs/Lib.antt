pub mod Forms
pub mod Reach
