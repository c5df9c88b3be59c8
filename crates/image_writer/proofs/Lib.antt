pub mod Keys
pub mod Records
pub mod Edges
