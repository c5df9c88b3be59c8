pub mod Results
pub mod Marks
