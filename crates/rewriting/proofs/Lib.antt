pub mod Rewriting
pub mod Texts
