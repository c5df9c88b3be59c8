pub mod Readings
pub mod Filling
pub mod Rooms
pub mod Keys
