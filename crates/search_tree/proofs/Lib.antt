pub mod Finds
pub mod Grows
pub mod Hung
pub mod Walks
