pub mod Steps
pub mod Namings
pub mod Keeping
pub mod Settled
pub mod Spared
pub mod Buildings
