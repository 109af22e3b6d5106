pub mod Building
pub mod Compositions
pub mod Faults
pub mod Lists
pub mod Spellings
pub mod Standing
pub mod Worked
