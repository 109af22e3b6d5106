pub mod Held
pub mod Numbers
pub mod Runs
pub mod Spelling
