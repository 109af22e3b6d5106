pub mod Does
pub mod Facts
pub mod Histories
pub mod Meaning
pub mod Orders
pub mod Rows
pub mod Spelling
pub mod Worked
