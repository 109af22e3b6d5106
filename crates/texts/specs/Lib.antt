pub mod Numbers
pub mod Reports
pub mod Texts
