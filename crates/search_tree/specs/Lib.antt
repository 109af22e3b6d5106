pub mod Tree
pub mod TreeMeaning
