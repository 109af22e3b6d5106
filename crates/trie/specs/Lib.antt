pub mod Bits
pub mod Trie
pub mod TrieFacts
pub mod TrieMeaning
