pub mod Grafted
pub mod Grafts
pub mod Hooks
pub mod InPlaces
pub mod Meetings
pub mod Partings
pub mod Places
pub mod Steps
