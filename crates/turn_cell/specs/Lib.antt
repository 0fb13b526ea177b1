pub mod Logs
pub mod Noted
pub mod Knowledge
pub mod Rule
pub mod Steps
pub mod Seats
