pub mod Numbers
pub mod Names
pub mod Escapes
pub mod Addresses
pub mod Kinds
pub mod Laws
