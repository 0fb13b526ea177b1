mod Called
mod Crossings
mod Refusals
