mod Talking
mod Turning
