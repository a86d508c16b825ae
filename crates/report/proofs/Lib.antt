mod Telling
mod Turns
