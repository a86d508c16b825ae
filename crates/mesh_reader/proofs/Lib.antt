mod Words
mod Magnitudes
mod Threes
mod FirstWords
mod FrontLines
