mod Numerals
mod Texts
