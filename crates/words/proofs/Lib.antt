mod Digits
mod Suffixes
mod Tids
mod Parsed
