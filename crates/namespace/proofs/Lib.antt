mod Onces
mod Steps
mod Properties
mod Loops
mod Lending
