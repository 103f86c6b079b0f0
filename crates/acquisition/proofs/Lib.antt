mod Steps
mod Joining
