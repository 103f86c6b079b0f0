mod Coming
mod Unopened
mod Leaving
mod Tapes
mod Ended
mod Shelves
mod Keeping
mod Causes
