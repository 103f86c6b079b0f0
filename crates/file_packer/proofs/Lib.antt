mod Shelving
mod Replacing
mod Planned
mod Made
mod Beside
