pub mod Pieces
pub mod Connections
pub mod Shelves
