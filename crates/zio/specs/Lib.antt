pub mod Sinks
pub mod Clocks
pub mod Hubs
pub mod HubCalls
pub mod Shelves
pub mod MemoryShelves
pub mod PartCounts
pub mod MemoryHubs
