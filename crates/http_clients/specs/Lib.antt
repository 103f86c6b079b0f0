pub mod Numbers
pub mod Clients
pub mod Hearing
pub mod Ending
pub mod Arriving
