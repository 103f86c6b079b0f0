pub mod Calls
pub mod Packing
pub mod Making
pub mod Refusals
