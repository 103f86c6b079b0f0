pub mod Drawn
pub mod LastValues
pub mod Leads
pub mod Passing
pub mod Picks
pub mod Steps
pub mod Outputs
pub mod Tells
