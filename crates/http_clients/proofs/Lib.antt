mod Endings
mod Hears
mod Arrivals
