mod Values
mod Loops
mod Parts
mod Serials
mod Sorted
mod PresentValues
mod Back
mod Refused
