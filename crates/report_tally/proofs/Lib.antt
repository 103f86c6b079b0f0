mod RowParts
mod ReadLines
mod Tame
