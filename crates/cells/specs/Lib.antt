-- A state in cells.
pub mod Cells
