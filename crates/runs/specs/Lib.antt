-- What words do to a state in cells.
pub mod Went
