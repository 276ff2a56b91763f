-- The walk itself is defined in crate `turns`; here is what the code's own functions do.
pub mod Starts
pub mod Blocks
