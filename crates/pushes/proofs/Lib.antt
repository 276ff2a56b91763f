-- Laws of pushing for the proofs of the functions: places and keys, tables, ways in order, then what a word that leaves asks.
pub mod PlaceLaws
pub mod TableLaws
pub mod WayLaws
pub mod LeaveLaws
