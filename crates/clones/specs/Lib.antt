-- What a way makes of the state that it leaves with.
pub mod Clones
