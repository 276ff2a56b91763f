-- The walk's meaning. Grounds, Turns and Histories are the walk over any ground, Moves and Walks over an image: read them in this order.
-- Runs, Straight and Heads say what the code's functions do: many turns at once.
pub mod Grounds
pub mod Turns
pub mod Histories
pub mod Runs
pub mod Moves
pub mod Straight
pub mod Walks
pub mod Heads
