-- The theorem of demand 3, and what it rests on, in the order of the argument.
pub mod ManualLaws
pub mod Values
pub mod Decoded
pub mod Steps
pub mod Holding
pub mod Demand3
pub mod RuledOut
