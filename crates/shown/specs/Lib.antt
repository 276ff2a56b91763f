-- What the audit seeks in a map, and what it counts.
pub mod Counted
pub mod Sought
