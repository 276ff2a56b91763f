-- Demand 3. Read Manual (the machine), Run (a straight run), Demand3 (the statement).
pub mod Manual
pub mod Run
pub mod Demand3
