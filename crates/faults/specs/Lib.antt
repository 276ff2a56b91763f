-- Broken rules by name. Read Faults.
pub mod Faults
