-- The visited map. Read Bits, then History.
pub mod Bits
pub mod History
