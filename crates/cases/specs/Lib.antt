-- Document 01's cases: what is asked and what it must give (Asks), and the table (Table).
pub mod Asks
pub mod Table
