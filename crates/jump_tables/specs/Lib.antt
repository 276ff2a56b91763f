-- What a jump table is read as. Read Readings, Keys, Tables, Examined in this order.
pub mod Readings
pub mod Keys
pub mod Tables
pub mod Examined
