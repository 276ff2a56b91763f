-- What each lookup finds. Read Sections, Relocations, Bytes, Code in this order.
pub mod Sections
pub mod Relocations
pub mod Bytes
pub mod Code
pub mod Keys
