-- What the words layer means. Contracts of every layer cite these.
pub mod Choice
pub mod Word
pub mod Bits
pub mod Sums
pub mod Signed
pub mod Bytes
