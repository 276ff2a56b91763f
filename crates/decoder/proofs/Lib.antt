-- What the proofs here rest on, and the laws that the layers above cite.
pub mod Names
pub mod Told
pub mod Columns
pub mod Sets
pub mod Lowest
pub mod Blank
pub mod Aligned
pub mod Cases
