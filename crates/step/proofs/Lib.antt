-- Laws that belong to no one function.
pub mod Accesses
pub mod Blank
pub mod Masks
pub mod Laws
