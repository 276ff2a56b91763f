-- Laws that belong to no one function.
pub mod Values
pub mod Lists
pub mod Whole
pub mod Dedicated
pub mod Bounds
