-- One waiting state as words: values, records, the layout of a slot, and what a state's type says of it.
pub mod Put
pub mod Values
pub mod Layout
pub mod Fits
