-- Laws that the crates above cite too: numbers from bits, fields, signs, tests and tables that antt computes.
pub mod Unique
pub mod Tests
pub mod Tabulate
pub mod Number
pub mod Fields
pub mod Signs
pub mod Rotate
pub mod MaskLaws
pub mod Complement
pub mod Cases
