-- What the abstract state means: values, registers, rules, splits, states. Contracts of the layers above cite these.
pub mod Values
pub mod Registers
pub mod Rules
pub mod Splits
pub mod States
