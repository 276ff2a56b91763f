-- What the decoder means. Contracts of the layers above cite Ops, Table, Decode, Written and Class.
pub mod Ops
pub mod Table
pub mod Decode
pub mod Written
pub mod Class
