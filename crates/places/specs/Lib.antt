-- Places, their order and their sums.
pub mod Places
