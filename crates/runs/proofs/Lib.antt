pub mod Told
pub mod Carrying
pub mod Running
