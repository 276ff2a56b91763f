-- Laws of the executor that belong to no one function.
pub mod Waiting
pub mod Judging
pub mod Answering
pub mod Refusals
pub mod Ahead
pub mod Falling
pub mod Accepted
pub mod Ends
pub mod Lasting
pub mod Pushed
pub mod Visiting
pub mod Unique
