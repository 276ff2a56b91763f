-- The executor's calls: Standing, Judge, Next, Reply, Push, Visits, and Calls, what a caller who always replies comes to.
pub mod Standing
pub mod Judge
pub mod Next
pub mod Reply
pub mod Push
pub mod Visits
pub mod Calls
