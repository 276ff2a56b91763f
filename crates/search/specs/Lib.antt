-- First matches, and tests at every number below a bound.
pub mod First
pub mod Every
