-- The table of cases, computed.
pub mod Cases
