-- The calls that make regions, computed.
pub mod Cases
