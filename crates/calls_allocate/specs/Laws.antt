-- Allocate, computed.
pub mod Cases
