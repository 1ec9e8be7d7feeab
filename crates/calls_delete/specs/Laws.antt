-- Delete computed.
pub mod Cases
