-- Make and declare, computed.
pub mod Cases
