-- Report computed.
pub mod Cases
