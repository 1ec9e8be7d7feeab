-- The parts of the call and its outcome say the same.
pub mod Gone
pub mod Tests
pub mod Cases
