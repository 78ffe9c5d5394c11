-- What causes 20 and 21 ask of one bay.
pub mod Tests
