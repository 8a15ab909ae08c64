pub mod Tests
pub mod Admitted
pub mod Maps
