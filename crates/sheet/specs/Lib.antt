pub mod Sheet
pub mod Results
pub mod Tests
pub mod Calls
pub mod inner
