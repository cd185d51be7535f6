pub mod Texts
pub mod Results
