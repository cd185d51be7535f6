pub mod Status
pub mod DecoderState
pub mod Calls
pub mod Custom
pub mod Facts
pub mod EncoderState
pub mod Names
pub mod Numbered
