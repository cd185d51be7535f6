pub mod Base
pub mod Bits
pub mod Text
pub mod Grammar
pub mod Lengths
pub mod EncodedPieces
