-- Bits, values and widths.
pub mod BitLemmas
pub mod ValueLemmas
pub mod WidthLemmas
pub mod SizeLemmas
