-- From a specification to the tables of an encoding, and back.
pub mod FieldLemmas
pub mod BuilderLemmas
