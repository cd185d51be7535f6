-- Calls that write properties of an encoding.
use Rattle.std.specs.Prelude.{◌≡◌, ℕ, List, ◌++◌, length}
use Rattle.data_encoding.specs.Base.{Base}
use Rattle.data_encoding.specs.Fields.{Fields}
use Rattle.data_encoding.specs.Layout.{fields_of}
use Rattle.data_encoding.specs.Lengths.{alignment}
use Rattle.data_encoding_calls.specs.declared.specification_of_encoding.TextLengths.{TextLengths}
use Rattle.data_encoding_calls.specs.declared.make.Form.{Form}
use Rattle.data_encoding_calls.specs.Calls.{front_status, over}
use Rattle.data_encoding_calls.specs.Custom.{fields_asked}
use Rattle.data_encoding_calls.specs.Status.{ok}

-- The call wrote the number of bytes of data in a block.
pub record TellsAlignment (base : Base) (new answer : ℕ) : Type 0 where
  pub status : answer ≡ ok
  pub value : new ≡ alignment base

-- The call wrote the number of bits of a symbol.
pub record TellsWidth (base : Base) (new answer : ℕ) : Type 0 where
  pub status : answer ≡ ok
  pub value : new ≡ base.width

-- The texts of a specification, one after another.
abbrev pub texts_of : Fields → List ℕ
texts_of f = f.symbols ++ (f.ignored ++ (f.separator ++ (f.from ++ f.to)))

-- The form, with the texts of `fields`, means the specification `fields`, and `lengths` has the
-- lengths of the texts.
pub record AsksFor (fields : Fields) (form : Form) (lengths : TextLengths) : Type 0 where
  pub fields_are : fields_asked form fields.symbols fields.ignored fields.separator fields.from
      fields.to ≡ fields
  pub symbols : lengths.symbols ≡ length fields.symbols
  pub ignore : lengths.ignore ≡ length fields.ignored
  pub separator : lengths.separator ≡ length fields.separator
  pub from : lengths.translate_from ≡ length fields.from
  pub to : lengths.translate_to ≡ length fields.to

-- The places that a call for a specification may change.
pub record SpecificationPlaces : Type 0 where
  pub form : Form
  pub lengths : TextLengths
  pub texts : List ℕ

-- The call wrote the specification of the encoding, or failed and changed nothing.
pub record GivesBack (base : Base) (old new : SpecificationPlaces) (answer : ℕ) : Type 0 where
  pub status : answer ≡ front_status (texts_of (fields_of base)) (length old.texts)
  pub texts : answer ≡ ok → new.texts ≡ over (texts_of (fields_of base)) old.texts
  pub asks : answer ≡ ok → AsksFor (fields_of base) new.form new.lengths
  pub refused : (answer ≡ ok → ⊥) → new ≡ old
