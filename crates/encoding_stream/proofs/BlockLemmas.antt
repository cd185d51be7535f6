-- Data in pieces, by the law that joins the texts of whole blocks.
use Rattle.std.proofs.Common.{◌≡◌, ℕ, ◌+◌, ◌%◌, ◌<◌, List, [], ◌++◌, length, refl, sym, ap, ◌∙◌, subst, arith, length-append}
use Rattle.std.proofs.Math.Nat.{mod-add-mod, mul-mod_left, zero-add, zero-mul}
use Rattle.std.proofs.lemmas.List.{nil_from_length}
use Rattle.data_encoding.specs.Base.{Base}
use Rattle.data_encoding.specs.Fields.{IsSpecified}
use Rattle.data_encoding.specs.EncodedPieces.{HasEncoded}
use Rattle.data_encoding.specs.Laws.{JoinEncode}
use Rattle.data_encoding.specs.Layout.{fields_of}
use Rattle.data_encoding.specs.Lengths.{alignment}
use Rattle.data_encoding.specs.Text.{text_of}
use Rattle.encoding_stream.specs.Specified.{IsBuiltAgain}

-- no bytes are whole blocks
pub none-whole : (size : ℕ) → 0 % size ≡ 0
none-whole size = subst (λ n. n % size ≡ 0) (zero-mul size) (mul-mod_left 0 size)

-- the lengths of whole blocks, one after another
pub whole-both : (m n size : ℕ) → m % size ≡ 0 → n % size ≡ 0 → (m + n) % size ≡ 0
whole-both m n size one other =
    sym (mod-add-mod m size n) ∙ ap (λ k. (k + n) % size) one ∙ ap (λ k. k % size) (zero-add n) ∙
    other

module _ (base : Base) (specified : IsSpecified base) (join : JoinEncode) where
  -- the text of no data is empty
  pub text_of-nil : text_of base [] ≡ []
  text_of-nil =
      let twice = join base specified [] [] (none-whole (alignment base)) in
      nil_from_length (text_of base [])
      (omega (arith, ap length twice, length-append (text_of base []) (text_of base [])))

  -- nothing was read, and nothing written
  pub encoded-none : 0 < alignment base → HasEncoded base [] [] [] []
  encoded-none some = record {
    encoded = [];
    are_bytes = refl;
    is_aligned = none-whole (alignment base);
    is_short = some;
    is_written = sym text_of-nil;
  }

  -- the bytes held are encoded at the end
  pub encoded-last : (held bytes text : List ℕ) → HasEncoded base [] bytes text held
      → text_of base bytes ≡ text ++ text_of base held
  encoded-last held bytes text has =
      ap (text_of base) has.are_bytes ∙ join base specified has.encoded held has.is_aligned
      ∙ ap (λ t. t ++ text_of base held) (sym has.is_written)

pub built-again : {base : Base} → IsBuiltAgain base → IsSpecified base
built-again {base} is = record { fields = fields_of base; is_built = is.is_built }
