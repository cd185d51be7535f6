-- Worked rows: an encoding as plain data, and one that is lent.
use Rattle.std.proofs.Common.{◌≡◌, true, false, [], ◌∷◌, take, Some, None, refl}
use Rattle.data_encoding_meaning.specs.declared.encoding.BitOrder.TheVariants.{MostSignificantFirst, LeastSignificantFirst}
use Rattle.data_encoding_meaning.specs.text.Base.{wrapping_by}
use Rattle.data_encoding_kernel.specs.declared.simd.decode.affine.PlainAffine.{PlainAffine}
use Rattle.data_encoding_kernel.specs.declared.simd.encode.offset_alphabet.PlainOffsets.{PlainOffsets}
use Rattle.data_encoding.specs.declared.encoding.lent_encoding.LentEncoding.{LentEncoding}
use Rattle.data_encoding.specs.declared.encoding.plain_encoding.PlainEncoding.{PlainEncoding}
use Rattle.data_encoding.specs.declared.encoding.plain_encoding.PlainFields.{PlainFields}
use Rattle.data_encoding.specs.Lent.{base_of_lent}
use Rattle.data_encoding.specs.Plain.{base_of_plain}
use Rattle.data_encoding.specs.PlainTables.{order_by, padding_by, plain_tables}

-- the forms of tables that have none
abbrev no_form : PlainAffine
no_form = record { symbols = []; deltas = []; shared = []; is_affine = false }

abbrev no_offsets : PlainOffsets
no_offsets = record { last = []; bound = 0; first = 0; has_offsets = false }

-- what is kept besides the tables of BASE64_MIME
abbrev plain_mime : PlainFields
plain_mime = record {
  symbols = record { entries = []; form = no_offsets };
  values = record { entries = []; form = no_form };
  width = 6;
  column = 76;
  padding = 61;
  least_significant_first = false;
  checks_trailing_bits = true;
  concatenates = true;
  ignores = true;
}

plain_read :
    ((plain_tables plain_mime (13 ∷ 10 ∷ [])).separator ≡ 13 ∷ 10 ∷ [])
    × ((plain_tables plain_mime []).padding ≡ Some 61)
    × ((plain_tables plain_mime []).order ≡ MostSignificantFirst)
    × (padding_by 128 ≡ None) × (order_by true ≡ LeastSignificantFirst)
plain_read = (refl, refl, refl, refl, refl)

plain_seen : (plain : PlainEncoding) → plain.fields.width ≡ 6 → (base_of_plain plain).width ≡ 6
plain_seen plain width = width

lent_seen : (lent : LentEncoding) → lent.fields.now.width ≡ 6 → (base_of_lent lent).width ≡ 6
unfolding base_of_lent
lent_seen lent width = width

plain_lines : (plain : PlainEncoding) → plain.fields.column ≡ 76
    → plain.separator ≡ 13 ∷ 10 ∷ 0 ∷ [] → plain.separator_len ≡ 2
    → (base_of_plain plain).wrapping ≡ Some (record { column = 76; separator = 13 ∷ 10 ∷ [] })
plain_lines plain column separator len =
    λ i. wrapping_by (column i) (take (len i) (separator i))
