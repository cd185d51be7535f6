-- The table of values, and the meaning of its entries.
use Rattle.std.specs.Prelude.{◌≡◌, ℕ, ◌==◌, nat_lt, Bool, ◌&&◌, ◌||◌, IsTrue, if◌then◌else◌, List, take, drop, replicate}
use Rattle.std.specs.List.{list_all}
use Rattle.data_encoding_meaning.specs.declared.encoding.Character.{Character}
use Rattle.data_encoding_meaning.specs.declared.encoding.Character.TheVariants.{Symbol, Padding, Ignored, Invalid}

-- The meaning of an entry. A value below 64 is a symbol, 129 is ignored, 130 is padding, and any
-- other is invalid.
abbrev pub meaning_of_entry : ℕ → Character
meaning_of_entry entry =
    if nat_lt entry 64 then Symbol entry
    else if entry == 129 then Ignored
    else if entry == 130 then Padding
    else Invalid

-- `true` if `entry` is allowed with `count` symbols.
abbrev pub is_entry_of : ℕ → ℕ → Bool
is_entry_of count entry = nat_lt entry count || (nat_lt 127 entry && nat_lt entry 131)

-- Each byte below 128 has a valid entry, and each byte from 128 on is invalid.
pub record HoldsEntries (values : List ℕ) : Type 0 where
  pub entries : IsTrue (list_all (is_entry_of 64) (take 128 values))
  pub invalid_from_128 : drop 128 values ≡ replicate 128 128
