-- The one fault of a text that means no data, and the bytes of the groups before it.
use Rattle.std.specs.Prelude.{◌≡◌, ◌<◌, ℕ, ◌-◌, ◌*◌, ◌/◌, ◌==◌, nat_lt, Bool, false, not, ◌&&◌, ◌||◌, if◌then◌else◌, List, [], ◌∷◌, map, reverse, length, flat_map, take, drop, take_while, Option, Some, None, is_some, slice_index_or, position}
use Rattle.std.specs.List.{list_any, filter_map}
use Rattle.data_encoding_meaning.specs.declared.error.GroupFault.{GroupFault}
use Rattle.data_encoding_meaning.specs.declared.encoding.Character.{Character}
use Rattle.data_encoding_meaning.specs.declared.error.DecodeKind.{DecodeKind}
use Rattle.data_encoding_meaning.specs.declared.error.DecodeKind.TheVariants.{Length as LengthFault, Symbol as SymbolFault, Trailing as TrailingFault, Padding as PaddingFault}
use Rattle.data_encoding_meaning.specs.declared.error.DecodeError.{DecodeError}
use Rattle.data_encoding_meaning.specs.text.Base.{Base, meaning, is_symbol, value_of, is_padding, is_padded, group_symbols}
use Rattle.data_encoding_meaning.specs.text.Bits.{bits_of, number_of, runs}
use Rattle.data_encoding_meaning.specs.text.Grammar.{Positioned, bytes_in, groups, is_final, meanings_in}
use Rattle.data_encoding_meaning.specs.declared.error.DecodeFault.{DecodeFault}
use Rattle.data_encoding_meaning.specs.declared.error.DecodeFault.TheVariants.{Error, OutOfMemory}
use Rattle.data_encoding_meaning.specs.text.Lengths.{is_valid_count, greatest_valid_count, length_fault, most_bytes}

-- The bits of the symbols of `group`.
abbrev pub symbol_bits : Base → List Character → List ℕ
symbol_bits base group =
    flat_map (bits_of base.order base.width) (filter_map value_of group)

-- The trailing bits: those after the last whole byte.
abbrev pub trailing_bits : Base → List Character → List ℕ
trailing_bits base group = drop (length (symbol_bits base group) / 8 * 8) (symbol_bits base group)

-- The whole bytes that the symbols of `group` mean.
abbrev pub symbol_bytes : Base → List Character → List ℕ
symbol_bytes base group =
    map (number_of base.order)
    (runs 8 (take (length (symbol_bits base group) / 8 * 8) (symbol_bits base group)))

-- The bytes that the symbols of `group` mean, for a group with positions.
abbrev pub bytes_of_group : Base → List Positioned → List ℕ
bytes_of_group base group = symbol_bytes base (meanings_in base group)

-- A fault of a group, at the given index in the group.
abbrev pub faulty_at : DecodeKind → ℕ → Option GroupFault
faulty_at kind index = Some (record { index = index; kind = kind })

-- The fault of the trailing bits, if they are checked and not all zeros. It is at the last symbol.
abbrev pub trailing_fault : Base → List Character → Option GroupFault
trailing_fault base symbols =
    if base.checks_trailing_bits && list_any (λ bit. not (bit == 0)) (trailing_bits base symbols)
    then faulty_at TrailingFault (length symbols - 1) else None

-- An invalid symbol at the given index, or else the other fault.
abbrev pub fault_at_first : Option ℕ → Option GroupFault → Option GroupFault
fault_at_first None otherwise = otherwise
fault_at_first (Some index) otherwise = faulty_at SymbolFault index

-- The fault of the symbols of a group: the first character that is not a symbol, or else the
-- trailing bits.
abbrev pub symbols_fault : Base → List Character → Option GroupFault
symbols_fault base symbols =
    fault_at_first (position (λ m. not (is_symbol m)) symbols) (trailing_fault base symbols)

-- The fault of a group without padding: the fault of its length, or else of its symbols.
abbrev pub plain_fault : Base → List Character → Option GroupFault
plain_fault base group =
    if is_valid_count base.width (length group) then symbols_fault base group
    else faulty_at LengthFault (greatest_valid_count base.width (length group))

-- The number of characters of `group` before the padding at its end.
abbrev pub count_before_padding : List Character → ℕ
count_before_padding group = length group - length (take_while is_padding (reverse group))

-- The fault of a padded group with `count` characters before its padding: of its length, or else of
-- its padding, or else of its symbols.
abbrev pub padded_fault_at : Base → List Character → ℕ → Option GroupFault
padded_fault_at base group count =
    if nat_lt (length group) (group_symbols base.width) then faulty_at LengthFault 0
    else if count == 0 || not (is_valid_count base.width count) then faulty_at PaddingFault count
    else symbols_fault base (take count group)

-- The fault of a group of characters.
abbrev pub character_fault : Base → List Character → Option GroupFault
character_fault base group =
    if is_padded base then padded_fault_at base group (count_before_padding group)
    else plain_fault base group

-- The fault of the bytes of a group, as an index in the group.
abbrev pub group_fault : Base → List ℕ → Option GroupFault
group_fault base bytes = character_fault base (map (meaning base) bytes)

-- The position in the text of the character at `index` of `group`.
abbrev pub position_of : List Positioned → ℕ → ℕ
position_of group index = (slice_index_or group index (record { position = 0; byte = 0 })).position

-- A fault at `index` of `group`, as a position in the text.
abbrev pub fault_at : DecodeKind → List Positioned → ℕ → Option DecodeError
fault_at kind group index =
    Some (record { position = position_of group index; kind = kind })

-- The fault of `group`, if there is one, as a position in the text.
abbrev pub located : List Positioned → Option GroupFault → Option DecodeError
located group None = None
located group (Some fault) = fault_at fault.kind group fault.index

-- The first fault, or else the second.
abbrev pub or_else : Option DecodeError → Option DecodeError → Option DecodeError
or_else None other = other
or_else (Some fault) other = Some fault

-- The fault of `group`. If it follows a final group, the fault is `Padding`, at its first byte.
abbrev pub fault_after : Bool → Base → List Positioned → Option DecodeError
fault_after ended base group =
    if ended then fault_at PaddingFault group 0
    else located group (group_fault base (bytes_in group))

-- The groups before the first faulty one. If `ended` is true, the first of them follows a final
-- group.
abbrev pub sound_after : Bool → Base → List (List Positioned) → List (List Positioned)
sound_after ended base [] = []
sound_after ended base (group ∷ others) =
    if is_some (fault_after ended base group) then []
    else group ∷ sound_after (is_final base group) base others

-- The groups of a text before the first faulty one.
abbrev pub sound_groups : Base → List (List Positioned) → List (List Positioned)
sound_groups base groups = sound_after false base groups

-- The fault of the first faulty group. If `ended` is true, the first group follows a final group.
abbrev pub first_after : Bool → Base → List (List Positioned) → Option DecodeError
first_after ended base [] = None
first_after ended base (group ∷ others) =
    or_else (fault_after ended base group) (first_after (is_final base group) base others)

-- The fault of the first faulty group of a text.
abbrev pub first_fault : Base → List (List Positioned) → Option DecodeError
first_fault base groups = first_after false base groups

-- The fault of `text`: the fault of its length, if nothing is ignored, or else of its first faulty
-- group.
abbrev pub fault_of : Base → List ℕ → Option DecodeError
fault_of base text =
    or_else (length_fault base (length text)) (first_fault base (groups base text))

-- The sound bytes of `text`: those of the groups before the first faulty one.
abbrev pub sound_bytes : Base → List ℕ → List ℕ
sound_bytes base text = flat_map (bytes_of_group base) (sound_groups base (groups base text))

-- A decoding may fail with the fault of the text, or because memory runs out, if the length of the
-- text is not a fault and allows data.
abbrev pub IsRefusal : Base → List ℕ → DecodeFault → Type 0
IsRefusal base text (Error error) = fault_of base text ≡ Some error
IsRefusal base text OutOfMemory =
    (length_fault base (length text) ≡ None) × (0 < most_bytes base (length text))

-- No group has a fault. `begun` is true if the first group follows a final group, and `ended` if
-- the last group is final.
abbrev pub AreSound : Base → Bool → List (List Positioned) → Bool → Type 0
AreSound base begun [] ended = begun ≡ ended
AreSound base begun (group ∷ others) ended =
    (fault_after begun base group ≡ None) × AreSound base (is_final base group) others ended
