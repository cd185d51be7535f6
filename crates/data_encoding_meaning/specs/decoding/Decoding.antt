-- The promises of the steps of a decoding: a run of whole groups, the next group, and its
-- validation.
use Rattle.std.specs.Prelude.{◌≡◌, ℕ, ◌+◌, ◌-◌, ◌*◌, ◌/◌, ◌%◌, ◌<◌, ◌≤◌, ◌⊎◌, nat_lt, Bool, true, false, List, [], length, map, take, drop, flat_map, if◌then◌else◌, None, is_some, slice_index}
use Rattle.std.specs.List.{list_any}
use Rattle.data_encoding_meaning.specs.declared.error.DecodePartial.{DecodePartial}
use Rattle.data_encoding_meaning.specs.declared.error.GroupFault.{GroupFault}
use Rattle.data_encoding_meaning.specs.text.Base.{Base, meaning, is_ignored, is_padded, is_padding, group_symbols}
use Rattle.data_encoding_meaning.specs.text.Bits.{runs}
use Rattle.data_encoding_meaning.specs.text.Grammar.{Means, Positioned, groups, kept, kept_from, bytes_in}
use Rattle.data_encoding_meaning.specs.text.Lengths.{greatest_valid_length, is_valid_count}
use Rattle.data_encoding_meaning.specs.decoding.Fault.{bytes_of_group, count_before_padding, fault_after, fault_at, fault_of, group_fault, position_of, sound_bytes, symbol_bytes, symbols_fault, AreSound}
use Rattle.data_encoding_meaning.specs.decoding.Partial.{is_length_fault, position_after}

-- The bytes that `part`, consecutive whole groups of symbols, means.
abbrev pub run_bytes : Base → List ℕ → List ℕ
run_bytes base part =
    flat_map (symbol_bytes base) (runs (group_symbols base.width) (map (meaning base) part))

-- The first `read` bytes of the text were decoded to the first `written` bytes of the output. They
-- are whole groups without a fault, or all groups. The last group may be shorter if the base is not
-- padded.
pub record HasDecodedTo (base : Base) (text : List ℕ) (read written : ℕ) (ended : Bool)
    (output : List ℕ) : Type 0 where
  pub within : read ≤ length text
  pub sound : AreSound base false (groups base (take read text)) ended
  pub whole : (length (kept base (take read text)) % group_symbols base.width ≡ 0)
      ⊎ ((kept_from base read text ≡ []) × (is_padded base ≡ false))
  pub ends : position_after (kept base (take read text)) ≡ read
  pub fits : written ≤ length output
  pub writes : take written output ≡ flat_map (bytes_of_group base) (groups base (take read text))

-- The group is valid and has `count` symbols, and the output starts with their bytes.
pub record IsDecodedGroup (base : Base) (group : List ℕ) (count : ℕ) (new : List ℕ)
    : Type 0 where
  pub within : count ≤ length group
  pub sound : group_fault base group ≡ None
  pub final : list_any is_padding (map (meaning base) group) ≡ nat_lt count (length group)
  pub bytes : take (base.width * count / 8) new ≡ symbol_bytes base (map (meaning base) group)

-- The greatest number of symbols that `group` may have: those before its padding, or all.
abbrev pub most_symbols : Base → List ℕ → ℕ
most_symbols base group =
    if is_padded base then count_before_padding (map (meaning base) group) else length group

-- The number of symbols of the group, `count`, is valid. The fault of the group is the fault of its
-- symbols.
pub record HasSymbols (base : Base) (group : List ℕ) (count : ℕ) : Type 0 where
  pub count_is : count ≡ most_symbols base group
  pub within : count ≤ length group
  pub valid : is_valid_count base.width count ≡ true
  pub fault_is : group_fault base group ≡ symbols_fault base (map (meaning base) (take count group))

-- The group has the fault at its index, whether it follows a final group or not.
pub record HasFault (base : Base) (ended : Bool) (group : List ℕ) (fault : GroupFault)
    : Type 0 where
  pub inside : fault.index < length group
  pub is_fault : (placed : List Positioned) → bytes_in placed ≡ group
      → fault_after ended base placed ≡ fault_at fault.kind placed fault.index

-- The first `span` bytes of `part`, without the ignored bytes, are `bytes`, and end with a kept
-- byte. They are `size` bytes, or all kept bytes of `part`.
pub record IsGathered (base : Base) (size : ℕ) (part bytes : List ℕ) (span : ℕ) : Type 0 where
  pub within : span ≤ length part
  pub bytes_are : bytes_in (kept base (take span part)) ≡ bytes
  pub ends : 0 < span → is_ignored (meaning base (slice_index part (span - 1))) ≡ false
  pub few : length bytes ≤ size
  pub last : (length bytes ≡ size) ⊎ (length (kept base part) ≡ length bytes)

-- The first `count` bytes of `part` are ignored.
pub record IsIgnoredFront (base : Base) (part : List ℕ) (count : ℕ) : Type 0 where
  pub within : count ≤ length part
  pub none : kept base (take count part) ≡ []

-- The longest prefix of `rest` that has a valid length.
abbrev pub valid_front : Base → List ℕ → List ℕ
valid_front base rest = take (greatest_valid_length base (length rest)) rest

-- The longest prefix of valid length decodes to `written` bytes without ignoring any. It is empty,
-- or one group.
abbrev pub IsLastRun : Base → List ℕ → ℕ → List ℕ → Type 0
IsLastRun base rest written new =
    ((length (valid_front base rest) ≡ 0) × (written ≡ 0))
    ⊎ ((0 < length (valid_front base rest))
    × (length (valid_front base rest) ≤ group_symbols base.width)
    × (count : ℕ) × IsDecodedGroup base (valid_front base rest) count new
    × (written ≡ base.width * count / 8))

-- The longest prefix of valid length is not empty. It is longer than a group, or it is a group with
-- a fault.
abbrev pub HasNoLastRun : Base → List ℕ → Type 0
HasNoLastRun base rest =
    (0 < length (valid_front base rest))
    × (length (valid_front base rest) ≤ group_symbols base.width
    → is_some (group_fault base (valid_front base rest)) ≡ true)

-- `partial` reports the fault of a group, and how far the text was read and written. A last run is
-- read too, but only if the group is too short.
pub record IsStop (base : Base) (rest : List ℕ) (read written : ℕ) (fault : GroupFault)
    (new : List ℕ) (partial : DecodePartial) : Type 0 where
  pub error_is : partial.error ≡ record {
    position = read + position_of (kept base rest) fault.index;
    kind = fault.kind;
  }
  pub how : ((partial.read ≡ read) × (partial.written ≡ written)
      × (is_length_fault fault.kind ≡ true → HasNoLastRun base rest))
      ⊎ ((is_length_fault fault.kind ≡ true) × (partial.read ≡ partial.error.position)
      × (more : ℕ) × (partial.written ≡ written + more)
      × (written + more ≤ length new) × IsLastRun base rest more (drop written new))

-- The output has room for the longest prefix of valid length, if that is at most a group.
abbrev pub HasRoom : Base → List ℕ → ℕ → Type 0
HasRoom base rest room =
    length (valid_front base rest) ≤ group_symbols base.width
    → base.width * length (valid_front base rest) / 8 ≤ room

-- The text is valid, and means the first `written` bytes of the output.
pub record IsDecoded (base : Base) (text : List ℕ) (written : ℕ) (output : List ℕ) : Type 0 where
  pub fits : written ≤ length output
  pub no_fault : fault_of base text ≡ None
  pub bytes_are : sound_bytes base text ≡ take written output
  pub means : Means base text (take written output)
