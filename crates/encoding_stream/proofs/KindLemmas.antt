-- Which kinds of fault a whole group may have.
use Rattle.std.proofs.Common.{◌≡◌, ℕ, zero, suc, ◌*◌, ◌-◌, ◌≤◌, ◌==◌, Bool, true, false, not, cond, ◌&&◌, ◌||◌, List, [], ◌∷◌, length, take, drop, All, Option, None, Some, IfSome, is_some, refl, ap, ◌∙◌, arith, length-take-le}
use Rattle.std.proofs.lemmas.Bool.{le-ltb}
use Rattle.std.proofs.lemmas.List.{length-drop, length-map}
use Rattle.std.proofs.lemmas.List.Elements.{All-cons, All-head, All-nil, All-tail}
use Rattle.std.proofs.Math.Nat.{div-mul-le_self}
use Rattle.std.specs.List.{list_any, position}
use Rattle.std.specs.Simd.{first_chunks}
use Rattle.data_encoding.specs.declared.encoding.Character.{Character}
use Rattle.data_encoding.specs.declared.error.DecodeError.{DecodeError}
use Rattle.data_encoding.specs.declared.error.GroupFault.{GroupFault}
use Rattle.data_encoding.specs.declared.error.DecodeKind.TheVariants.{Padding as PaddingFault, Trailing as TrailingFault}
use Rattle.data_encoding.specs.Base.{Base, IsWidth, group_symbols, is_padded, is_padding, is_symbol}
use Rattle.data_encoding.specs.Fault.{character_fault, count_before_padding, fault_after, fault_at_first, faulty_at, first_after, first_fault, located, or_else, padded_fault_at, plain_fault, symbols_fault, trailing_bits}
use Rattle.data_encoding.specs.Fields.{IsSpecified}
use Rattle.data_encoding.specs.Grammar.{Positioned, is_final, kept, meanings_in}
use Rattle.data_encoding.specs.Lengths.{is_valid_count}
use Rattle.data_encoding.specs.Pieces.{whole_groups, JoinsUnpadded}
use Rattle.encoding_stream.specs.Resume.{is_of_group}
use Rattle.encoding_stream.proofs.SizeLemmas.{by_width}

symbols-kind : (base : Base) (group : List Character)
    → IfSome (symbols_fault base group) (λ fault. is_of_group base fault.kind ≡ true)
symbols-kind base group =
    by (position (λ m. not (is_symbol m)) group) base.checks_trailing_bits
    (list_any (λ bit. not (bit == 0)) (trailing_bits base group)) refl where
      by : (o : Option ℕ) (checks some : Bool) → base.checks_trailing_bits ≡ checks
          → IfSome (fault_at_first o
          (cond (checks && some) (faulty_at TrailingFault (length group - 1)) None))
          (λ fault. is_of_group base fault.kind ≡ true)
      by (Some index) checks some is = refl
      by None true true is = is
      by None true false is = tt
      by None false some is = tt

padding-kind : (base : Base) (group : List Character) (bad : Bool) (count : ℕ)
    → is_padded base ≡ true
    → IfSome (cond bad (faulty_at PaddingFault count) (symbols_fault base (take count group)))
    (λ fault. is_of_group base fault.kind ≡ true)
padding-kind base group true count padded = padded
padding-kind base group false count padded = symbols-kind base (take count group)

valid-group : (width : ℕ) → IsWidth width → is_valid_count width (group_symbols width) ≡ true
valid-group =
    by_width (λ w. is_valid_count w (group_symbols w) ≡ true) refl refl refl refl refl refl

whole-kind : (base : Base) (group : List Character) (padded : Bool) → is_padded base ≡ padded
    → IsWidth base.width → length group ≡ group_symbols base.width
    → IfSome (cond padded (padded_fault_at base group (count_before_padding group))
    (plain_fault base group))
    (λ fault. is_of_group base fault.kind ≡ true)
whole-kind base group true is width long =
    let count = count_before_padding group in
    let bad = count == 0 || not (is_valid_count base.width count) in
    rw (le-ltb (length group) (group_symbols base.width) (omega (arith, long)))
    (padding-kind base group bad count is)
whole-kind base group false is width long =
    rw (ap (is_valid_count base.width) long ∙ valid-group base.width width)
    (symbols-kind base group)

located-kind : (base : Base) (group : List Positioned) (o : Option GroupFault)
    → IfSome o (λ fault. is_of_group base fault.kind ≡ true)
    → IfSome (located group o) (λ error. is_of_group base error.kind ≡ true)
located-kind base group None h = tt
located-kind base group (Some fault) h = h

fault-kind : (base : Base) (ended : Bool) (group : List Positioned)
    → (ended ≡ true → is_padded base ≡ true) → IsWidth base.width
    → length group ≡ group_symbols base.width
    → IfSome (fault_after ended base group) (λ error. is_of_group base error.kind ≡ true)
fault-kind base true group padded width long = padded refl
fault-kind base false group padded width long =
    let same : length (meanings_in base group) ≡ length group = simp length-map in
    located-kind base group (character_fault base (meanings_in base group))
    (whole-kind base (meanings_in base group) (is_padded base) refl width (same ∙ long))

either-kind : (base : Base) (o other : Option DecodeError)
    → IfSome o (λ error. is_of_group base error.kind ≡ true)
    → IfSome other (λ error. is_of_group base error.kind ≡ true)
    → IfSome (or_else o other) (λ error. is_of_group base error.kind ≡ true)
either-kind base None other h k = k
either-kind base (Some error) other h k = h

-- if a group is final, texts are padded
padded-by : (padding : Option ℕ) (joins some : Bool) → (padding ≡ None → joins ≡ true)
    → (not joins && some) ≡ true → is_some padding ≡ true
padded-by (Some byte) joins some law final = refl
padded-by None true some law final = absurd (cc final)
padded-by None false some law final = absurd (cc (law refl))

first-kind : (base : Base) → IsSpecified base → JoinsUnpadded → IsWidth base.width
    → (ended : Bool) (parts : List (List Positioned)) → (ended ≡ true → is_padded base ≡ true)
    → All (λ group. length group ≡ group_symbols base.width) parts
    → IfSome (first_after ended base parts) (λ error. is_of_group base error.kind ≡ true)
first-kind base is law width ended [] padded whole = tt
first-kind base is law width ended (group ∷ others) padded whole =
    let Q : List Positioned → Type 0 = λ g. length g ≡ group_symbols base.width in
    either-kind base (fault_after ended base group) (first_after (is_final base group) base others)
    (fault-kind base ended group padded width (All-head Q group others whole))
    (first-kind base is law width (is_final base group) others
    (λ final. padded-by base.padding base.concatenates
    (list_any is_padding (meanings_in base group)) (law base is) final)
    (All-tail Q group others whole))

chunks-whole : (size count : ℕ) (ks : List Positioned) → count * size ≤ length ks
    → All (λ group. length group ≡ size) (first_chunks size count ks)
chunks-whole size zero ks few = All-nil _
chunks-whole size (suc count) ks few =
    All-cons (λ (g : List Positioned). length g ≡ size) (take size ks)
    (first_chunks size count (drop size ks)) (length-take-le size ks (omega (arith, few)))
    (chunks-whole size count (drop size ks) (omega (arith, few, length-drop size ks)))

pub group-kind : (base : Base) → IsSpecified base → JoinsUnpadded → IsWidth base.width
    → (text : List ℕ)
    → IfSome (first_fault base (whole_groups base text))
    (λ error. is_of_group base error.kind ≡ true)
group-kind base is law width text =
    first-kind base is law width false (whole_groups base text) (λ no. absurd (cc no))
    (chunks-whole (group_symbols base.width) _ (kept base text)
    (div-mul-le_self (length (kept base text)) (group_symbols base.width)))
