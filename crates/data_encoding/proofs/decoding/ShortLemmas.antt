-- Whole groups of symbols more, where no byte before them is ignored since the last group.
use Rattle.std.proofs.Common.{◌≡◌, ℕ, zero, suc, Some, is_some, ◌+◌, ◌-◌, ◌*◌, ◌/◌, ◌<◌, ◌≤◌, true, List, [], ◌++◌, length, take, drop, get_or, replicate, refl, sym, ap, ◌∙◌, arith, length-append, append-nil, subst}
use Rattle.std.proofs.Math.Nat.{div-mul-le_self, zero-mul}
use Rattle.std.proofs.lemmas.List.{length-drop, length-take, take-append-le, take-take, take_all, take_at, take_rest}
use Rattle.data_encoding_meaning.specs.text.Base.{Base, IsWidth, group_bytes, group_symbols, is_padding, is_symbol, meaning}
use Rattle.data_encoding_meaning.specs.decoding.Decoding.{run_bytes}
use Rattle.data_encoding_meaning.proofs.decoding.IgnoredFrontLemmas.{no_front}
use Rattle.data_encoding_meaning.proofs.decoding.ProgressLemmas.{after-run, begin, room-run, same-output}
use Rattle.data_encoding_meaning.proofs.digits.WidthLemmas.{by_width, group_symbols-pos}
use Rattle.data_encoding_meaning.proofs.grammar.LengthLemmas.{decoded_len-counted}
use Rattle.data_encoding_meaning.proofs.lists.RunLemmas.{runs-nil}
use Rattle.data_encoding_meaning.proofs.lists.WriteLemmas.{length-rewritten_same, rewritten, take-rewritten}
use Rattle.data_encoding_meaning.specs.declared.encoding.Character.{Character}
use Rattle.data_encoding_kernel.specs.Fronts.{IsFront}
use Rattle.data_encoding_kernel.specs.Tables.{HoldsValues, Reads}
use Rattle.data_encoding_kernel.specs.declared.simd.decode.last_symbols.Front.{Front}
use Rattle.data_encoding_kernel.specs.declared.simd.decode.last_symbols.Join.{Join}
use Rattle.data_encoding_kernel.proofs.digits.GroupFrontLemmas.{front-same}
use Rattle.data_encoding.specs.Endings.{HasReachedTo, IsFrontOf, JoinsSymbols}
use Rattle.data_encoding.specs.Progress.{HasExactOutput, ReadsBy}
use Rattle.data_encoding.specs.declared.decode.groups.Entries.{Entries}
use Rattle.data_encoding.specs.Encoding.{EncodingTables, KeepsPadding, KeepsRules, base_of_tables}
use Rattle.data_encoding.specs.PlainTables.{padding_by}
use Rattle.std.proofs.lemmas.Bool.Decides.{nat_tests}
use Rattle.data_encoding.proofs.tables.TableLemmas.{HoldsValues-seen}
use Rattle.data_encoding_meaning.proofs.lists.PartLemmas.{groups-within}
use Rattle.data_encoding_kernel.proofs.decoding.FrontRunLemmas.{front-run}
use Rattle.data_encoding.proofs.decoding.OutputLemmas.{exact-same}

-- the symbols of a base that are joined have a width
pub joins-width : {base : Base} {join : Join} → JoinsSymbols base join → IsWidth base.width
joins-width joins =
    subst IsWidth joins.width_is
    (record { some = joins.is_join.some; few = joins.is_join.few })

-- a table is read by the sizes of the base
pub joins-reads : {base : Base} {join : Join} {values : List ℕ} → JoinsSymbols base join
    → HoldsValues base values → Reads base values join.width join.order
joins-reads joins holds =
    record { width_is = sym joins.width_is; order_is = sym joins.order_is; holds = holds }

-- the sizes by which a table is read
pub read-joins : {L : Type 0} {holds : List ℕ → L → Type 0} {base : Base} {entries : Entries L}
    → ReadsBy holds base entries → JoinsSymbols base entries.join.now
read-joins by =
    record {
      is_join = by.join;
      width_is = sym by.reads.width_is;
      order_is = sym by.reads.order_is;
    }

-- an entry that is a padding character
pub padding-some : (entry : ℕ) → is_some (padding_by entry) ≡ true → padding_by entry ≡ Some entry
padding-some entry h = grind (arith, nat_tests)

-- the padding character is padding
pub padding-means : (e : EncodingTables) → KeepsRules e → (base : Base) → base_of_tables e ≡ base
    → (character : ℕ) → e.padding ≡ Some character → is_padding (meaning base character) ≡ true
padding-means e rules base is character some =
    let kept : KeepsPadding (Some character) e.width e.values =
    subst (λ o. KeepsPadding o e.width e.values) some rules.padding in
    (HoldsValues-seen e rules base is).paddings character (omega (arith, kept.0))
    ∙ rw kept.1 refl

-- nothing is decoded at the start
pub start-reached : {base : Base} → IsWidth base.width → {text output : List ℕ}
    → HasExactOutput base text output → HasReachedTo base text 0 0 output
start-reached {base} width {text} {output} exact = record {
  exact = exact;
  so_far = begin base width text output;
  front = no_front base text;
}

-- sixteen symbols are whole groups
pub sixteen : (width : ℕ) → IsWidth width
    → (16 / group_symbols width * group_symbols width ≡ 16)
    × (16 / group_symbols width * group_bytes width ≡ 2 * width)
sixteen =
    by_width (λ w. (16 / group_symbols w * group_symbols w ≡ 16)
    × (16 / group_symbols w * group_bytes w ≡ 2 * w))
    (refl, refl) (refl, refl) (refl, refl) (refl, refl) (refl, refl) (refl, refl)

module _ {base : Base} (width : IsWidth base.width) {text output : List ℕ} {read written : ℕ}
    (at : HasReachedTo base text read written output) where
  abbrev dec : ℕ
  dec = group_symbols base.width

  abbrev enc : ℕ
  enc = group_bytes base.width

  -- there is room for whole groups
  pub room-groups : (count : ℕ) → count * dec ≤ length text - read
      → written + count * enc ≤ length output
  room-groups count few =
      omega (
        arith,
        room-run base width text at.so_far count few,
        (decoded_len-counted base (length text) (length output) at.exact.len).1,
      )

  pub room-all : length (drop read text) / dec * enc ≤ length output - written
  room-all =
      let count = length (drop read text) / dec in
      omega (
        arith,
        room-groups count
            (omega (arith, div-mul-le_self (length (drop read text)) dec, length-drop read text)),
      )

  pub run-reached : (new : List ℕ) → length new ≡ length output → (count : ℕ)
      → count * dec ≤ length text - read
      → ((k : ℕ) → k < count * dec
      → is_symbol (meaning base (get_or (drop read text) k 0)) ≡ true)
      → take (written + count * enc) new
      ≡ take written output ++ run_bytes base (take (count * dec) (drop read text))
      → HasReachedTo base text (read + count * dec) (written + count * enc) new
  run-reached new new_len zero few symbols writes =
      let pos = group_symbols-pos base.width width in
      let stays : read ≡ read + zero * dec = rw (zero-mul dec) (omega arith) in
      let same : written ≡ written + zero * enc = rw (zero-mul enc) (omega arith) in
      let none : run_bytes base (take (zero * dec) (drop read text)) ≡ [] =
      rw (zero-mul dec, runs-nil {X = Character} dec pos) refl in
      let kept : take written new ≡ take written output =
      ap (λ n. take n new) same ∙ writes ∙ ap (λ l. take written output ++ l) none
      ∙ append-nil (take written output) in
      record {
        exact = exact-same at.exact new_len;
        so_far = rw (← stays, ← same) (same-output base width text new at.so_far
            (omega (arith, at.so_far.fits, new_len)) kept);
        front = no_front base _;
      }
  run-reached new new_len (suc n) few symbols writes =
      let place : read + 0 ≡ read = omega arith in
      record {
        exact = exact-same at.exact new_len;
        so_far = rw place at (after-run base width text (suc n) new at.so_far
            (no_front base (drop read text)) (omega arith) (rw place few) (rw place symbols)
            (omega (arith, room-groups (suc n) few, new_len)) (rw place writes));
        front = no_front base _;
      }

  abbrev room : List ℕ
  room = take (length output - written) (drop written output)

  room_len : length room ≡ length output - written
  room_len = ap length (take_rest output written) ∙ length-drop written output

  -- the whole groups of the symbols that follow
  module _ {bytes : List ℕ} {n : ℕ} (front : IsFront base (drop read text) n bytes)
      (enough : n ≤ length text - read) where
    abbrev groups : ℕ
    groups = n / dec

    few : groups * dec ≤ length text - read
    few = omega (arith, enough, groups-within n dec)

    pub front-room : groups * enc ≤ length room
    front-room = omega (arith, room-groups groups few, room_len)

    pub front-reached : (new : List ℕ) → length new ≡ length room
        → take (groups * enc) new ≡ take (groups * enc) bytes
        → HasReachedTo base text (read + groups * dec) (written + groups * enc)
        (rewritten written output new)
    front-reached new new_len is_new =
        let run = front-run base width (drop read text) bytes [] new n
        (omega (arith, enough, length-drop read text)) front is_new in
        run-reached (rewritten written output new)
        (length-rewritten_same written output new at.so_far.fits new_len) groups few run.are_symbols
        (take-rewritten written output new at.so_far.fits (groups * enc)
        ∙ ap (λ l. take written output ++ l) run.bytes)

-- the symbols at the start of a part
pub front-part : (base : Base) {part : List ℕ} (rest : List ℕ) (n : ℕ) {bytes : List ℕ}
    → IsFront base part n bytes → part ≡ take n rest → IsFront base rest n bytes
front-part base {part} rest n {bytes} front is =
    front-same base part rest n bytes (ap (take n) is ∙ take-take n n rest (omega arith)) front

-- what is stored of a vector
pub stored : (bytes room new : List ℕ) (m : ℕ) → new ≡ take m bytes ++ drop m room
    → length new ≡ length room → m ≤ length room → take m new ≡ take m bytes
stored bytes room new m is len few =
    let taken : length (take m bytes) ≡ m =
    omega (
      arith,
      length-append (take m bytes) (drop m room),
      ap length is,
      len,
      length-drop m room,
      few,
    ) in
    ap (take m) is ∙ take_at (take m bytes) (drop m room) m taken

-- the symbols at the start of a vector, which has the first bytes of the rest and then zeros
pub loaded : (base : Base) (rest : List ℕ) (front : Front) (bytes : List ℕ)
    → bytes ≡ take 16 rest ++ replicate (16 - length rest) 0 → front.text ≡ bytes
    → front.symbols ≤ 16 → front.symbols ≤ length rest
    → IsFront base bytes front.symbols front.bytes → IsFrontOf base rest front
loaded base rest front bytes is text few within symbols =
    let zeros = replicate (16 - length rest) 0 in
    record {
      few = few;
      within = within;
      text = λ short.
          let all : take 16 rest ≡ rest = take_all 16 rest short in
          ap (take (length rest)) (text ∙ is ∙ ap (λ l. l ++ zeros) all)
          ∙ take_at rest zeros (length rest) refl;
      symbols = front-same base bytes rest front.symbols front.bytes
          (ap (take front.symbols) is
          ∙ take-append-le front.symbols (take 16 rest) zeros
          (omega (arith, few, within, length-take 16 rest))
          ∙ take-take front.symbols 16 rest few) symbols;
    }
