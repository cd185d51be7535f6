use Rattle.std.proofs.Common.{◌≡◌, ℕ, ◌*◌, ◌/◌, ◌<◌, ◌==◌, false, not, map, take, slice_index, sym, ap, ◌∙◌, arith}
use Rattle.std.specs.List.{list_any}
use Rattle.data_encoding_kernel.specs.Fronts.{IsFront}
use Rattle.data_encoding_meaning.specs.decoding.Fault.{trailing_bits}
use Rattle.data_encoding_meaning.specs.text.Base.{meaning}
use Rattle.data_encoding_meaning.proofs.decoding.GroupJudgementLemmas.{room-symbols}
use Rattle.data_encoding.proofs.decoding.JudgedGroupLemmas.{front-is, front-symbols, group-sound, set-byte, some-trailing, symbol-bits, symbol-fault, trailing-fault}
use Rattle.data_encoding.proofs.encoding.EncodingRef.decode_group.Given.{Over}
use Rattle.data_encoding.proofs.encoding.EncodingRef.decode_group.Goals.{Else-front-count, else-self-via-then-self+else-front-written-ne0, else-self-via-else-self}
use Rattle.data_encoding.proofs.encoding.EncodingRef.decode_group.Goals as goal

pub returns-then-front-count-clause-fault : goal.returns-then-front-count-clause-fault
returns-then-front-count-clause-fault g c =
    let group = c.args.group.now in
    let values = c.args.entries.values.now in
    let count = c.in-Ok.count in
    let found = c.front_of_group-front in
    let holds = c.requires.entries.reads.holds in
    let fits : (k : ℕ) → slice_index group k < 256 = λ k. (c.type_inv.group k).fits in
    rw c.faulty.ensures
    (symbol-fault c.args.self.now group count c.in-Ok.ensures.symbols found.result.symbols
    c.if-front-count.true
    (found.ensures.front c.args.self.now c.requires.entries.reads).are_symbols
    (holds.others (slice_index group found.result.symbols) (fits found.result.symbols)
    (found.ensures.stop (omega (arith, c.if-front-count.true, c.in-Ok.ensures.symbols.within)))))

pub bytes_len-written-requires : goal.bytes_len-written-requires
bytes_len-written-requires g c =
    let few = symbol-bits c.requires.entries.join (sym c.requires.entries.reads.width_is)
    c.in-Ok.ensures.symbols.within c.requires.few in
    record { fits = omega (arith, few) }

pub store_lanes-requires-clause-few : goal.store_lanes-requires-clause-few
store_lanes-requires-clause-few g c =
    let few = symbol-bits c.requires.entries.join (sym c.requires.entries.reads.width_is)
    c.in-Ok.ensures.symbols.within c.requires.few in
    omega (arith, few, c.bytes_len-written.ensures)

pub store_lanes-requires-clause-room : goal.store_lanes-requires-clause-room
store_lanes-requires-clause-room g c =
    rw c.bytes_len-written.ensures
    (room-symbols (sym c.requires.entries.reads.width_is) c.in-Ok.ensures.symbols.within
    (c.requires.room c.in-Ok.ensures.whole))

pub bounds-front-written : goal.bounds-front-written
bounds-front-written g c =
    let few = symbol-bits c.requires.entries.join (sym c.requires.entries.reads.width_is)
    c.in-Ok.ensures.symbols.within c.requires.few in
    omega (arith, few, c.bytes_len-written.ensures)

-- the symbols before the padding
front : (g : Over) (c : Else-front-count g)
    → IsFront c.args.self.now c.args.group.now c.in-Ok.count c.front_of_group-front.result.bytes
front g c =
    let found = c.front_of_group-front in
    front-is c.args.self.now c.args.group.now c.in-Ok.count c.in-Ok.ensures.symbols
    found.result.symbols
    found.result.bytes found.ensures.few c.if-front-count.false
    (found.ensures.front c.args.self.now c.requires.entries.reads)

pub overflow_sub-count : goal.overflow_sub-count
overflow_sub-count g c =
    let before = (goal.at.overflow_sub-count g c).Else-front-count in
    let count = c.in-Ok.count in
    let bytes = c.front_of_group-front.result.bytes in
    let bits : c.args.self.now.width * count / 8 ≡ c.bytes_len-written.result =
    ap (λ w. w * count / 8) c.requires.entries.reads.width_is ∙ sym c.bytes_len-written.ensures in
    some-trailing c.args.self.now c.args.group.now count bytes (front g before)
    (λ none. c.if-front-written-ne0.true (ap (λ m. slice_index bytes m) (sym bits) ∙ none))

pub returns-then-front-written-ne0-clause-fault : goal.returns-then-front-written-ne0-clause-fault
returns-then-front-written-ne0-clause-fault g c =
    let before = (goal.at.returns-then-front-written-ne0-clause-fault g c).Else-front-count in
    let seen = c.args.self.now in
    let group = c.args.group.now in
    let count = c.in-Ok.count in
    let bytes = c.front_of_group-front.result.bytes in
    let bits : seen.width * count / 8 ≡ c.bytes_len-written.result =
    ap (λ w. w * count / 8) c.requires.entries.reads.width_is ∙ sym c.bytes_len-written.ensures in
    let other : slice_index bytes (seen.width * count / 8) ≡ 0 → ⊥ =
    λ none. c.if-front-written-ne0.true (ap (λ m. slice_index bytes m) (sym bits) ∙ none) in
    let begun = some-trailing seen group count bytes (front g before) other in
    rw c.faulty-then-front-written-ne0.ensures
    (trailing-fault seen group count c.in-Ok.ensures.symbols
    (front-symbols seen group count c.in-Ok.ensures.symbols bytes (front g before))
    (rw (← c.self.view_is) c.if-self.true)
    ((front g before).next ∙ set-byte (slice_index bytes (seen.width * count / 8)) other)
    begun)

pub returns-clause-sound : goal.returns-clause-sound
returns-clause-sound g c =
    let before = (goal.at.returns-clause-sound g c).Else-front-count in
    let seen = c.args.self.now in
    let group = c.args.group.now in
    let count = c.in-Ok.count in
    let bytes = c.front_of_group-front.result.bytes in
    let bits : seen.width * count / 8 ≡ c.bytes_len-written.result =
    ap (λ w. w * count / 8) c.requires.entries.reads.width_is ∙ sym c.bytes_len-written.ensures in
    group-sound seen group count c.in-Ok.ensures.symbols
    (front-symbols seen group count c.in-Ok.ensures.symbols bytes (front g before))
    (elim c.else-self.branch [
      | else-self-via-then-self+else-front-written-ne0 w ↦
          let none : list_any (λ bit. not (bit == 0))
          (trailing_bits seen (map (meaning seen) (take count group))) ≡ false =
          (front g before).next
          ∙ ap (λ byte. not (byte == 0))
          (ap (λ m. slice_index bytes m) bits ∙ w.if-front-written-ne0.false) in
          grind (arith, c.self.view_is, none)
      | else-self-via-else-self w ↦ grind (arith, c.self.view_is, w.if-self.false)
    ])
    c.store_lanes.new.output
    (ap (λ m. take m c.store_lanes.new.output) bits ∙ c.store_lanes.ensures
    ∙ ap (λ m. take m bytes) (sym bits) ∙ (front g before).whole)
