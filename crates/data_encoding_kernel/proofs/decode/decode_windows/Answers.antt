use Rattle.std.proofs.Common.{◌≡◌, ℕ, List, ◌+◌, ◌-◌, ◌*◌, ◌/◌, ◌≤◌, length, take, drop, replicate, ◌%◌, refl, sym, ap, ◌∙◌, arith}
use Rattle.std.proofs.lemmas.List.{length-drop, length-take, take-append-le, take-take}
use Rattle.std.proofs.Math.Nat.{add-mul, mul-mod_left}
use Rattle.std.proofs.lemmas.Nat.{div-add-mod'}
use Rattle.data_encoding_meaning.specs.text.Base.{group_bytes, group_symbols}
use Rattle.data_encoding_meaning.proofs.digits.WidthLemmas.{group_symbols-pos}
use Rattle.data_encoding_meaning.proofs.lists.PartLemmas.{groups-within, length-part}
use Rattle.data_encoding_meaning.proofs.lists.WriteLemmas.{rewritten}
use Rattle.data_encoding_kernel.specs.Runs.{IsRunBy}
use Rattle.data_encoding_kernel.proofs.decoding.FrontRunLemmas.{window-room, window-run}
use Rattle.data_encoding_kernel.proofs.decoding.GroupRunLemmas.{sixteen-few}
use Rattle.data_encoding_kernel.proofs.decoding.JoinSizeLemmas.{join-group, join-width}
use Rattle.data_encoding_kernel.proofs.decoding.SymbolRunLemmas.{groups-monotone, groups-of_product, groups-room, groups-whole}
use Rattle.data_encoding_kernel.proofs.decode.decode_windows.Given.{Over}
use Rattle.data_encoding_kernel.proofs.decode.decode_windows.Goals.{After-decode_front-front, After-whole_groups-read, After-store_lanes}
use Rattle.data_encoding_kernel.proofs.decode.decode_windows.Goals as goal

few : (g : Over) (c : After-decode_front-front g) → c.decode_front-front.result.symbols ≤ 16
few g c = omega (arith, c.decode_front-front.ensures.few, c.min-len.ensures)

within : (g : Over) (c : After-decode_front-front g)
    → c.loop-at.at + c.decode_front-front.result.symbols ≤ length c.args.input.now
within g c =
    omega (
      arith,
      c.decode_front-front.ensures.few,
      c.min-len.ensures,
      c.loop-at.invariant.within,
    )

room : (g : Over) (c : After-decode_front-front g)
    → c.loop-at.at / group_symbols c.args.join.now.width * group_bytes c.args.join.now.width
    + c.decode_front-front.result.symbols / group_symbols c.args.join.now.width
    * group_bytes c.args.join.now.width ≤ length c.loop-at.output
room g c =
    window-room {s = group_symbols c.args.join.now.width} refl refl
    (group_symbols-pos c.args.join.now.width (join-width c.requires.join)) c.loop-at.at
    c.decode_front-front.result.symbols (length c.args.input.now) (length c.loop-at.output)
    c.loop-at.invariant.whole (within g c) (omega (arith, c.loop-at.auto.output, c.requires.room))

-- the bytes of the whole groups of the window
stored : (g : Over) (c : After-whole_groups-read g)
    → c.whole_groups-read.result / group_symbols c.args.join.now.width
    ≡ c.decode_front-front.result.symbols / group_symbols c.args.join.now.width
stored g c =
    let s = group_symbols c.args.join.now.width in
    ap (λ n. n / s) c.whole_groups-read.ensures
    ∙ groups-of_product (c.decode_front-front.result.symbols / s) s refl
    (group_symbols-pos c.args.join.now.width (join-width c.requires.join))

pub slice_bounds-store_lanes-count : goal.slice_bounds-store_lanes-count
slice_bounds-store_lanes-count g c =
    omega (
      arith,
      room g (goal.at.slice_bounds-store_lanes-count g c).After-decode_front-front,
      c.groups_len-written.ensures,
    )

pub slice_bounds-store_lanes-start : goal.slice_bounds-store_lanes-start
slice_bounds-store_lanes-start g c =
    omega (
      arith,
      room g (goal.at.slice_bounds-store_lanes-start g c).After-decode_front-front,
      c.groups_len-written.ensures,
    )

pub store_lanes-requires-clause-few : goal.store_lanes-requires-clause-few
store_lanes-requires-clause-few g c =
    let at = goal.at.store_lanes-requires-clause-few g c in
    let w = c.args.join.now.width in
    let s = group_symbols w in
    rw (c.groups_len.ensures, stored g at.After-whole_groups-read)
    (groups-room (16 / s) (c.decode_front-front.result.symbols / s) 16 refl
    (groups-monotone c.decode_front-front.result.symbols 16 refl
    (group_symbols-pos w (join-width c.requires.join)) (few g at.After-decode_front-front))
    (sixteen-few (join-group c.requires.join)))

pub store_lanes-requires-clause-room : goal.store_lanes-requires-clause-room
store_lanes-requires-clause-room g c =
    let at = goal.at.store_lanes-requires-clause-room g c in
    let b = group_bytes c.args.join.now.width in
    omega (
      arith,
      length-drop c.groups_len-written.result c.loop-at.output,
      length-part c.groups_len-written.result
          (length c.loop-at.output - c.groups_len-written.result) c.loop-at.output
          (omega (arith, room g at.After-decode_front-front, c.groups_len-written.ensures)),
      c.groups_len-written.ensures,
      c.groups_len.ensures,
      ap (λ n. n * b) (stored g at.After-whole_groups-read),
      room g at.After-decode_front-front,
    )

-- the groups so far and those of the window
run : (g : Over) (c : After-store_lanes g)
    → (values : List ℕ) → g.L.LookUp.holds values c.args.look_up.now
    → IsRunBy values c.args.join.now.width c.args.join.now.order c.args.input.now
    ((c.loop-at.at + c.whole_groups-read.result) / group_symbols c.args.join.now.width)
    c.args.output.now
    (rewritten c.groups_len-written.result c.loop-at.output c.store_lanes.new.output)
run g c = λ values held base reads.
    let place = goal.at-After-store_lanes g c in
    let before = place.After-decode_front-front in
    let w = c.args.join.now.width in
    let s = group_symbols w in
    let b = group_bytes w in
    let some = group_symbols-pos w (join-width c.requires.join) in
    let input = c.args.input.now in
    let at = c.loop-at.at in
    let front = c.decode_front-front.result in
    let n = front.symbols in
    let part = take 16 (drop at input) in
    let part_len : n ≤ length part =
    omega (
      arith,
      few g before,
      within g before,
      length-drop at input,
      length-take 16 (drop at input),
    ) in
    let same : take n c.load_at.result ≡ take n (drop at input) =
    ap (take n) c.load_at.ensures
    ∙ take-append-le n part (replicate (16 - (length input - at)) 0) part_len
    ∙ take-take n 16 (drop at input) (few g before) in
    let count : c.groups_len.result ≡ n / s * b =
    c.groups_len.ensures ∙ ap (λ k. k * b) (stored g place.After-whole_groups-read) in
    let room_is = room g before in
    let enough : n / s * b ≤ length c.store_lanes.new.output =
    omega (
      arith,
      c.store_lanes.auto.output,
      c.groups_len-written.ensures,
      room_is,
      length-part c.groups_len-written.result
          (length c.loop-at.output - c.groups_len-written.result) c.loop-at.output
          (omega (arith, room_is, c.groups_len-written.ensures)),
    ) in
    rw (
      c.whole_groups-read.ensures,
      ← groups-whole at n some c.loop-at.invariant.whole,
      c.groups_len-written.ensures,
    )
    (window-run base reads.holds.is_width refl refl (ap group_symbols (sym reads.width_is))
    (ap group_bytes (sym reads.width_is)) input c.load_at.result front.bytes c.args.output.now
    c.loop-at.output c.store_lanes.new.output at n _ c.loop-at.invariant.whole (within g before)
    (omega (arith, c.loop-at.auto.output, c.requires.room)) same
    (c.decode_front-front.ensures.front values held base reads) enough
    (rw count at c.store_lanes.ensures) (c.loop-at.invariant.run values held base reads))

whole : (g : Over) (c : After-whole_groups-read g)
    → (c.loop-at.at + c.whole_groups-read.result) % group_symbols c.args.join.now.width ≡ 0
whole g c =
    let s = group_symbols c.args.join.now.width in
    let n = c.decode_front-front.result.symbols / s in
    let sum : c.loop-at.at + c.whole_groups-read.result ≡ (c.loop-at.at / s + n) * s =
    omega (
      arith,
      c.whole_groups-read.ensures,
      c.loop-at.invariant.whole,
      div-add-mod' c.loop-at.at s,
      add-mul (c.loop-at.at / s) n s,
    ) in
    ap (λ k. k % s) sum ∙ mul-mod_left (c.loop-at.at / s + n) s

pub returns-then-read-lt16-clause-run : goal.returns-then-read-lt16-clause-run
returns-then-read-lt16-clause-run g c =
    run g (goal.at.returns-then-read-lt16-clause-run g c).After-store_lanes

pub returns-then-read-lt16-clause-whole : goal.returns-then-read-lt16-clause-whole
returns-then-read-lt16-clause-whole g c =
    whole g (goal.at.returns-then-read-lt16-clause-whole g c).After-whole_groups-read

pub loop-at-preserved : goal.loop-at-preserved
loop-at-preserved g c =
    let at = goal.at.loop-at-preserved g c in
    record {
      whole = whole g at.After-whole_groups-read;
      within = omega (
        arith,
        within g at.After-decode_front-front,
        c.whole_groups-read.ensures,
        groups-within c.decode_front-front.result.symbols (group_symbols c.args.join.now.width),
      );
      run = run g at.After-store_lanes;
    }
