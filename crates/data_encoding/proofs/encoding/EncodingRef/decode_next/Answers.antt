use Rattle.std.proofs.Common.{◌≡◌, ℕ, ◌+◌, ◌-◌, ◌*◌, ◌/◌, ◌∙◌, ◌&&◌, Bool, not, nat_lt, length, take, drop, inl, inr, refl, sym, ap, subst, arith, length-drop}
use Rattle.data_encoding_meaning.proofs.decoding.GroupJudgementLemmas.{few-bits}
use Rattle.data_encoding.proofs.decoding.StepLemmas.{IsUnderWay, after_group, decoded-after, decoded-none, final-is, final-not, gathered-next, group-stopped, room-next_group, some-group, under_way, written-few}
use Rattle.data_encoding.specs.Progress.{HasExactOutput}
use Rattle.data_encoding.proofs.decoding.OutputLemmas.{exact-same}
use Rattle.data_encoding_meaning.proofs.decoding.GatherLemmas.{gathered-few}
use Rattle.data_encoding_meaning.specs.decoding.Decoding.{IsGathered}
use Rattle.data_encoding_meaning.specs.text.Base.{group_symbols}
use Rattle.data_encoding_kernel.proofs.decoding.JoinSizeLemmas.{join-group}
use Rattle.data_encoding_meaning.proofs.lists.WriteLemmas.{length-rewritten_same, rewritten}
use Rattle.data_encoding.proofs.encoding.EncodingRef.decode_next.Given.{Over}
use Rattle.data_encoding.proofs.encoding.EncodingRef.decode_next.Goals as goal
use Rattle.data_encoding.proofs.encoding.EncodingRef.decode_next.Goals.{After-bytes_len, After-next_group-group, else-count-group-via-then-count-group+else-not-self, else-count-group-via-else-count-group}

pub returns-then-start-input : goal.returns-then-start-input
returns-then-start-input g c =
    decoded-after (under_way c.requires.entries.reads.holds.is_width
    c.requires.at.exact c.requires.at.so_far) c.requires.at.front (omega arith)

-- the next bytes that are not ignored
gathered : (g : Over) (c : After-next_group-group g)
    → IsGathered c.args.self.now (group_symbols c.args.self.now.width)
    (take (length c.args.input.now - (c.args.at.read + c.args.at.ignored))
    (drop (c.args.at.read + c.args.at.ignored) c.args.input.now))
    c.next_group-group.result.bytes.now c.next_group-group.result.span
gathered g c =
    subst (λ n. IsGathered c.args.self.now n
    (take (length c.args.input.now - (c.args.at.read + c.args.at.ignored))
    (drop (c.args.at.read + c.args.at.ignored) c.args.input.now))
    c.next_group-group.result.bytes.now c.next_group-group.result.span)
    (c.group_symbols-symbols.ensures ∙ ap group_symbols (sym c.requires.entries.reads.width_is))
    c.next_group-group.ensures

pub returns-then-is_empty : goal.returns-then-is_empty
returns-then-is_empty g c =
    decoded-none (under_way c.requires.entries.reads.holds.is_width
    c.requires.at.exact c.requires.at.so_far) c.requires.at.front
    (gathered g (goal.at.returns-then-is_empty g c).After-next_group-group)
    c.is_empty.ensures c.if-is_empty.true

pub decode_group-requires-clause-room : goal.decode_group-requires-clause-room
decode_group-requires-clause-room g c =
    let now = under_way c.requires.entries.reads.holds.is_width c.requires.at.exact
    c.requires.at.so_far in
    let some = some-group (gathered g (goal.at.decode_group-requires-clause-room g
    c).After-next_group-group) c.is_empty.ensures c.if-is_empty.false in
    room-next_group now (gathered-next now c.requires.at.front
    (gathered g (goal.at.decode_group-requires-clause-room g c).After-next_group-group) some)

pub bytes_len-requires : goal.bytes_len-requires
bytes_len-requires g c =
    let few = few-bits (join-group c.requires.entries.join) refl c.in-Ok.count
    (omega (
      arith,
      (gathered g (goal.at.bytes_len-requires g c).After-next_group-group).few,
      c.in-Ok.ensures.sound.within,
      ap group_symbols c.requires.entries.reads.width_is,
    )) in
    omega (arith, few)

-- the decoding after the group, which is final or not
after : (g : Over) (c : After-bytes_len g) {final : Bool}
    → (not c.args.self.now.concatenates
    && nat_lt c.in-Ok.count (length c.next_group-group.result.bytes.now)) ≡ final
    → IsUnderWay c.args.self.now c.args.input.now
    (c.args.at.read + c.args.at.ignored + c.next_group-group.result.span)
    (c.args.at.written + c.bytes_len.result) final
    (rewritten c.args.at.written c.args.output.now c.decode_group.new.output)
after g c is =
    let now = under_way c.requires.entries.reads.holds.is_width c.requires.at.exact
    c.requires.at.so_far in
    let group = gathered g (goal.at-After-bytes_len g c).After-next_group-group in
    let some = some-group group c.is_empty.ensures c.if-is_empty.false in
    let bytes : c.bytes_len.result ≡ c.args.self.now.width * c.in-Ok.count / 8 =
    c.bytes_len.ensures ∙ ap (λ w. w * c.in-Ok.count / 8) (sym c.requires.entries.reads.width_is) in
    rw bytes (after_group now (gathered-next now c.requires.at.front group some) some
    c.decode_group.auto.output c.in-Ok.ensures.sound
    (c.args.at.read + c.args.at.ignored + c.next_group-group.result.span) (omega arith) is)

pub overflow_add-stop-2 : goal.overflow_add-stop-2
overflow_add-stop-2 g c =
    let few = written-few (after g (goal.at.overflow_add-stop-2 g c).After-bytes_len refl) in
    record { fits = omega (arith, few, c.requires.at.exact.limit) }

pub check_nothing_follows-requires-clause-within : goal.check_nothing_follows-requires-clause-within
check_nothing_follows-requires-clause-within g c =
    (after g (goal.at.check_nothing_follows-requires-clause-within g c).After-bytes_len
    (final-is _ _ c.self.view_is c.if-not-self.true c.if-count-group.true)).so_far.within

-- the room is that of the output
exact : (g : Over) (c : After-bytes_len g) → HasExactOutput c.args.self.now c.args.input.now
    (rewritten c.args.at.written c.args.output.now c.decode_group.new.output)
exact g c =
    exact-same c.requires.at.exact (length-rewritten_same c.args.at.written c.args.output.now
    c.decode_group.new.output c.requires.at.so_far.fits c.decode_group.auto.output)

pub returns-then-check_nothing_follows : goal.returns-then-check_nothing_follows
returns-then-check_nothing_follows g c =
    let before = (goal.at.returns-then-check_nothing_follows g c).After-bytes_len in
    c.if-check_nothing_follows.ensures _ (exact g before) (after g before
    (final-is _ _ c.self.view_is c.if-not-self.true c.if-count-group.true)).so_far

pub returns-then-not-self : goal.returns-then-not-self
returns-then-not-self g c =
    let before = (goal.at.returns-then-not-self g c).After-bytes_len in
    c.if-check_nothing_follows.ensures _ (exact g before) (after g before
    (final-is _ _ c.self.view_is c.if-not-self.true c.if-count-group.true)).so_far

pub returns : goal.returns
returns g c =
    let some = some-group (gathered g (goal.at.returns g c).After-next_group-group)
    c.is_empty.ensures c.if-is_empty.false in
    let few = gathered-few (gathered g (goal.at.returns g c).After-next_group-group) in
    let more = after g (goal.at.returns g c).After-bytes_len (final-not _ _ c.self.view_is
    (elim c.else-count-group.branch [
      | else-count-group-via-then-count-group+else-not-self b ↦ inl b.if-not-self.false
      | else-count-group-via-else-count-group b ↦ inr b.if-count-group.false
    ])) in
    (omega (arith, some, few), more.so_far)

pub returns-in-Err : goal.returns-in-Err
returns-in-Err g c =
    let now = under_way c.requires.entries.reads.holds.is_width c.requires.at.exact
    c.requires.at.so_far in
    let some = some-group (gathered g (goal.at.returns-in-Err g c).After-next_group-group)
    c.is_empty.ensures c.if-is_empty.false in
    rw c.new.ensures (group-stopped now
    (gathered-next now c.requires.at.front (gathered g
    (goal.at.returns-in-Err g c).After-next_group-group) some) c.in-Err.ensures.fault _
    c.decode_group.auto.output)

pub overflow_add-start : goal.overflow_add-start
overflow_add-start g c =
    let at = c.requires.at in
    record { fits = omega (arith, length-drop {A = ℕ}, at.front.within, at.exact.limit) }

pub slice_bounds-next_group-count : goal.slice_bounds-next_group-count
slice_bounds-next_group-count g c = omega (arith, length-drop {A = ℕ}, c.requires.at.front.within)

pub slice_bounds-rest-count : goal.slice_bounds-rest-count
slice_bounds-rest-count g c = c.requires.at.so_far.fits

pub overflow_add-stop : goal.overflow_add-stop
overflow_add-stop g c =
    record {
      fits = omega (
        arith,
        length-drop {A = ℕ},
        (gathered g (goal.at.overflow_add-stop g c).After-next_group-group).within,
      );
    }

pub decode_group-requires-clause-few : goal.decode_group-requires-clause-few
decode_group-requires-clause-few g c = (gathered g
    (goal.at.decode_group-requires-clause-few g c).After-next_group-group).few

pub decode_group-requires-clause-entries : goal.decode_group-requires-clause-entries
decode_group-requires-clause-entries g c = c.requires.entries

pub decode_group-requires-clause-some : goal.decode_group-requires-clause-some
decode_group-requires-clause-some g c =
    some-group (gathered g
    (goal.at.decode_group-requires-clause-some g c).After-next_group-group) c.is_empty.ensures
    c.if-is_empty.false

pub next_group-group-requires-clause-symbols : goal.next_group-group-requires-clause-symbols
next_group-group-requires-clause-symbols g c =
    c.group_symbols-symbols.ensures ∙ ap group_symbols (sym c.requires.entries.reads.width_is)

pub next_group-group-requires-clause-ignored : goal.next_group-group-requires-clause-ignored
next_group-group-requires-clause-ignored g c = c.requires.entries.ignored

pub check_nothing_follows-requires-clause-width : goal.check_nothing_follows-requires-clause-width
check_nothing_follows-requires-clause-width g c = c.requires.entries.reads.holds.is_width

pub check_nothing_follows-requires-clause-symbols
    : goal.check_nothing_follows-requires-clause-symbols
check_nothing_follows-requires-clause-symbols g c =
    c.group_symbols-symbols.ensures ∙ ap group_symbols (sym c.requires.entries.reads.width_is)
