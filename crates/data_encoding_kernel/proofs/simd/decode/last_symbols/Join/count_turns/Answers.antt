use Rattle.std.proofs.Common.{◌≡◌, ◌*◌, ◌/◌, ◌≤◌, refl, ap, ◌∙◌, arith}
use Rattle.data_encoding_meaning.specs.text.Base.{group_bytes, group_symbols}
use Rattle.data_encoding_meaning.proofs.digits.WidthLemmas.{group_symbols-few, group_symbols-pos}
use Rattle.data_encoding_kernel.proofs.decoding.SymbolRunLemmas.{groups-of_product, turns-few, turns-room}
use Rattle.data_encoding_kernel.proofs.decoding.JoinSizeLemmas.{join-width}
use Rattle.data_encoding_kernel.proofs.simd.decode.last_symbols.Join.count_turns.Goals as goal
use Rattle.data_encoding_kernel.proofs.simd.decode.last_symbols.Join.count_turns.Goals.{After-groups-whole, After-groups_len, After-groups_len-2}

pub overflow_mul-turn : goal.overflow_mul-turn
overflow_mul-turn c = record {
  fits = omega (
    arith,
    c.group_symbols-turn.ensures,
    group_symbols-few c.args.self.now.width (join-width c.requires.join),
  );
}

-- the symbols and the bytes of the whole iterations
few_symbols : (c : After-groups-whole)
    → c.groups-whole.result / 8 * 8 * group_symbols c.args.self.now.width ≤ c.args.len
few_symbols c =
    rw c.groups-whole.ensures
    (turns-few {number = 8} {s = group_symbols c.args.self.now.width} c.args.len refl refl)

few_bytes : (c : After-groups-whole)
    → c.groups-whole.result / 8 * 8 * group_bytes c.args.self.now.width ≤ c.args.output_len
few_bytes c =
    rw c.groups-whole.ensures
    (turns-room {number = 8} {s = group_symbols c.args.self.now.width} c.args.len c.args.output_len
    (group_bytes c.args.self.now.width) refl refl c.requires.room)

pub overflow_sub-left : goal.overflow_sub-left
overflow_sub-left c =
    rw c.group_symbols-turn.ensures
    (omega (arith, few_symbols (goal.at.overflow_sub-left c).After-groups-whole))

pub overflow_mul-left : goal.overflow_mul-left
overflow_mul-left c = record { fits = omega (arith, overflow_sub-left c, c.ranges.len.fits) }

pub overflow_mul-whole : goal.overflow_mul-whole
overflow_mul-whole c = record {
  fits = rw c.group_symbols-turn.ensures
      (omega (
        arith,
        few_symbols (goal.at.overflow_mul-whole c).After-groups-whole,
        c.ranges.len.fits,
      ));
}

pub returns-then-left-eq0-clause-symbols : goal.returns-then-left-eq0-clause-symbols
returns-then-left-eq0-clause-symbols c =
    omega (
      arith,
      few_symbols (goal.at.returns-then-left-eq0-clause-symbols c).After-groups-whole,
      c.requires.few,
    )

pub returns-then-left-eq0-clause-bytes : goal.returns-then-left-eq0-clause-bytes
returns-then-left-eq0-clause-bytes c =
    few_bytes (goal.at.returns-then-left-eq0-clause-bytes c).After-groups-whole

whole_bytes : (c : After-groups_len)
    → c.groups_len.result
    ≡ c.groups-whole.result / 8 * 8 * group_bytes c.args.self.now.width
whole_bytes c =
    let s = group_symbols c.args.self.now.width in
    let count = c.groups-whole.result / 8 in
    let read : count * (8 * c.group_symbols-turn.result) ≡ count * 8 * s =
    rw c.group_symbols-turn.ensures (omega arith) in
    c.groups_len.ensures
    ∙ ap (λ n. n / s * group_bytes c.args.self.now.width) read
    ∙ ap (λ n. n * group_bytes c.args.self.now.width)
    (groups-of_product (count * 8) s refl (group_symbols-pos c.args.self.now.width
    (join-width c.requires.join)))

one_bytes : (c : After-groups_len-2)
    → c.groups_len-2.result ≡ 8 * group_bytes c.args.self.now.width
one_bytes c =
    let s = group_symbols c.args.self.now.width in
    c.groups_len-2.ensures
    ∙ ap (λ n. 8 * n / s * group_bytes c.args.self.now.width) c.group_symbols-turn.ensures
    ∙ ap (λ n. n * group_bytes c.args.self.now.width)
    (groups-of_product 8 s refl (group_symbols-pos c.args.self.now.width
    (join-width c.requires.join)))

pub overflow_sub-output_len : goal.overflow_sub-output_len
overflow_sub-output_len c =
    let at = goal.at.overflow_sub-output_len c in
    rw (whole_bytes at.After-groups_len) (few_bytes at.After-groups-whole)

pub returns-then-output_len-groups_len-clause-symbols :
    goal.returns-then-output_len-groups_len-clause-symbols
returns-then-output_len-groups_len-clause-symbols c =
    omega (
      arith,
      few_symbols (goal.at.returns-then-output_len-groups_len-clause-symbols c).After-groups-whole,
      c.requires.few,
    )

pub returns-then-output_len-groups_len-clause-bytes :
    goal.returns-then-output_len-groups_len-clause-bytes
returns-then-output_len-groups_len-clause-bytes c =
    few_bytes (goal.at.returns-then-output_len-groups_len-clause-bytes c).After-groups-whole

pub overflow_add-result : goal.overflow_add-result
overflow_add-result c = record { fits = omega (arith, c.groups-whole.type_inv) }

pub returns-clause-symbols : goal.returns-clause-symbols
returns-clause-symbols c =
    let s = group_symbols c.args.self.now.width in
    let count = c.groups-whole.result / 8 in
    omega (
      arith,
      few_symbols (goal.at.returns-clause-symbols c).After-groups-whole,
      ap (λ n. count * (8 * n)) c.group_symbols-turn.ensures,
      c.group_symbols-turn.ensures,
      c.requires.few,
      c.if-left-turn.false,
      c.if-input_len-len.false,
    )

pub returns-clause-bytes : goal.returns-clause-bytes
returns-clause-bytes c =
    let at = goal.at.returns-clause-bytes c in
    omega (
      arith,
      few_bytes at.After-groups-whole,
      whole_bytes at.After-groups_len,
      one_bytes at.After-groups_len-2,
      c.if-output_len-groups_len.false,
    )
