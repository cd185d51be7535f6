use Rattle.std.proofs.Common.{◌≡◌, ◌-◌, ◌%◌, ◌+◌, ◌<◌, ◌++◌, ℕ, List, [], length, take, drop, refl, sym, ap, ◌∙◌, subst, arith, rules, length-append, length-take-le}
use Rattle.std.proofs.lemmas.List.{nil_from_length}
use Rattle.data_encoding.specs.KeptData.{held_data, IsDue}
use Rattle.data_encoding.specs.declared.encode.kept_data.DueLen.{DueLen}
use Rattle.data_encoding.specs.declared.encode.kept_data.KeptData.{KeptData}
use Rattle.data_encoding_meaning.specs.text.Base.{Base}
use Rattle.data_encoding_meaning.specs.text.Lengths.{alignment}
use Rattle.data_encoding_meaning.specs.text.EncodedPieces.{HasEncoded}
use Rattle.data_encoding_meaning.specs.text.Text.{text_of}
use Rattle.data_encoding_meaning.proofs.judgement.RuleLemmas.{IsRuled-built}
use Rattle.data_encoding.proofs.text.DataPieceLemmas.{reads-cut, reads-none, Reads}
use Rattle.data_encoding.proofs.encoding.EncodingRef.read_piece.Goals as goal
use Rattle.data_encoding.proofs.encoding.EncodingRef.read_piece.Goals.{After-hold, After-hold-2}

-- a piece that completes no block
fewer : (c : After-hold)
    → c.args.kept.now.count + length c.args.piece.now < alignment c.args.self.now
fewer c = omega (arith, c.if-piece-missing.true, c.requires.short, c.requires.block)

unwritten : (c : After-hold) → c.args.output.now ≡ []
unwritten c =
    nil_from_length c.args.output.now (c.requires.exact ∙ c.requires.due.none (fewer c))

keeps : (c : After-hold) → Reads c.args.self.now (held_data c.args.kept.now) c.args.piece.now []
    (held_data c.args.kept.now ++ c.args.piece.now)
keeps c =
    let kept = c.args.kept.now in
    let specified = c.requires.due.base in
    let size : length (held_data kept) ≡ kept.count =
    length-take-le kept.count kept.bytes (omega (arith, c.requires.short, c.requires.most)) in
    reads-none c.args.self.now (IsRuled-built specified.fields c.args.self.now specified.is_built)
    (held_data kept) c.args.piece.now (omega (arith, fewer c, size))

pub returns-then-piece-missing-clause-held : goal.returns-then-piece-missing-clause-held
returns-then-piece-missing-clause-held c = c.hold.ensures.held ∙ sym (keeps c).left_is

pub returns-then-piece-missing-clause-text : goal.returns-then-piece-missing-clause-text
returns-then-piece-missing-clause-text c = unwritten c ∙ sym (keeps c).text_is

pub returns-then-piece-missing-clause-ascii : goal.returns-then-piece-missing-clause-ascii
returns-then-piece-missing-clause-ascii c = rw (unwritten c) (search rules)

pub returns-then-piece-missing-clause-encodes : goal.returns-then-piece-missing-clause-encodes
returns-then-piece-missing-clause-encodes c = λ before bytes written has.
    rw (unwritten c, c.hold.ensures.held) ((keeps c).encodes before bytes written has)

-- the block that is filled
abbrev filled : After-hold-2 → List ℕ
filled c = take c.args.block_len c.hold-2.new.self.bytes

filled_is : (c : After-hold-2)
    → filled c ≡ held_data c.args.kept.now ++ c.split_at.result.0.now
filled_is c =
    let all : c.hold-2.new.self.count ≡ c.args.block_len =
    c.hold-2.ensures.count ∙ omega (arith, c.split_at.ensures.front_len, c.requires.short) in
    ap (λ n. take n c.hold-2.new.self.bytes) (sym all) ∙ c.hold-2.ensures.held

held_len : (c : After-hold-2) → length (held_data c.args.kept.now) ≡ c.args.kept.now.count
held_len c =
    length-take-le c.args.kept.now.count c.args.kept.now.bytes
    (omega (arith, c.requires.short, c.requires.most))

whole_is : (base : Base) (kept : KeptData) (len size rest : ℕ) (due : DueLen)
    → IsDue base kept len due → size ≡ alignment base → kept.count + len ≡ size + rest
    → due.whole ≡ rest - rest % size
whole_is base kept len size rest due is same all =
    is.whole rest (all ∙ ap (λ n. n + rest) same) ∙ ap (λ n. rest - rest % n) (sym same)

reads : (c : After-hold-2) → Reads c.args.self.now (held_data c.args.kept.now) c.args.piece.now
    (text_of c.args.self.now (filled c) ++ text_of c.args.self.now c.split_at-2.result.0.now)
    c.split_at-2.result.1.now
reads c =
    let base = c.args.self.now in
    let specified = c.requires.due.base in
    let rest = c.split_at.result.1.now in
    let whole = whole_is base c.args.kept.now (length c.args.piece.now) c.args.block_len
    (length rest) c.args.due c.requires.due c.requires.block
    (omega (arith, c.split_at.ensures.back_len, c.if-piece-missing.false, c.requires.short)) in
    reads-cut base (IsRuled-built specified.fields base specified.is_built)
    (held_data c.args.kept.now) c.args.piece.now (filled c) c.split_at.result.0.now
    c.split_at.result.1.now c.split_at-2.result.0.now c.split_at-2.result.1.now
    (c.args.block_len - c.args.kept.now.count) c.args.block_len c.requires.block
    (omega (arith, held_len c, c.requires.short)) (omega (arith, c.requires.short))
    (omega (arith, c.if-piece-missing.false)) c.split_at.ensures.front c.split_at.ensures.back
    (c.split_at-2.ensures.front ∙ ap (λ n. take n rest) whole)
    (c.split_at-2.ensures.back ∙ ap (λ n. drop n rest) whole)
    (filled_is c)

block_due : (c : After-hold-2) → c.args.due.block ≡ length (text_of c.args.self.now (filled c))
block_due c =
    let long : length (filled c) ≡ c.args.block_len =
    ap length (filled_is c)
    ∙ length-append (held_data c.args.kept.now) c.split_at.result.0.now
    ∙ omega (arith, held_len c, c.split_at.ensures.front_len, c.requires.short) in
    sym (c.requires.due.block
    (omega (arith, c.if-piece-missing.false, c.requires.short, c.requires.block)) (filled c)
    (long ∙ c.requires.block))

pub encode_both-requires-clause-len : goal.encode_both-requires-clause-len
encode_both-requires-clause-len c =
    block_due (goal.at.encode_both-requires-clause-len c).After-hold-2

pub encode_both-requires-clause-exact : goal.encode_both-requires-clause-exact
encode_both-requires-clause-exact c =
    let here = (goal.at.encode_both-requires-clause-exact c).After-hold-2 in
    let first = text_of c.args.self.now (filled here) in
    let others = text_of c.args.self.now c.split_at-2.result.0.now in
    c.requires.exact ∙ sym (c.requires.due.total c.args.piece.now refl)
    ∙ ap length (reads here).text_is ∙ length-append first others
    ∙ ap (λ n. n + length others) (sym (block_due here))

pub returns-clause-text : goal.returns-clause-text
returns-clause-text c =
    c.encode_both.ensures.text
    ∙ sym (reads (goal.at.returns-clause-text c).After-hold-2).text_is

pub returns-clause-held : goal.returns-clause-held
returns-clause-held c =
    c.hold-3.ensures.held ∙ sym (reads (goal.at.returns-clause-held c).After-hold-2).left_is

pub returns-clause-encodes : goal.returns-clause-encodes
returns-clause-encodes c = λ before bytes written has.
    let base = c.args.self.now in
    let all = bytes ++ c.args.piece.now in
    subst (HasEncoded base before all (written ++ c.encode_both.new.output))
    (sym c.hold-3.ensures.held)
    (subst (λ t. HasEncoded base before all (written ++ t) c.split_at-2.result.1.now)
    (sym c.encode_both.ensures.text)
    ((reads (goal.at.returns-clause-encodes c).After-hold-2).encodes before bytes written has))

pub split_at-requires-2 : goal.split_at-requires-2
split_at-requires-2 c =
    let rest : ℕ = length c.split_at.result.1.now in
    let whole = whole_is c.args.self.now c.args.kept.now (length c.args.piece.now)
    c.args.block_len rest c.args.due c.requires.due c.requires.block
    (omega (arith, c.split_at.ensures.back_len, c.if-piece-missing.false, c.requires.short)) in
    omega (arith, whole)

pub hold-requires-3 : goal.hold-requires-3
hold-requires-3 c =
    omega (
      arith,
      (reads (goal.at.hold-requires-3 c).After-hold-2).short,
      c.requires.block,
      c.requires.most,
    )

pub returns-clause-short : goal.returns-clause-short
returns-clause-short c =
    omega (
      arith,
      (reads (goal.at.returns-clause-short c).After-hold-2).short,
      c.requires.block,
      c.hold-3.ensures.count,
    )
