use Rattle.std.proofs.Common.{◌≡◌, ℕ, ◌≤◌, List, [], ◌++◌, length, take, refl, sym, ap, subst, ◌∙◌, append-nil, arith, length-append, length-take-le}
use Rattle.data_encoding.specs.Base.{Base}
use Rattle.data_encoding.specs.Pieces.{whole_bytes}
use Rattle.encoding_stream.specs.declared.buffer_decoder.Kept.{Kept}
use Rattle.encoding_stream.specs.BufferDecoder.{base_of_pieces, Keeps}
use Rattle.encoding_stream.specs.Reading.{AppendsLast, HasLastBytes, HasNoLastBytes}
use Rattle.encoding_stream.proofs.decoder.append_last.Goals as goal

module _ (base : Base) (kept : Kept) (bytes : List ℕ) (last : HasLastBytes base kept bytes) where
  no-last : (text : List ℕ) → Keeps base kept text → HasNoLastBytes base text → length bytes ≡ 0
  no-last text is none =
      omega (
        arith,
        ap length (sym (last text is) ∙ none),
        length-append (whole_bytes base text) bytes,
      )

  appends-last : (old new : List ℕ) → new ≡ old ++ bytes → AppendsLast base kept old new
  appends-last old new appended text is =
      record { bytes = bytes; decoded = last text is; appended = appended }

pub returns-in_err-reserve-clause-no_bytes :
    goal.returns-in_err-reserve-clause-no_bytes
returns-in_err-reserve-clause-no_bytes g c = λ text is none.
    let pieces = c.args.pieces.now in
    let within : c.finish-count.result.0 ≤ length c.finish-count.new.output =
    omega (arith, c.finish-count.ensures.few, c.finish-count.ensures.len) in
    let no : ⊥ =
    omega (
      arith,
      no-last (base_of_pieces pieces) pieces.kept _ c.finish-count.ensures.bytes text is none,
      length-take-le c.finish-count.result.0 c.finish-count.new.output within,
      c.if-count-gt0.true,
    ) in
    absurd no

pub returns-else-count-gt0-clause-appends : goal.returns-else-count-gt0-clause-appends
returns-else-count-gt0-clause-appends g c =
    let pieces = c.args.pieces.now in
    let output = c.args.output.now.items in
    let bytes = take c.finish-count.result.0 c.finish-count.new.output in
    let none : c.finish-count.result.0 ≡ 0 = omega (arith, c.if-count-gt0.false) in
    let nothing : bytes ≡ [] = subst (λ n. take n c.finish-count.new.output ≡ []) (sym none) refl in
    appends-last (base_of_pieces pieces) pieces.kept bytes c.finish-count.ensures.bytes _ _
    (sym (append-nil output) ∙ ap (λ l. output ++ l) (sym nothing))

pub unwrap-requires : goal.unwrap-requires
unwrap-requires g c =
    let count = c.finish-count.result.0 in
    let buffer = c.finish-count.new.output in
    let taken : length (take count buffer) ≡ count =
    length-take-le count buffer
    (omega (arith, c.finish-count.ensures.few, c.finish-count.ensures.len)) in
    c.extend_from_slice.ensures.succeeds (omega (arith, taken, c.in_ok-reserve.ensures.ok))

pub returns-in_ok-reserve-clause-appends : goal.returns-in_ok-reserve-clause-appends
returns-in_ok-reserve-clause-appends g c =
    let pieces = c.args.pieces.now in
    let count = c.finish-count.result.0 in
    let buffer = c.finish-count.new.output in
    let bytes = take count buffer in
    let taken : length bytes ≡ count =
    length-take-le count buffer
    (omega (arith, c.finish-count.ensures.few, c.finish-count.ensures.len)) in
    let ok = c.extend_from_slice.ensures.succeeds
    (omega (arith, taken, c.in_ok-reserve.ensures.ok)) in
    appends-last (base_of_pieces pieces) pieces.kept bytes c.finish-count.ensures.bytes _ _
    (rw ok at c.extend_from_slice.ensures.items
    ∙ ap (λ l. l ++ bytes) c.in_ok-reserve.ensures.items)
