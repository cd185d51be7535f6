use Rattle.std.proofs.Common.{◌≡◌, ◌+◌, ◌*◌, ◌/◌, ◌≤◌, [], ◌∷◌, ◌++◌, false, length, length-take-le, take, drop, Ok, sym, ap, ◌∙◌, subst, arith, take-append-drop}
use Rattle.std.proofs.lemmas.List.{take-append-le, length-append}
use Rattle.data_encoding.specs.Base.{ignores_some}
use Rattle.data_encoding.specs.Grammar.{Means}
use Rattle.data_encoding.specs.Lengths.{decoded_len}
use Rattle.data_encoding_calls.proofs.TwoTextLemmas.{Means-join_full, room-sixteen}
use Rattle.data_encoding_calls.proofs.short_output.decode_in_two.Goals as goal

pub slice_bounds-buffer-end : goal.slice_bounds-buffer-end
slice_bounds-buffer-end c =
    let end = c.split_at.result.1.now in
    room-sixteen c.args.encoding.now c.decode_len-2.ensures.base (length end) c.in-Ok-Ok.most
    (omega (
      arith,
      c.split_at.ensures.front_len,
      c.split_at.ensures.back_len,
      c.saturating_sub.ensures,
    ))
    (sym c.decode_len-2.ensures.value ∙ c.in-Ok-Ok.is-1)

-- the data of the last part fits the buffer
end-fits : (c : goal.After-buffer-1) → c.in-Ok-Ok.most ≤ 12
end-fits c =
    let end = c.split_at.result.1.now in
    room-sixteen c.args.encoding.now c.decode_len-2.ensures.base (length end) c.in-Ok-Ok.most
    (omega (
      arith,
      c.split_at.ensures.front_len,
      c.split_at.ensures.back_len,
      c.saturating_sub.ensures,
    ))
    (sym c.decode_len-2.ensures.value ∙ c.in-Ok-Ok.is-1)

pub slice_bounds-decode_mut-end-3 : goal.slice_bounds-decode_mut-end-3
slice_bounds-decode_mut-end-3 c = sym (length-take-le c.in-Ok-Ok.most _ (end-fits c))

pub decode_mut-requires-2-clause-exact : goal.decode_mut-requires-2-clause-exact
decode_mut-requires-2-clause-exact c =
    sym c.decode_len-2.ensures.value ∙ c.in-Ok-Ok.is-1
    ∙ ap Ok (sym (length-take-le c.in-Ok-Ok.most _ (end-fits c)))

pub returns-clause-means : goal.returns-clause-means
returns-clause-means c =
    let base = c.args.encoding.now in
    let text = c.args.input.now in
    let front = c.split_at.result.0.now in
    let end = c.split_at.result.1.now in
    let start = c.in-Ok-Ok.start in
    let most = c.in-Ok-Ok.most in
    let count = c.in-Ok-decode_mut.count in
    let new = c.decode_mut.new.output in
    let last = c.decode_mut-2.new.output in
    let output = c.args.output.now in
    let size : length new ≡ start =
    c.decode_mut.ensures.len
    ∙ length-take-le start output (omega (arith, c.if-output-start.false)) in
    let all : c.in-Ok.written ≡ start =
    omega (arith, c.in-Ok.ensures.decoded.0, size, c.if-written-start.false) in
    let plain : ignores_some base ≡ false = sym c.ignores_bytes.ensures ∙ c.if-ignores_bytes.false
    in
    let first : Means base front (take start new) =
    subst (λ n. Means base front (take n new)) all c.in-Ok.ensures.decoded.1 in
    let full : length (take start new) ≡ start = length-take-le start new (omega (arith, size)) in
    let due : decoded_len base (length front) ≡ Ok (length (take start new)) =
    sym c.decode_len.ensures.value ∙ c.in-Ok-Ok.is-0 ∙ ap Ok (sym full) in
    let joined =
    Means-join_full base c.decode_len.ensures.base plain front end (take start new)
    (take count last)
    (omega (arith, c.split_at.ensures.front_len)) due first c.in-Ok-decode_mut.ensures.decoded.1 in
    let whole : front ++ end ≡ text =
    (λ i. c.split_at.ensures.front i ++ c.split_at.ensures.back i)
    ∙ take-append-drop (c.saturating_sub.result / 16 * 16) text in
    let buffer = last ++ drop most (0 ∷ 0 ∷ 0 ∷ 0 ∷ 0 ∷ 0 ∷ 0 ∷ 0 ∷ 0 ∷ 0 ∷ 0 ∷ 0 ∷ []) in
    let tail : take count buffer ≡ take count last =
    take-append-le count last _ c.in-Ok-decode_mut.ensures.decoded.0 in
    let tail_len : length (take count buffer) ≡ count =
    ap length tail ∙ length-take-le count last c.in-Ok-decode_mut.ensures.decoded.0 in
    let written =
    c.write_if_fits.ensures.written (omega (
      arith,
      tail_len,
      c.if-output-start-2.false,
      size,
      length-append new (drop start output),
    )) in
    let bytes : take (start + count) c.write_if_fits.new.output
    ≡ take start new ++ take count last =
    ap (λ n. take (start + n) c.write_if_fits.new.output) (sym tail_len) ∙ written
    ∙ (λ i. take-append-le start new (drop start output) (omega (arith, size)) i ++ tail i) in
    rw (bytes, ← whole) joined
