use Rattle.std.proofs.Common.{◌≡◌, ℕ, take, sym, subst, ◌∙◌, arith, rules, tests}
use Rattle.std.proofs.lemmas.Iterator.{YieldsList-from_slice}
use Rattle.std.proofs.lemmas.Iterator.Search.{any_from_yields_List}
use Rattle.data_encoding.specs.Base.{is_padding, meaning}
use Rattle.data_encoding.specs.Grammar.{is_final}
use Rattle.encoding_stream.specs.BufferDecoder.{at_positions, base_of_pieces}
use Rattle.encoding_stream.proofs.ReadByteLemmas.{any-final}
use Rattle.encoding_stream.proofs.SizeLemmas.{symbols-few}
use Rattle.encoding_stream.proofs.buffer_decoder.BufferDecoder.is_final.Goals as goal

pub shared_ref_as_front-iter : goal.shared_ref_as_front-iter
shared_ref_as_front-iter c =
    let s = c.args.self.now in
    omega (
      arith,
      symbols-few (base_of_pieces s).width s.width,
      rw c.by_ref-encoding.ensures at c.group_len.ensures.value,
    )

pub returns : goal.returns
returns c =
    let s = c.args.self.now in
    let k = s.kept in
    let few = symbols-few (base_of_pieces s).width s.width in
    let base = c.by_ref-encoding.result in
    let count = c.group_len.result in
    let size = rw c.by_ref-encoding.ensures at c.group_len.ensures.value in
    let found =
    any_from_yields_List (λ (b : ℕ). is_padding (meaning base b)) _ _
    c.any.result c.any.ensures.ran
    (YieldsList-from_slice (take count k.bytes) cc)
    (λ x b q h. search (rules, tests)) in
    subst
    (λ n. c.any.result ≡ is_final (base_of_pieces s) (at_positions n k.positions k.bytes)) size
    (subst
    (λ those. c.any.result ≡ is_final those (at_positions count k.positions k.bytes))
    c.by_ref-encoding.ensures
    (found
    ∙ any-final base count k.positions k.bytes
    (omega (arith, few, size)) (omega (arith, few, size))
    (sym c.concatenates.ensures ∙ c.if-concatenates.false)))
