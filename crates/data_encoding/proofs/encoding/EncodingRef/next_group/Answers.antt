use Rattle.std.proofs.Common.{◌≡◌, ◌<◌, ◌≤◌, false, length, take, sym, ap, ◌∙◌, subst, arith, length-take-le, ⊎_elim}
use Rattle.std.proofs.lemmas.Bool.{cases_lt}
use Rattle.std.proofs.lemmas.List.{take_all}
use Rattle.data_encoding_meaning.specs.text.Base.{ignores_some}
use Rattle.data_encoding_meaning.specs.decoding.Decoding.{IsGathered}
use Rattle.data_encoding_meaning.proofs.decoding.GatherLemmas.{gathered-plain}
use Rattle.data_encoding_meaning.proofs.digits.WidthLemmas.{group_symbols-few}
use Rattle.data_encoding.proofs.tables.TableLemmas.{IsWidth-seen}
use Rattle.data_encoding.proofs.encoding.EncodingRef.next_group.Goals as goal
use Rattle.data_encoding.proofs.encoding.EncodingRef.next_group.Goals.{else-self-via-then-self+else-not-starts_whole, else-self-via-else-self}

pub returns : goal.returns
returns c =
    let seen = c.args.self.now in
    let rest = c.args.rest.now in
    let size = c.args.symbols in
    let bytes = take size rest in
    let whole : IsGathered seen size rest bytes (length bytes) =
    elim c.else-self.branch [
      | else-self-via-then-self+else-not-starts_whole w ↦
          let is = w.starts_whole.ensures w.if-not-starts_whole.false seen c.requires.ignored in
          subst (IsGathered seen size rest bytes) (sym (length-take-le size rest is.within)) is
      | else-self-via-else-self w ↦
          let none : ignores_some seen ≡ false =
          rw (← c.self.view_is) (sym c.self.invariant.ignores ∙ w.if-self.false) in
          gathered-plain seen none size rest
    ] in
    let same : bytes ≡ take c.min.result rest =
    ⊎_elim (λ (less : size < length rest).
    ap (λ n. take n rest) (omega (arith, less, c.min.ensures)))
    (λ (few : length rest ≤ size). take_all size rest few
    ∙ sym (take_all c.min.result rest (omega (arith, few, c.min.ensures))))
    (cases_lt size (length rest)) in
    rw same at whole

pub gather-gathered-requires : goal.gather-gathered-requires
gather-gathered-requires c =
    record {
      few = omega (
        arith,
        c.requires.symbols,
        group_symbols-few c.args.self.now.width
            (IsWidth-seen _ c.self.invariant c.args.self.now c.self.view_is),
      );
    }

pub returns-then-not-starts_whole : goal.returns-then-not-starts_whole
returns-then-not-starts_whole c =
    c.gather-gathered.ensures.first c.args.self.now c.requires.ignored

pub slice_bounds-bytes-end : goal.slice_bounds-bytes-end
slice_bounds-bytes-end c =
    sym (length-take-le c.min.result c.args.rest.now (omega (arith, c.min.ensures)))
