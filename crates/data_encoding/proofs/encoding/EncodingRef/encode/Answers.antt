use Rattle.std.proofs.Common.{length, drop, refl, sym, ap, ◌∙◌, subst}
use Rattle.std.proofs.lemmas.Bool.{false≢true}
use Rattle.std.proofs.lemmas.List.{length-replicate, take_at}
use Rattle.std.proofs.lemmas.Str.{IsUtf8-from_ascii}
use Rattle.std.proofs.lemmas.Str.Ascii.{IsAscii-from_all}
use Rattle.std.specs.Prelude.{vec_items}
use Rattle.std.specs.Str.{IsUtf8}
use Rattle.data_encoding.proofs.encoding.EncodingRef.encode.Goals as goal

pub returns-in_err-output-clause-empty : goal.returns-in_err-output-clause-empty
returns-in_err-output-clause-empty c h =
    absurd (false≢true ((c.in_err-output.ensures).none (c.encode_len.ensures.empty h)))

pub from_utf8_unchecked-requires : goal.from_utf8_unchecked-requires
from_utf8_unchecked-requires c =
    let len = c.deref_mut.ensures.len in
    let same = c.encode_mut.auto.output in
    subst IsUtf8
    (sym (take_at c.encode_mut.new.output
    (drop (length c.encode_mut.new.output) c.in_ok-output.output.items) c.in_ok-output.output.len
    (same ∙ len)))
    (IsUtf8-from_ascii _ (IsAscii-from_all _ c.encode_mut.ensures.ascii))

pub encode_mut-requires-clause-exact : goal.encode_mut-requires-clause-exact
encode_mut-requires-clause-exact c =
    ap length c.deref_mut.ensures.value ∙ ap length (c.in_ok-output.ensures).items
    ∙ length-replicate _ _ ∙ sym (c.encode_len.ensures.length c.args.input.now refl)

pub returns-clause-text : goal.returns-clause-text
returns-clause-text c =
    let new = c.encode_mut.new.output in
    ap vec_items c.from_utf8_unchecked.ensures.value
    ∙ take_at new (drop (length new) c.in_ok-output.output.items) c.in_ok-output.output.len
    (c.encode_mut.auto.output ∙ c.deref_mut.ensures.len)
    ∙ c.encode_mut.ensures.text
