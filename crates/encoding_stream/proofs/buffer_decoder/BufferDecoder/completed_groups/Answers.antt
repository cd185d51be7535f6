use Rattle.std.proofs.Common.{◌≡◌, ◌*◌, ◌/◌, ◌%◌, Ok, sym, ap, subst, ◌∙◌}
use Rattle.std.proofs.Math.Nat.{div-mul-le_self, mul-mod_left}
use Rattle.data_encoding.specs.Base.{group_bytes}
use Rattle.data_encoding.specs.Lengths.{decoded_len}
use Rattle.encoding_stream.specs.BufferDecoder.{base_of_pieces}
use Rattle.encoding_stream.proofs.ReadByteLemmas.{is-specified}
use Rattle.encoding_stream.proofs.buffer_decoder.BufferDecoder.completed_groups.Goals as goal

pub returns-clause-due : goal.returns-clause-due
returns-clause-due c =
    let s = c.args.self.now in
    let base = base_of_pieces s in
    let size = rw c.by_ref-encoding.ensures at c.group_len-size.ensures.value in
    let count = c.args.len / c.group_len-size.result in
    subst (λ n. decoded_len base (count * n) ≡ Ok (count * group_bytes base.width)) (sym size)
    (s.laws.due base (is-specified s) count)
    ∙ ap (λ n. Ok (count * n))
    (sym (rw c.by_ref-encoding.ensures at c.group_bytes.ensures.value))

pub returns-clause-whole : goal.returns-clause-whole
returns-clause-whole c =
    let size = rw c.by_ref-encoding.ensures at c.group_len-size.ensures.value in
    let count = c.args.len / c.group_len-size.result in
    subst (λ n. count * c.group_len-size.result % n ≡ 0) size
    (mul-mod_left count c.group_len-size.result)

pub returns-clause-len : goal.returns-clause-len
returns-clause-len c =
    ap (λ n. c.args.len / n * n) (rw c.by_ref-encoding.ensures at c.group_len-size.ensures.value)

pub returns-clause-few : goal.returns-clause-few
returns-clause-few c = div-mul-le_self c.args.len c.group_len-size.result
