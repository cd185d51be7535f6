use Rattle.std.proofs.Common.{None, Some, sym, ◌∙◌}
use Rattle.encoding_stream.specs.BufferDecoder.{base_of_pieces, held_group}
use Rattle.encoding_stream.proofs.FinishLemmas.{last-bytes, verdict-of_groups, verdict-of_length}
use Rattle.encoding_stream.proofs.ReadByteLemmas.{is-specified}
use Rattle.encoding_stream.proofs.buffer_decoder.BufferDecoder.finish.Goals as goal

pub returns-in-Err-clause-bytes : goal.returns-in-Err-clause-bytes
returns-in-Err-clause-bytes c =
    last-bytes (base_of_pieces c.args.self.now) (is-specified c.args.self.now)
    c.args.self.now.laws.bytes c.args.self.now.kept c.decode_last_group-decoded.result
    c.decode_last_group-decoded.new.output
    c.unwrap_or-written.result c.decode_last_group-decoded.ensures.sound
    c.decode_last_group-decoded.ensures.fault c.unwrap_or-written.ensures

pub returns-in-Ok-clause-verdict : goal.returns-in-Ok-clause-verdict
returns-in-Ok-clause-verdict c = λ text keeps.
    let s = c.args.self.now in
    let k = s.kept in
    verdict-of_groups (base_of_pieces s) (is-specified s) text k.len k.fault (held_group k) k.ended
    keeps s.laws.verdict c.in_default.field-0
    (sym (rw c.by_ref.ensures at c.decode_len.ensures.value) ∙ c.in_default.is) None
    (c.in-Ok.ensures.sound text keeps).0

pub returns-in-Ok-clause-bytes : goal.returns-in-Ok-clause-bytes
returns-in-Ok-clause-bytes c =
    last-bytes (base_of_pieces c.args.self.now) (is-specified c.args.self.now)
    c.args.self.now.laws.bytes c.args.self.now.kept c.decode_last_group-decoded.result
    c.decode_last_group-decoded.new.output
    c.unwrap_or-written.result c.decode_last_group-decoded.ensures.sound
    c.decode_last_group-decoded.ensures.fault c.unwrap_or-written.ensures

pub returns-in-Err-decoded-clause-verdict : goal.returns-in-Err-decoded-clause-verdict
returns-in-Err-decoded-clause-verdict c = λ text keeps.
    let s = c.args.self.now in
    let k = s.kept in
    verdict-of_groups (base_of_pieces s) (is-specified s) text k.len k.fault (held_group k) k.ended
    keeps s.laws.verdict c.in_default.field-0
    (sym (rw c.by_ref.ensures at c.decode_len.ensures.value) ∙ c.in_default.is)
    (Some c.in-Err-decoded.error) (c.in-Err-decoded.ensures.fault text keeps)

pub returns-in-Err-decoded-clause-bytes : goal.returns-in-Err-decoded-clause-bytes
returns-in-Err-decoded-clause-bytes c =
    last-bytes (base_of_pieces c.args.self.now) (is-specified c.args.self.now)
    c.args.self.now.laws.bytes c.args.self.now.kept c.decode_last_group-decoded.result
    c.decode_last_group-decoded.new.output
    c.unwrap_or-written.result c.decode_last_group-decoded.ensures.sound
    c.decode_last_group-decoded.ensures.fault c.unwrap_or-written.ensures

pub returns-in-Err-clause-verdict : goal.returns-in-Err-clause-verdict
returns-in-Err-clause-verdict c = λ text keeps.
    let s = c.args.self.now in
    let k = s.kept in
    verdict-of_length (base_of_pieces s) (is-specified s) text k.len k.fault (held_group k) k.ended
    keeps s.laws.verdict c.in-Err.error
    (sym (rw c.by_ref.ensures at c.decode_len.ensures.value) ∙ c.in-Err.is)

pub returns-in-Err-decoded-clause-position : goal.returns-in-Err-decoded-clause-position
returns-in-Err-decoded-clause-position c = c.in-Err-decoded.ensures.position
