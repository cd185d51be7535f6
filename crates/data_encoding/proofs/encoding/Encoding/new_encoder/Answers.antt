use Rattle.std.proofs.Common.{◌<◌, subst, rules}
use Rattle.std.specs.String.{string_bytes}
use Rattle.data_encoding_meaning.proofs.judgement.RuleLemmas.{IsRuled-built}
use Rattle.data_encoding_meaning.proofs.text.EncodedPieceLemmas.{HasEncoded-nothing}
use Rattle.data_encoding.proofs.encoding.Encoding.new_encoder.Goals as goal

pub returns-clause-pieces : goal.returns-clause-pieces
returns-clause-pieces c =
    let specified = c.encode_align-block_len.ensures.base in
    let begins = HasEncoded-nothing c.args.self.now
    (IsRuled-built specified.fields c.args.self.now specified.is_built)
    (string_bytes c.args.output.now)
    (subst (λ n. 0 < n) c.encode_align-block_len.ensures.value
    c.encode_align-block_len.ensures.some) in
    search (rules, begins)
