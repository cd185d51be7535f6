use Rattle.std.proofs.Common.{◌++◌, ◌-◌, length, replicate, sym, ap, ◌∙◌, arith}
use Rattle.std.proofs.lemmas.List.{take_all}
use Rattle.data_encoding.proofs.decoding.ShortLemmas.{joins-reads, loaded, start-reached}
use Rattle.data_encoding.proofs.encoding.EncodingRef.decode_short.Goals as goal

pub decode_last-requires-clause-at : goal.decode_last-requires-clause-at
decode_last-requires-clause-at g c = start-reached c.join-join.ensures.width c.requires.exact

pub decode_last-requires-clause-front : goal.decode_last-requires-clause-front
decode_last-requires-clause-front g c =
    let input = c.args.input.now in
    let joins = c.join-join.ensures.join in
    let finds = c.requires.finds in
    let found = c.decode_front-front.ensures in
    loaded c.args.self.now input c.decode_front-front.result c.load_padded.result
    (c.load_padded.ensures
    ∙ ap (λ l. l ++ replicate (16 - length input) 0) (sym (take_all 16 input c.requires.few)))
    found.text (omega (arith, found.few, c.requires.few)) found.few
    (found.front finds.values finds.held c.args.self.now
    (joins-reads joins finds.is_table))
