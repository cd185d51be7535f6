use Rattle.std.proofs.Common.{length, sym, arith}
use Rattle.std.proofs.lemmas.Bool.{eqb-true}
use Rattle.std.proofs.lemmas.Result.{on_ok_weaker}
use Rattle.data_encoding_meaning.proofs.judgement.RuleLemmas.{IsRuled-built}
use Rattle.data_encoding_meaning.proofs.text.WrittenLemmas.{written-all, written-next, written-nothing}
use Rattle.data_encoding.proofs.encoding.EncodingRef.encode_write_buffer.Goals as goal

pub returns-then-is_empty-clause-written : goal.returns-then-is_empty-clause-written
returns-then-is_empty-clause-written g c =
    let seen = c.args.self.now in
    let base = c.encode_piece_len-most.ensures.base in
    written-nothing g.W.Write.write_str_gives seen (IsRuled-built base.fields seen base.is_built)
    c.args.input.now (eqb-true (length c.args.input.now) 0 (sym c.if-is_empty.ensures))
    c.args.output.now

pub loop-rest-preserved : goal.loop-rest-preserved
loop-rest-preserved g c =
    let seen = c.args.self.now in
    let base = c.encode_piece_len-most.ensures.base in
    written-next g.W.Write.write_str_gives seen (IsRuled-built base.fields seen base.is_built)
    c.args.input.now c.loop-rest.rest.now c.args.output.now c.loop-rest.output
    c.loop-rest.invariant c.encode_piece_len-most.result (omega (arith, c.loop-rest-test.true))
    c.encode_piece_len-most.ensures.whole c.split_at.result.0.now c.split_at.result.1.now
    c.split_at.ensures.front c.split_at.ensures.back c.write_piece.new.output
    c.in_ok-write_piece.ensures

pub returns-clause-written : goal.returns-clause-written
returns-clause-written g c =
    on_ok_weaker c.write_piece-2.result
    (written-all g.W.Write.write_str_gives c.args.self.now c.args.input.now c.loop-rest.rest.now
    c.args.output.now c.loop-rest.output c.write_piece-2.new.output c.loop-rest.invariant)
    c.write_piece-2.ensures
