use Rattle.data_encoding.proofs.tables.TableLemmas.{HoldsValues-seen}
use Rattle.data_encoding.proofs.encoding.EncodingRef.decode_rest.Goals as goal

pub decode_rest_by-requires-clause-values : goal.decode_rest_by-requires-clause-values
decode_rest_by-requires-clause-values c =
    HoldsValues-seen _ c.self.invariant c.args.self.now c.self.view_is

pub decode_rest_by-requires-2-clause-values : goal.decode_rest_by-requires-2-clause-values
decode_rest_by-requires-2-clause-values c =
    HoldsValues-seen _ c.self.invariant c.args.self.now c.self.view_is
