use Rattle.data_encoding.proofs.tables.TableLemmas.{HoldsValues-seen}
use Rattle.data_encoding.proofs.encoding.EncodingRef.decode_valid.Goals as goal

pub decode_valid_by-requires-clause-finds : goal.decode_valid_by-requires-clause-finds
decode_valid_by-requires-clause-finds c =
    record {
      values = _;
      is_table = HoldsValues-seen _ c.self.invariant c.args.self.now c.self.view_is;
      held = c.of.ensures;
    }

pub decode_valid_by-requires-2-clause-finds : goal.decode_valid_by-requires-2-clause-finds
decode_valid_by-requires-2-clause-finds c =
    record {
      values = _;
      is_table = HoldsValues-seen _ c.self.invariant c.args.self.now c.self.view_is;
      held = c.of-2.ensures;
    }
