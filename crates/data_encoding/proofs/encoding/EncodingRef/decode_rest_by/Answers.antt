use Rattle.data_encoding.proofs.decoding.ShortLemmas.{joins-reads}
use Rattle.data_encoding.proofs.tables.TableLemmas.{HoldsValues-seen, ascii-seen}
use Rattle.data_encoding.proofs.encoding.EncodingRef.decode_rest_by.Goals as goal

pub decode_steps-requires-clause-entries : goal.decode_steps-requires-clause-entries
decode_steps-requires-clause-entries g c =
    let joins = c.join.ensures.join in
    record {
      reads = joins-reads joins c.requires.values;
      held = c.requires.held;
      join = joins.is_join;
      ignored = c.of.ensures c.args.self.now
          (HoldsValues-seen _ c.self.invariant c.args.self.now c.self.view_is)
          (ascii-seen _ c.self.invariant c.args.self.now c.self.view_is);
    }

pub decode_steps-requires-clause-first : goal.decode_steps-requires-clause-first
decode_steps-requires-clause-first g c =
    let at = c.progress_at-at.ensures in
    record {
      exact = c.requires.at.exact;
      so_far = rw (at.read, at.written) c.requires.at.so_far;
      front = rw at.read (at.front c.args.self.now (c.of.ensures c.args.self.now
          (HoldsValues-seen _ c.self.invariant c.args.self.now c.self.view_is)
          (ascii-seen _ c.self.invariant c.args.self.now c.self.view_is)));
    }
