use Rattle.data_encoding.proofs.encoding.EncodingRef.encode_append.Goals as goal

pub returns : goal.returns
returns c = record {
  text = c.append_in.ensures.text;
  unchanged = c.append_in.ensures.unchanged;
  capacity = c.append_in.ensures.capacity;
  empty = c.append_in.ensures.empty;
  base = c.append_in.ensures.base;
}
