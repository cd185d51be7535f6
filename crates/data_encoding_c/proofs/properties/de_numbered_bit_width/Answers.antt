use Rattle.std.proofs.Common.{refl}
use Rattle.data_encoding_calls.proofs.NumberLemmas.{by-known}
use Rattle.data_encoding_c.proofs.properties.de_numbered_bit_width.Goals as goal

pub returns : goal.returns
returns c = by-known _ c.in-Some.ensures.known (record {
  status = refl;
  value = cc;
})
