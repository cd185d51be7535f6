use Rattle.data_encoding_kernel.proofs.digits.GatherRowLemmas.{row-loaded}
use Rattle.data_encoding_kernel.proofs.simd.decode.table_rows.rows_of.Goals as goal

pub returns : goal.returns
returns c = record {
  first = row-loaded 0 c.args.values.now;
  second = row-loaded 16 c.args.values.now;
  third = row-loaded 32 c.args.values.now;
  fourth = row-loaded 48 c.args.values.now;
  fifth = row-loaded 64 c.args.values.now;
  sixth = row-loaded 80 c.args.values.now;
  seventh = row-loaded 96 c.args.values.now;
  eighth = row-loaded 112 c.args.values.now;
  ascii = c.requires.ascii;
}
