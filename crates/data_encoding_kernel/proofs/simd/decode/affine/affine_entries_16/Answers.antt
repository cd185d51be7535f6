use Rattle.std.proofs.Common.{w8}
use Rattle.std.proofs.lemmas.Simd.{below_from_Fits}
use Rattle.data_encoding_kernel.specs.Affine.{affine_entry}
use Rattle.data_encoding_kernel.proofs.digits.AffineLemmas.{entry-exact}
use Rattle.data_encoding_kernel.proofs.digits.GatherRowLemmas.{entries-are}
use Rattle.data_encoding_kernel.proofs.simd.decode.affine.affine_entries_16.Goals as goal

pub returns : goal.returns
returns c = λ values held.
    entries-are (affine_entry c.args.affine.now) values c.args.bytes c.found_16.result
    c.found_16.ensures (below_from_Fits w8 c.args.bytes c.fits-bytes.1)
    (entry-exact values c.args.affine.now held)
