use Rattle.std.proofs.Common.{replicate, refl}
use Rattle.data_encoding_kernel.proofs.packing.PackLemmas.{last-copied, last-loaded}
use Rattle.data_encoding_kernel.proofs.ignore.last_sixteen.Goals as goal

pub returns-then-len-ge16 : goal.returns-then-len-ge16
returns-then-len-ge16 c rest few within =
    last-loaded c.args.part.now rest c.if-len-ge16.true few

pub returns : goal.returns
returns c rest few within =
    last-copied c.args.part.now (replicate 16 0) c.copy_from_slice.new.self rest
    c.if-len-ge16.false refl
    c.copy_from_slice.ensures.after within
