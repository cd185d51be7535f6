use Rattle.std.proofs.Common.{◌<◌, ap, arith, map, ◌∙◌}
use Rattle.std.specs.Int.RustNames.{count_ones}
use Rattle.std.specs.Prelude.{◌==◌}
use Rattle.std.specs.Simd.Lanes.{mask_l}
use Rattle.std.proofs.lemmas.List.{take_all}
use Rattle.std.proofs.lemmas.List.Elements.{All-from_get_or, recursion_from_All}
use Rattle.data_encoding_kernel.specs.Ignore.{ignored_bit}
use Rattle.data_encoding_kernel.proofs.packing.KeptLemmas.{count-kept}
use Rattle.data_encoding_kernel.proofs.ignore.IgnoredBytes.count_kept.Goals as goal

pub returns : goal.returns
returns c = λ base held.
    let part = c.args.part.now in
    count-kept base c.args.self.now held part
    (recursion_from_All (λ byte. byte < 256) part
    (All-from_get_or (λ byte. byte < 256) part 0 (λ k h. (c.type_inv.part k).fits)))
    (count_ones c.kept_mask.result)
    (ap count_ones (c.kept_mask.ensures
    ∙ ap (λ l. mask_l (map (λ byte. ignored_bit c.args.self.now byte == 0) l))
    (take_all 16 part (omega (arith, c.requires)))))
