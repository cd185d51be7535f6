use Rattle.std.proofs.Common.{flat_map, sym, ap, ◌∙◌}
use Rattle.data_encoding_kernel.specs.Lanes.{digits_of}
use Rattle.data_encoding_kernel.proofs.digits.JoinLemmas.{eights_first, eights_last}
use Rattle.data_encoding_kernel.proofs.simd.encode.digits.join_eights.Goals as goal
use Rattle.data_encoding_kernel.proofs.simd.encode.digits.join_eights.Goals.{in-MostSignificantFirst, in-LeastSignificantFirst}

pub returns : goal.returns
returns c width words narrow is =
    elim c.match-order.branch [
      | in-MostSignificantFirst w ↦
          w.result-is
          ∙ eights_last width words c.args.lanes narrow c.fits-lanes.0 is
          ∙ ap (λ order. flat_map (digits_of order width 8) words)
          (sym w.in-MostSignificantFirst.is)
      | in-LeastSignificantFirst w ↦
          w.result-is
          ∙ eights_first width words c.args.lanes narrow c.fits-lanes.0 is
          ∙ ap (λ order. flat_map (digits_of order width 8) words)
          (sym w.in-LeastSignificantFirst.is)
    ]
