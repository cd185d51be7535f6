use Rattle.std.proofs.Common.{flat_map, ◌++◌, sym, ap, ◌∙◌}
use Rattle.data_encoding_kernel.specs.Lanes.{digits_of}
use Rattle.data_encoding_kernel.proofs.digits.JoinLemmas.{fours_first, fours_last}
use Rattle.data_encoding_kernel.proofs.simd.encode.digits.join_fours.Goals as goal
use Rattle.data_encoding_kernel.proofs.simd.encode.digits.join_fours.Goals.{in-MostSignificantFirst, in-LeastSignificantFirst}

pub returns : goal.returns
returns c width words narrow is =
    elim c.match-order.branch [
      | in-MostSignificantFirst w ↦
          w.result-is
          ∙ fours_last width words c.args.lanes narrow c.fits-lanes.0 is
          ∙ ap (λ order. flat_map (digits_of order width 4) (words ++ words))
          (sym w.in-MostSignificantFirst.is)
      | in-LeastSignificantFirst w ↦
          w.result-is
          ∙ fours_first width words c.args.lanes narrow c.fits-lanes.0 is
          ∙ ap (λ order. flat_map (digits_of order width 4) (words ++ words))
          (sym w.in-LeastSignificantFirst.is)
    ]
