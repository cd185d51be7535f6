use Rattle.std.proofs.Common.{◌++◌, ◌^◌, w32, sym, ap, ◌∙◌, arith}
use Rattle.std.proofs.lemmas.List.{map-id}
use Rattle.std.specs.List.{range_with_len}
use Rattle.std.specs.Simd.Lanes.{pick_l}
use Rattle.data_encoding_meaning.specs.declared.encoding.BitOrder.TheVariants.{MostSignificantFirst, LeastSignificantFirst}
use Rattle.data_encoding_kernel.proofs.digits.GatherStoreLemmas.{bytes_of_words, low-fits, stored-twelves, threes-of-low, threes-picked}
use Rattle.data_encoding_kernel.proofs.simd.decode.store_three.Goals as goal
use Rattle.data_encoding_kernel.proofs.simd.decode.store_three.Goals.{in-MostSignificantFirst, in-LeastSignificantFirst}

pub overflow_cast-bytes : goal.overflow_cast-bytes
overflow_cast-bytes c =
    low-fits w32 (2 ^ 32) (omega arith) (omega arith) c.args.words c.low_bits.ensures

pub returns : goal.returns
returns c =
    stored-twelves c.match-order.parts c.match-order.auto.parts.0 c.match-order.auto.parts.1
    c.args.output.now c.requires.exact
    ∙ elim c.match-order.branch [
      | in-MostSignificantFirst w ↦
          ap (λ l. pick_l 0 l (range_with_len 0 12) ++ pick_l 0 l (range_with_len 16 12)) w.parts-is
          ∙ rw map-id (threes-of-low MostSignificantFirst (threes-picked MostSignificantFirst)
          c.args.words c.low_bits.result c.fits-words.0 c.low_bits.ensures)
          ∙ ap (λ order. bytes_of_words order 3 c.args.words) (sym w.in-MostSignificantFirst.is)
      | in-LeastSignificantFirst w ↦
          ap (λ l. pick_l 0 l (range_with_len 0 12) ++ pick_l 0 l (range_with_len 16 12)) w.parts-is
          ∙ rw map-id (threes-of-low LeastSignificantFirst (threes-picked LeastSignificantFirst)
          c.args.words c.low_bits.result c.fits-words.0 c.low_bits.ensures)
          ∙ ap (λ order. bytes_of_words order 3 c.args.words) (sym w.in-LeastSignificantFirst.is)
    ]
