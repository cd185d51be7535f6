use Rattle.std.proofs.Common.{◌≡◌, ℕ, ◌-◌, ◌*◌, ◌≤◌, List, ◌++◌, length, take, drop, sym, ap, ◌∙◌, arith, length-append, length-take-le, take-append-drop}
use Rattle.std.proofs.lemmas.List.{length-drop, take_all, take-append-le, take-take}
use Rattle.std.proofs.lemmas.Simd.{length-chunk, length-put_chunk, put_chunk_whole, take_more_put_chunk}
use Rattle.std.specs.Simd.Lanes.{chunk, put_chunk}
use Rattle.data_encoding_kernel.proofs.copy.copy_ends.Goals as goal

-- the first n of a list are written, and then its last n, which may overlap with these
module _ (n : ℕ) (input output : List ℕ) (enough : n ≤ length input)
    (few : length input ≤ 2 * n) (exact : length output ≡ length input) where
  abbrev end : ℕ
  end = length input - n

  abbrev half : List ℕ
  half = put_chunk 0 (take n output) (chunk 0 n (take n input)) ++ drop n output

  first-is : put_chunk 0 (take n output) (chunk 0 n (take n input)) ≡ take n input
  first-is =
      let long = length-take-le n input enough in
      put_chunk_whole (take n output) (chunk 0 n (take n input))
      (omega (
        arith,
        length-take-le n output (omega (arith, enough, exact)),
        length-chunk 0 n (take n input) (omega (arith, long)),
      ))
      ∙ take-take n n input (omega arith)

  length-half : length half ≡ length input
  length-half =
      ap (λ l. length (l ++ drop n output)) first-is
      ∙ length-append (take n input) (drop n output)
      ∙ omega (arith, length-take-le n input enough, length-drop n output, exact, enough)

  front : take end half ≡ take end input
  front =
      ap (λ l. take end (l ++ drop n output)) first-is
      ∙ take-append-le end (take n input) (drop n output)
      (omega (arith, length-take-le n input enough, few))
      ∙ take-take end n input (omega (arith, few))

  last-is : chunk end n input ≡ drop end input
  last-is = take_all n (drop end input) (omega (arith, length-drop end input, enough))

  copied : put_chunk end half (chunk end n input) ≡ input
  copied =
      let all = put_chunk end half (chunk end n input) in
      let long : length (chunk end n input) ≡ n =
      length-chunk end n input (omega (arith, enough)) in
      sym (take_all (length half) all
      (omega (arith, length-put_chunk end half (chunk end n input))))
      ∙ take_more_put_chunk end half (chunk end n input) (length half)
      (omega (arith, length-half, long, enough)) (omega arith)
      ∙ (λ k. front k ++ last-is k)
      ∙ take-append-drop end input

pub returns : goal.returns
returns g c =
    copied g.row.N c.args.input.now c.args.output.now c.requires.enough c.requires.few
    c.requires.exact
