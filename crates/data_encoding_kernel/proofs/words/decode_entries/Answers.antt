use Rattle.std.proofs.Common.{ℕ, ◌*◌, ◌/◌, ◌<◌, length, map, slice_index, sym, ap, ◌∙◌, arith}
use Rattle.std.specs.List.{range_with_len}
use Rattle.data_encoding_kernel.specs.Tables.{Reads}
use Rattle.data_encoding_kernel.specs.Words.{digit}
use Rattle.data_encoding_meaning.proofs.digits.SizeLemmas.{IsGroup-same, IsSmall-group}
use Rattle.data_encoding_kernel.proofs.digits.KernelLemmas.{entries_below, symbol_bytes-word}
use Rattle.data_encoding_meaning.proofs.lists.PartLemmas.{IsWhole-group}
use Rattle.std.proofs.Math.Nat.{mul-le-mul_left}
use Rattle.data_encoding_kernel.proofs.words.decode_entries.Goals as goal

pub returns : goal.returns
returns g c =
    let values = c.args.values.now in
    let input = c.args.input.now in
    let width = c.WIDTH.result in
    let group = IsGroup-same c.WIDTH.ensures c.BYTES.ensures c.SYMBOLS.ensures
    g.G.GroupSize.is_group in
    record {
      symbols = c.word_of_symbols-word.ensures.entries;
      bytes = λ base reads h.
          let own : Reads base values width c.args.order = record {
            width_is = reads.width_is ∙ sym c.WIDTH.ensures;
            order_is = reads.order_is;
            holds = reads.holds;
          } in
          let low = c.word_of_symbols-word.ensures.entries.0 h in
          let fits : (k : ℕ) → slice_index input k < 256 = λ k. (c.type_inv.input k).fits in
          let word = c.word_of_symbols-word.ensures.word
          (entries_below base width values input fits low own.width_is own.holds) in
          c.bytes_of_word.ensures
          ∙ (λ i. map (digit c.args.order 8 c.BYTES.result (word i))
          (range_with_len 0 (length c.args.output.now)))
          ∙ symbol_bytes-word base c.args.order width c.BYTES.result c.SYMBOLS.result
          (length c.args.output.now) values input group
          (omega (arith, c.requires.few, c.SYMBOLS.ensures))
          (c.requires.exact ∙ ap (λ w. w * length input / 8) (sym c.WIDTH.ensures)) fits low own;
    }

pub word_of_symbols-word-requires-clause-fits : goal.word_of_symbols-word-requires-clause-fits
word_of_symbols-word-requires-clause-fits g c =
    rw (c.WIDTH.ensures, c.SYMBOLS.ensures)
    (omega (arith, (IsSmall-group g.G.GroupSize.is_group).few_bits))

pub bytes_of_word-requires-clause-fits : goal.bytes_of_word-requires-clause-fits
bytes_of_word-requires-clause-fits g c =
    omega (arith, c.BYTES.ensures, (IsSmall-group g.G.GroupSize.is_group).few_bytes)

pub bytes_of_word-requires-clause-few : goal.bytes_of_word-requires-clause-few
bytes_of_word-requires-clause-few g c =
    let most = mul-le-mul_left g.G.GroupSize.WIDTH c.requires.few in
    omega (
      arith,
      most,
      (IsWhole-group _ _ _ g.G.GroupSize.is_group).same_bits,
      c.requires.exact,
      c.BYTES.ensures,
    )
