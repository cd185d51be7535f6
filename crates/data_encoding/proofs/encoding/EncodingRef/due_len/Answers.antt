use Rattle.std.proofs.Common.{◌≡◌, ◌≤◌, ◌-◌, ◌*◌, ◌/◌, ◌%◌, ◌++◌, ℕ, length, take, drop, refl, sym, ap, ◌∙◌, arith, length-append, length-take-le}
use Rattle.std.proofs.Math.Nat.{div-mul-le_self, mod-eq-sub-div-mul, mul-le-mul_left, mul_left_comm}
use Rattle.std.proofs.lemmas.List.{length-drop}
use Rattle.data_encoding.specs.KeptData.{held_data}
use Rattle.data_encoding_meaning.specs.text.Text.{text_of}
use Rattle.data_encoding_meaning.proofs.judgement.RuleLemmas.{IsRuled-built}
use Rattle.data_encoding.proofs.tables.TableRuleLemmas.{is_base_of}
use Rattle.data_encoding.proofs.text.DataPieceLemmas.{blocks-text, reads-cut, reads-none}
use Rattle.data_encoding.proofs.text.LineTableLemmas.{IsRuled-seen}
use Rattle.data_encoding.proofs.encoding.EncodingRef.due_len.Goals as goal

pub returns-then-len-missing : goal.returns-then-len-missing
returns-then-len-missing c =
    let kept = c.args.kept.now in
    let held = held_data kept in
    let size : length held ≡ kept.count =
    length-take-le kept.count kept.bytes (omega (arith, c.requires.short, c.requires.most)) in
    record {
      total = λ piece same.
          let none = reads-none c.args.self.now
          (IsRuled-seen _ c.self.invariant c.args.self.now c.self.view_is) held piece
          (omega (arith, c.if-len-missing.true, same, size, c.requires.short, c.requires.block)) in
          ap length none.text_is;
      block = λ few bytes long.
          absurd (omega (arith, few, c.if-len-missing.true, c.requires.block));
      whole = λ rest is.
          absurd (omega (arith, is, c.if-len-missing.true, c.requires.block, c.requires.short));
      none = λ _. refl;
      base = rw (← c.self.view_is) (is_base_of _ c.self.invariant);
    }

blocks-len : (len size : ℕ) → len - len % size ≡ len / size * size
blocks-len len size = omega (arith, mod-eq-sub-div-mul len size, div-mul-le_self len size)

pub returns : goal.returns
returns c =
    let base = c.args.self.now in
    let kept = c.args.kept.now in
    let held = held_data kept in
    let block_len = c.args.block_len in
    let specified = c.encode_len-block.ensures.base in
    let missing : ℕ = block_len - kept.count in
    let size : length held ≡ kept.count =
    length-take-le kept.count kept.bytes (omega (arith, c.requires.short, c.requires.most)) in
    record {
      total = λ piece same.
          let first = take missing piece in
          let rest = drop missing piece in
          let end : ℕ = length rest - length rest % block_len in
          let few : missing ≤ length piece = omega (arith, c.if-len-missing.false, same) in
          let left : length rest ≡ c.args.len - missing =
          length-drop missing piece ∙ ap (λ n. n - missing) same in
          let reads =
          reads-cut base (IsRuled-built specified.fields base specified.is_built) held piece
          (held ++ first) first rest (take end rest) (drop end rest) missing block_len
          c.requires.block (omega (arith, size, c.requires.short))
          (omega (arith, c.requires.short)) few refl refl refl refl refl in
          let one = c.encode_len-block.ensures.length (held ++ first)
          (length-append held first
          ∙ omega (arith, length-take-le missing piece few, size, c.requires.short)) in
          let count = (c.args.len - missing) / block_len in
          let others =
          blocks-text base (IsRuled-built specified.fields base specified.is_built)
          c.encode_len-block.result count (take end rest)
          (λ block long. c.encode_len-block.ensures.length block (long ∙ sym c.requires.block))
          (length-take-le end rest (omega arith) ∙ ap (λ n. n - n % block_len) left
          ∙ blocks-len (c.args.len - missing) block_len ∙ ap (λ n. count * n) c.requires.block) in
          ap length reads.text_is
          ∙ length-append (text_of base (held ++ first)) (text_of base (take end rest))
          ∙ omega (arith, one, others);
      block = λ few bytes long.
          c.encode_len-block.ensures.length bytes (long ∙ sym c.requires.block);
      whole = λ rest is.
          let left : c.args.len - missing ≡ rest =
          omega (arith, is, c.requires.block, c.requires.short) in
          sym (blocks-len (c.args.len - missing) block_len)
          ∙ ap (λ n. n - n % block_len) left ∙ ap (λ n. rest - rest % n) c.requires.block;
      none = λ short.
          absurd (omega (
            arith,
            short,
            c.if-len-missing.false,
            c.requires.block,
            c.requires.short,
          ));
      base = specified;
    }

-- the text of all blocks is not too long
few-blocks : (len size one count : ℕ) → count ≡ len / size → one ≤ 263 * size
    → count * one ≤ 263 * len
few-blocks len size one count is most =
    let more : count * one ≤ count * (263 * size) = mul-le-mul_left count most in
    omega (
      arith,
      more,
      mul_left_comm count 263 size,
      ap (λ n. n * size) is,
      div-mul-le_self len size,
    )

pub overflow_mul-result : goal.overflow_mul-result
overflow_mul-result c = record {
  fits = omega (
    arith,
    few-blocks (c.args.len - (c.args.block_len - c.args.kept.now.count)) c.args.block_len
        c.encode_len-block.result _ refl c.encode_len-block.ensures.most,
    c.requires.limit,
  );
}

pub overflow_add-result : goal.overflow_add-result
overflow_add-result c = record {
  fits = omega (
    arith,
    few-blocks (c.args.len - (c.args.block_len - c.args.kept.now.count)) c.args.block_len
        c.encode_len-block.result _ refl c.encode_len-block.ensures.most,
    c.encode_len-block.ensures.most,
    c.requires.most,
    c.requires.limit,
  );
}
