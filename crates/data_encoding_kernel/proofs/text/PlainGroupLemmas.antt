-- A loop over whole groups: the positions of reads and writes, and the text that is written so far.
use Rattle.std.proofs.Common.{◌≡◌, ℕ, ◌+◌, ◌-◌, ◌*◌, ◌/◌, ◌<◌, ◌≤◌, List, length, take, drop, refl, sym, ap, ◌∙◌, subst, arith, length-take-le}
use Rattle.std.proofs.Math.Seq.{take-add}
use Rattle.std.proofs.Math.Nat.{mul-pos, mul-mod_right, zero-mul}
use Rattle.std.proofs.lemmas.List.{take_all}
use Rattle.std.proofs.lemmas.Slice.{take-put_mid}
use borrow.Rule.Slice.PartMut.{put_mid}
use Rattle.data_encoding_meaning.specs.text.Base.{Base, IsGroup}
use Rattle.data_encoding_meaning.specs.text.Text.{plain_text}
use Rattle.data_encoding_meaning.proofs.lists.PartLemmas.{IsWhole, IsWhole-same, group-before, length-part, length-rest, one-more, room-rest, size-rest}
use Rattle.data_encoding_meaning.proofs.lists.WriteLemmas.{length-put_mid}
use Rattle.data_encoding_meaning.proofs.text.PlainTextLemmas.{plain_text-join, plain_text-nil}

-- several whole groups are as whole as one
pub IsWhole-turn : {groups bytes symbols n w b s : ℕ} → groups ≡ n → bytes ≡ b → symbols ≡ s
    → 0 < n → IsGroup w b s → IsWhole w (groups * bytes) (groups * symbols)
IsWhole-turn {groups} {bytes} {symbols} {n} {w} e p q some group =
    let one = IsWhole-same p q group in
    let some = subst (λ k. 0 < k) (sym e) some in
    record {
      is_width = one.is_width;
      same_bits = omega (arith, ap (λ k. groups * k) one.same_bits);
      some_bytes = mul-pos some one.some_bytes;
      some_symbols = mul-pos some one.some_symbols;
    }

-- Of n bytes, i whole groups are read, and of size symbols as many written.
module _ {width bytes symbols : ℕ} (whole : IsWhole width bytes symbols) (n size i : ℕ)
    (e : size ≡ (8 * n + (width - 1)) / width) (within : i * bytes ≤ n) where
  pub groups_fit : i * symbols ≤ size
  groups_fit =
      rw e (room-rest 8 width bytes symbols (width - 1) (sym whole.same_bits) whole.is_width.some
      n i within)

  pub rest_fits : size - i * symbols ≡ (8 * (n - i * bytes) + (width - 1)) / width
  rest_fits =
      rw e (size-rest 8 width bytes symbols (width - 1) (sym whole.same_bits) whole.is_width.some
      n i within)

module _ {width bytes symbols : ℕ} (whole : IsWhole width bytes symbols) where
  -- there is room for the text of the next groups, if the bytes loaded ahead are left out
  pub next_fits : (n size left ahead i : ℕ) → size ≡ (8 * n + (width - 1)) / width
      → left ≡ n - ahead → i < left / bytes → i * symbols + symbols ≤ size
  next_fits n size left ahead i e f h =
      let within : (i + 1) * bytes ≤ n =
      omega (arith, group-before left bytes i h, f, one-more i bytes) in
      omega (arith, groups_fit whole n size (i + 1) e within, one-more i symbols)

  module _ (base : Base) (is : base.width ≡ width) (input output : List ℕ) where
    some_width : 0 < base.width
    some_width = subst (λ w. 0 < w) (sym is) whole.is_width.some

    pub written-none : take (0 * symbols) output ≡ plain_text base (take (0 * bytes) input)
    written-none = rw (zero-mul symbols, zero-mul bytes) (sym (plain_text-nil base some_width))

    module _ (shown : List ℕ) (i : ℕ)
        (so_far : take (i * symbols) output ≡ plain_text base (take (i * bytes) input)) where
      -- groups have whole symbols, so the text of the rest follows the text of the groups
      joined : (more size : ℕ) → i * bytes ≤ length input → i * symbols ≤ length output
          → shown ≡ plain_text base (take more (drop (i * bytes) input))
          → take (i * symbols + length shown) (put_mid (i * symbols) size output shown)
          ≡ plain_text base (take (i * bytes + more) input)
      joined more size within room is_text =
          let same : 8 * (i * bytes) ≡ width * (i * symbols) =
          omega (arith, ap (λ n. i * n) whole.same_bits) in
          rw (take-put_mid (i * symbols) size output shown (i * symbols + length shown) refl room)
          (rw (so_far, is_text, take-add (i * bytes) more input)
          (sym (plain_text-join base (take (i * bytes) input) (take more (drop (i * bytes) input))
          some_width
          (rw (length-take-le (i * bytes) input within, is, same) (mul-mod_right width _)))))

      -- one more, which is written at its position
      pub written-next : i * bytes + bytes ≤ length input → i * symbols + symbols ≤ length output
          → length shown ≡ length (take (i * symbols + symbols - i * symbols)
          (drop (i * symbols) output))
          → shown ≡ plain_text base (take bytes (drop (i * bytes) input))
          → take ((i + 1) * symbols)
          (put_mid (i * symbols) (i * symbols + symbols - i * symbols) output shown)
          ≡ plain_text base (take ((i + 1) * bytes) input)
      written-next within room long is_text =
          let end : (i + 1) * symbols ≡ i * symbols + length shown =
          omega (arith, one-more i symbols, long, length-part (i * symbols) symbols output room) in
          rw (end, one-more i bytes) (joined bytes _ (omega arith) (omega arith) is_text)

      -- the text of the rest completes the text of the groups
      pub written-rest : i * bytes ≤ length input → i * symbols ≤ length output
          → length shown ≡ length (take (length output - i * symbols) (drop (i * symbols) output))
          → shown ≡ plain_text base (take (length input - i * bytes) (drop (i * bytes) input))
          → put_mid (i * symbols) (length output - i * symbols) output shown
          ≡ plain_text base input
      written-rest within room long is_text =
          let shown_len = long ∙ length-rest (i * symbols) output in
          let text = put_mid (i * symbols) (length output - i * symbols) output shown in
          let full : length text ≡ length output =
          length-put_mid (i * symbols) (length output - i * symbols) output shown
          (omega (arith, room)) shown_len in
          sym (take_all (i * symbols + length shown) text (omega (arith, full, shown_len, room)))
          ∙ joined (length input - i * bytes) _ within room is_text
          ∙ ap (plain_text base) (take_all (i * bytes + (length input - i * bytes)) input
          (omega (arith, within)))
