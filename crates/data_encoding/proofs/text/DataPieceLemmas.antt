-- Data in pieces: whole blocks, and the bytes after them.
use Rattle.std.proofs.Common.{◌≡◌, ℕ, zero, suc, ◌+◌, ◌*◌, ◌/◌, ◌%◌, ◌-◌, ◌<◌, ◌≤◌, List, [], ◌++◌, length, take, drop, refl, sym, ap, ◌∙◌, subst, arith, append_assoc, length-append, length-take-le, take-append-drop}
use Rattle.std.proofs.Math.Nat.{mod-add-mod, mod-eq_of_lt, mod_self, mul-mod_left, suc-mul, zero-add, zero-mul}
use Rattle.std.proofs.Math.Seq.{drop-append_seam, take-append_seam}
use Rattle.std.proofs.lemmas.List.{length-drop, nil_from_length}
use Rattle.std.proofs.lemmas.Nat.{div-add-mod', mod_below}
use Rattle.data_encoding_meaning.specs.text.Base.{Base}
use Rattle.data_encoding_meaning.specs.text.EncodedPieces.{HasEncoded}
use Rattle.data_encoding_meaning.specs.text.Lengths.{alignment}
use Rattle.data_encoding_meaning.specs.text.Text.{text_of}
use Rattle.data_encoding_meaning.proofs.judgement.RuleLemmas.{IsRuled}
use Rattle.data_encoding_meaning.proofs.text.EncodedPieceLemmas.{HasEncoded-whole, whole-both}
use Rattle.data_encoding_meaning.proofs.text.LineLemmas.{text_of-nil}
use Rattle.data_encoding_meaning.proofs.text.TextJoinLemmas.{text_of-join}
use Rattle.data_encoding.specs.KeptData.{after_blocks, blocks_len, text_of_blocks}

-- whole blocks, and less than one after them, by their lengths
whole-len : (whole left size : ℕ) → whole % size ≡ 0 → left < size
    → (whole + left) / size * size ≡ whole
whole-len whole left size aligned short =
    let rest : (whole + left) % size ≡ left =
    sym (mod-add-mod whole size left) ∙ ap (λ k. (k + left) % size) aligned
    ∙ ap (λ k. k % size) (zero-add left) ∙ mod-eq_of_lt short in
    omega (arith, div-add-mod' (whole + left) size, rest)

-- The effect of a piece: the text that is written, and the bytes that are then held.
pub record Reads (base : Base) (held piece text left : List ℕ) : Type 0 where
  pub text_is : text_of_blocks base (held ++ piece) ≡ text
  pub left_is : after_blocks base (held ++ piece) ≡ left
  pub short : length left < alignment base
  pub encodes : (before bytes written : List ℕ) → HasEncoded base before bytes written held
      → HasEncoded base before (bytes ++ piece) (written ++ text) left

module _ (base : Base) (ruled : IsRuled base) where
  -- a piece that ends whole blocks, and begins another
  reads-whole : (held piece whole left : List ℕ) → held ++ piece ≡ whole ++ left
      → length whole % alignment base ≡ 0 → length left < alignment base
      → Reads base held piece (text_of base whole) left
  reads-whole held piece whole left cut aligned short =
      let end : blocks_len base (length (whole ++ left)) ≡ length whole =
      ap (blocks_len base) (length-append whole left)
      ∙ whole-len (length whole) (length left) (alignment base) aligned short in
      record {
        text_is =
            ap (text_of_blocks base) cut ∙ ap (λ n. text_of base (take n (whole ++ left))) end
            ∙ ap (text_of base) (take-append_seam whole left);
        left_is =
            ap (after_blocks base) cut ∙ ap (λ n. drop n (whole ++ left)) end
            ∙ drop-append_seam whole left;
        short = short;
        encodes = λ before bytes written has.
            HasEncoded-whole base ruled before bytes written held has piece whole left cut aligned
            short;
      }

  -- the text of whole blocks is as many times as long as the text of one
  pub blocks-text : (one count : ℕ) (bytes : List ℕ)
      → ((block : List ℕ) → length block ≡ alignment base → length (text_of base block) ≡ one)
      → length bytes ≡ count * alignment base → length (text_of base bytes) ≡ count * one
  blocks-text one zero bytes each len =
      ap (λ b. length (text_of base b)) (nil_from_length bytes (len ∙ zero-mul (alignment base)))
      ∙ ap length (text_of-nil base ruled) ∙ sym (zero-mul one)
  blocks-text one (suc count) bytes each len =
      let size = alignment base in
      let all : length bytes ≡ count * size + size = len ∙ suc-mul count size in
      let block = take size bytes in
      let more = drop size bytes in
      let block-len : length block ≡ size = length-take-le size bytes (omega (arith, all)) in
      ap (λ b. length (text_of base b)) (sym (take-append-drop size bytes))
      ∙ ap length (text_of-join base ruled block more
      (ap (λ n. n % size) block-len ∙ mod_self size))
      ∙ length-append (text_of base block) (text_of base more)
      ∙ omega (
        arith,
        each block block-len,
        blocks-text one count more each (length-drop size bytes ∙ omega (arith, all)),
        suc-mul count one,
      )

  -- no block is whole
  pub reads-none : (held piece : List ℕ) → length held + length piece < alignment base
      → Reads base held piece [] (held ++ piece)
  reads-none held piece short =
      subst (λ t. Reads base held piece t (held ++ piece)) (text_of-nil base ruled)
      (reads-whole held piece [] (held ++ piece) refl (mod-eq_of_lt (omega (arith, short)))
      (omega (arith, short, length-append held piece)))

  -- a block that a prefix of the piece fills, the whole blocks after it, and the rest
  reads-blocks : (held piece block blocks left : List ℕ)
      → held ++ piece ≡ (block ++ blocks) ++ left → length block ≡ alignment base
      → length blocks % alignment base ≡ 0 → length left < alignment base
      → Reads base held piece (text_of base block ++ text_of base blocks) left
  reads-blocks held piece block blocks left cut full aligned short =
      let size = alignment base in
      let one : length block % size ≡ 0 = rw full (mod_self size) in
      subst (λ t. Reads base held piece t left) (text_of-join base ruled block blocks one)
      (reads-whole held piece (block ++ blocks) left cut
      (ap (λ k. k % size) (length-append block blocks)
      ∙ whole-both (length block) (length blocks) size one aligned) short)

  -- the same for a piece that is cut at the end of the block that it fills, and at the end of the
  -- last whole one
  pub reads-cut : (held piece block first rest blocks left : List ℕ) (missing size : ℕ)
      → size ≡ alignment base → length held + missing ≡ size → 0 < missing
      → missing ≤ length piece → first ≡ take missing piece → rest ≡ drop missing piece
      → blocks ≡ take (length rest - length rest % size) rest
      → left ≡ drop (length rest - length rest % size) rest → block ≡ held ++ first
      → Reads base held piece (text_of base block ++ text_of base blocks) left
  reads-cut held piece block first rest blocks left missing size is fills some few first_is rest_is
      blocks_is left_is filled =
      let end : ℕ = length rest - length rest % size in
      let below = mod_below (length rest) size (omega (arith, fills, some)) in
      let inside : end ≤ length rest = omega arith in
      let many : end ≡ length rest / size * size =
      omega (arith, div-add-mod' (length rest) size) in
      let counted : length blocks ≡ end = ap length blocks_is ∙ length-take-le end rest inside in
      let cut : held ++ piece ≡ (block ++ blocks) ++ left =
      ap (λ l. held ++ l) (sym (take-append-drop missing piece))
      ∙ simp (filled, first_is, blocks_is, left_is, append_assoc, take-append-drop, rest_is) in
      reads-blocks held piece block blocks left cut
      (ap length filled ∙ length-append held first
      ∙ omega (arith, ap length first_is, length-take-le missing piece few, fills, is))
      (ap (λ n. n % alignment base) (counted ∙ many)
      ∙ ap (λ n. length rest / size * size % n) (sym is) ∙ mul-mod_left (length rest / size) size)
      (omega (arith, ap length left_is, length-drop end rest, below, is))
