-- Ignored bytes at the start: the kept bytes are those that follow them.
use Rattle.std.proofs.Common.{◌≡◌, ℕ, ◌+◌, ◌-◌, ◌<◌, ◌≤◌, List, [], ◌++◌, length, map, take, drop, refl, sym, ap, ◌∙◌, arith, take-append-drop, take-add}
use Rattle.std.proofs.lemmas.List.{get_or-drop, length-drop, length-map, nil_from_length}
use Rattle.data_encoding_meaning.specs.text.Base.{Base}
use Rattle.data_encoding_meaning.specs.decoding.Decoding.{IsGathered, IsIgnoredFront}
use Rattle.data_encoding_meaning.specs.text.Grammar.{Positioned, kept, kept_in, kept_from}
use Rattle.data_encoding_meaning.proofs.grammar.KeptLemmas.{kept_from-more, kept_in-append}
use Rattle.data_encoding_meaning.proofs.grammar.PositionLemmas.{length-by_bytes}
use Rattle.data_encoding_meaning.proofs.grammar.SameBytesLemmas.{bytes-kept_in}

pub no_front : (base : Base) (part : List ℕ) → IsIgnoredFront base part 0
no_front base part = record { within = omega arith; none = refl }

module _ (base : Base) where
  -- none is kept of ignored bytes, whatever their position
  pub nothing-kept_in : (read : ℕ) (bytes : List ℕ) → kept base bytes ≡ []
      → kept_in base read bytes ≡ []
  nothing-kept_in read bytes h =
      let same = bytes-kept_in base read bytes ∙ sym (bytes-kept_in base 0 bytes) in
      nil_from_length (kept_in base read bytes)
      (length-by_bytes (kept_in base read bytes) [] (rw h at same))

  -- the kept bytes are those after the ignored ones
  bytes-after : (front rest : List ℕ) → kept base front ≡ []
      → map (λ (k : Positioned). k.byte) (kept base (front ++ rest))
      ≡ map (λ (k : Positioned). k.byte) (kept base rest)
  bytes-after front rest h =
      rw (kept_in-append base 0 front rest, h)
      (bytes-kept_in base (0 + length front) rest ∙ sym (bytes-kept_in base 0 rest))

  pub length-after : (part : List ℕ) (skip : ℕ) → IsIgnoredFront base part skip
      → length (kept base part) ≡ length (kept base (drop skip part))
  length-after part skip front =
      simp length-map at (ap length (rw (take-append-drop skip part) at
      (bytes-after (take skip part) (drop skip part) front.none)))

  -- what was gathered after ignored bytes was gathered from before them
  pub gathered-after : (size : ℕ) (part group : List ℕ) (skip span : ℕ)
      → IsIgnoredFront base part skip → IsGathered base size (drop skip part) group span
      → 0 < span → IsGathered base size part group (skip + span)
  gathered-after size part group skip span front is some =
      let place : skip + (span - 1) ≡ skip + span - 1 = omega (arith, some) in
      record {
        within = omega (arith, front.within, is.within, length-drop skip part);
        bytes_are = rw (take-add skip span part)
            (bytes-after (take skip part) (take span (drop skip part)) front.none
            ∙ is.bytes_are);
        ends = λ _. rw (← place, ← get_or-drop skip part (span - 1) 0) (is.ends some);
        few = is.few;
        last = rw (length-after part skip front) is.last;
      }

  -- nothing is left if nothing follows them
  pub nothing-after : (text : List ℕ) (read skip : ℕ) → read ≤ length text
      → IsIgnoredFront base (drop read text) skip → kept_from base (read + skip) text ≡ []
      → kept_from base read text ≡ []
  nothing-after text read skip within front none =
      let width : read + skip - read ≡ skip = omega arith in
      let more = kept_from-more base read text within (read + skip) (omega arith)
      (omega (arith, within, front.within, length-drop read text)) in
      rw (more, width, nothing-kept_in read (take skip (drop read text)) front.none) none
