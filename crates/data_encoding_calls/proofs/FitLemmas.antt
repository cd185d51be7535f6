-- Data that is copied to an output as far as it fits.
use Rattle.std.proofs.Common.{◌≡◌, ℕ, ◌+◌, ◌-◌, ◌≤◌, List, ◌++◌, length, take, drop, sym, ap, ◌∙◌, subst, arith}
use Rattle.std.proofs.lemmas.List.{drop-take, length-append, take-append-drop, take-take}
use Rattle.data_encoding.specs.Base.{Base}
use Rattle.data_encoding.specs.Pieces.{whole_bytes}
use Rattle.encoding_stream.specs.declared.buffer_decoder.Kept.{Kept}
use Rattle.encoding_stream.specs.BufferDecoder.{Keeps}
use Rattle.encoding_stream.specs.Reading.{ReadsOn}

-- `needed` is the length of the data, which is at the start of the output if it fits.
pub record Copied (bytes : List ℕ) (needed : ℕ) (output : List ℕ) : Type 0 where
  pub counted : needed ≡ length bytes
  pub front : needed ≤ length output → take needed output ≡ bytes

-- the next bytes are written after the data
pub copied-more : (bytes more old new : List ℕ) (needed count : ℕ) → length more ≡ count
    → Copied bytes needed old → length new ≡ length old
    → (needed + length more ≤ length old
    → take (needed + length more) new ≡ take needed old ++ more)
    → Copied (bytes ++ more) (needed + count) new
copied-more bytes more old new needed count is before len written = record {
  counted = omega (arith, is, before.counted, length-append bytes more);
  front = λ fits.
      ap (λ n. take (needed + n) new) (sym is)
      ∙ written (omega (arith, is, fits, len))
      ∙ ap (λ front. front ++ more) (before.front (omega (arith, fits, len)));
}

-- a part of a text after the prefix before it
part-next : (text : List ℕ) (read end : ℕ) → read ≤ end
    → take read text ++ take (end - read) (drop read text) ≡ take end text
part-next text read end within =
    let front : take read (take (read + (end - read)) text) ≡ take read text =
    take-take read (read + (end - read)) text (omega arith) in
    let joined : take read text ++ take (end - read) (drop read text)
    ≡ take (read + (end - read)) text =
    rw (← front, ← drop-take read (end - read) text)
    (take-append-drop read (take (read + (end - read)) text)) in
    joined ∙ ap (λ n. take n text) (omega (arith, within))

-- a decoder that has read a text up to `read` reads the part up to `end`
pub reads-part : (base : Base) (old new : Kept) (text more : List ℕ) (read end : ℕ) → read ≤ end
    → Keeps base old (take read text)
    → ReadsOn base old new (take (end - read) (drop read text)) more
    → Keeps base new (take end text)
    × (whole_bytes base (take end text) ≡ whole_bytes base (take read text) ++ more)
reads-part base old new text more read end within keeps reads =
    subst (λ front. Keeps base new front
    × (whole_bytes base front ≡ whole_bytes base (take read text) ++ more))
    (part-next text read end within)
    (reads.keeps (take read text) keeps, reads.decodes (take read text) keeps)
