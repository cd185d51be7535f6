use Rattle.std.proofs.Common.{◌≡◌, ℕ, ◌+◌, ◌-◌, ◌<◌, ◌≤◌, List, ◌++◌, length, take, drop, sym, ap, ◌∙◌, arith, length-append, length-take-le, refl}
use Rattle.std.proofs.lemmas.List.{length-drop, take_at}
use borrow.Rule.Slice.PartMut.{put_mid}
use Rattle.data_encoding_meaning.specs.text.Base.{Base}
use Rattle.data_encoding.specs.Encoding.{EncodingTables, KeepsRules, base_of_tables}
use Rattle.data_encoding_meaning.specs.text.Lengths.{alignment}
use Rattle.data_encoding_meaning.specs.text.Text.{padded_text, text_of}
use Rattle.data_encoding_meaning.proofs.lists.PartLemmas.{length-rest}
use Rattle.data_encoding.proofs.text.LineTableLemmas.{IsRuled-seen, separator-seen}
use Rattle.data_encoding_meaning.proofs.text.LineLemmas.{text_of-line}
use Rattle.data_encoding_meaning.proofs.lists.WriteLemmas.{put_mid-end}
use Rattle.data_encoding.proofs.encoding.EncodingRef.encode_line.Goals as goal

-- a text that is written, followed by its separator
module _ (text padded separator output : List ℕ) (is : text ≡ padded ++ separator)
    (exact : length output ≡ length text) (n : ℕ) (count : n ≡ length separator) where
  abbrev end : ℕ
  end = length output - n

  size : length output ≡ length padded + n
  size =
      exact ∙ ap length is ∙ length-append padded separator
      ∙ ap (λ k. length padded + k) (sym count)

  inside : n ≤ length output
  inside = omega (arith, size)

  end-is : end ≡ length padded
  end-is = omega (arith, size)

  front : length (take end output) ≡ length padded
  front = length-take-le end output (omega arith) ∙ end-is

  module _ (shown ended : List ℕ) (first : shown ≡ padded) (last : ended ≡ separator) where
    abbrev half : List ℕ
    half = shown ++ drop end output

    length-half : length half ≡ length output
    length-half =
        omega (
          arith,
          length-append shown (drop end output),
          ap length first,
          length-drop end output,
          end-is,
          size,
        )

    room : length (take (length half - end) (drop end half)) ≡ length separator
    room = length-rest end half ∙ omega (arith, length-half, end-is, size, count)

    written : put_mid end (length half - end) half ended ≡ text
    written =
        put_mid-end end half ended
        ∙ (λ k. take_at shown (drop end output) end (ap length first ∙ sym end-is) k ++ last k)
        ∙ ap (λ l. l ++ separator) first ∙ sym is

-- the text by these tables
module _ (e : EncodingTables) (rules : KeepsRules e) (seen : Base) (is : base_of_tables e ≡ seen)
    (input : List ℕ) (some : 0 < length input) (few : length input ≤ alignment seen) where
  text-is : text_of seen input ≡ padded_text seen input ++ e.separator
  text-is =
      text_of-line seen (IsRuled-seen e rules seen is) input some few
      ∙ ap (λ l. padded_text seen input ++ l) (separator-seen e rules seen is)

pub overflow_sub-end : goal.overflow_sub-end
overflow_sub-end c =
    let seen = c.args.self.now in
    let input = c.args.input.now in
    inside (text_of seen input) (padded_text seen input) _
    c.args.output.now
    (text-is _ c.self.invariant seen c.self.view_is input c.requires.some
    c.requires.line)
    c.requires.exact (length c.self.inside.separator.now) refl

pub encode_padded-requires-clause-exact : goal.encode_padded-requires-clause-exact
encode_padded-requires-clause-exact c =
    let seen = c.args.self.now in
    let input = c.args.input.now in
    front (text_of seen input) (padded_text seen input) _
    c.args.output.now
    (text-is _ c.self.invariant seen c.self.view_is input c.requires.some
    c.requires.line)
    c.requires.exact (length c.self.inside.separator.now) refl

pub write_separator-requires : goal.write_separator-requires
write_separator-requires c =
    let seen = c.args.self.now in
    let input = c.args.input.now in
    room (text_of seen input) (padded_text seen input) _
    c.args.output.now
    (text-is _ c.self.invariant seen c.self.view_is input c.requires.some
    c.requires.line)
    c.requires.exact (length c.self.inside.separator.now) refl
    c.encode_padded.new.output
    c.self.inside.separator.now c.encode_padded.ensures refl

pub returns : goal.returns
returns c =
    let seen = c.args.self.now in
    let input = c.args.input.now in
    written (text_of seen input) (padded_text seen input) _
    c.args.output.now
    (text-is _ c.self.invariant seen c.self.view_is input c.requires.some
    c.requires.line)
    c.requires.exact (length c.self.inside.separator.now) refl
    c.encode_padded.new.output
    c.write_separator.new.output c.encode_padded.ensures
    c.write_separator.ensures
