use Rattle.std.proofs.Common.{◌≡◌, ◌+◌, ◌-◌, ◌++◌, ◌<◌, ◌≤◌, ℕ, List, length, take, drop, sym, ap, ◌∙◌, subst, arith, length-append, append-nil}
use Rattle.std.proofs.lemmas.List.{drop_all, length-drop, nil_from_length, take_at}
use Rattle.std.proofs.lemmas.List.Elements.{All-append}
use Rattle.std.specs.List.{All}
use borrow.Rule.Slice.PartMut.{put_mid}
use Rattle.data_encoding_meaning.specs.text.Text.{text_of}
use Rattle.data_encoding_meaning.proofs.lists.PartLemmas.{length-rest}
use Rattle.data_encoding_meaning.proofs.lists.WriteLemmas.{put_mid-end}
use Rattle.data_encoding.proofs.encoding.EncodingRef.encode_both.Goals as goal

-- two texts, of which the first is written to the front of the output
module _ {shown first : List ℕ} (second output : List ℕ) {len : ℕ} (is : shown ≡ first)
    (sized : len ≡ length first) (exact : length output ≡ len + length second) where
  abbrev half : List ℕ
  half = shown ++ drop len output

  front : take len half ≡ shown
  front = take_at shown (drop len output) len (ap length is ∙ sym sized)

  length-half : length half ≡ len + length second
  length-half =
      length-append shown (drop len output)
      ∙ omega (arith, length-drop len output, ap length is, sized, exact)

  room : length (take (length half - len) (drop len half)) ≡ length second
  room = length-rest len half ∙ omega (arith, length-half)

  both : (other : List ℕ) → put_mid len (length half - len) half other ≡ shown ++ other
  both other = put_mid-end len half other ∙ ap (λ l. l ++ other) front

  alone : length half ≤ len → half ≡ shown
  alone none =
      ap (λ l. shown ++ l) (drop_all len output (omega (arith, exact, length-half, none)))
      ∙ append-nil shown

  alone-text : length half ≤ len → half ≡ first ++ second
  alone-text none =
      alone none ∙ is ∙ sym (append-nil first)
      ∙ sym (ap (λ l. first ++ l) (nil_from_length second (omega (arith, length-half, none))))

pub encode_mut-requires-then-len-output-clause-exact :
    goal.encode_mut-requires-then-len-output-clause-exact
encode_mut-requires-then-len-output-clause-exact c =
    room (text_of c.args.self.now c.args.second.now) c.args.output.now
    c.encode_mut.ensures.text c.requires.len c.requires.exact

pub returns-then-len-output-clause-text : goal.returns-then-len-output-clause-text
returns-then-len-output-clause-text c =
    both (text_of c.args.self.now c.args.second.now) c.args.output.now
    c.encode_mut.ensures.text c.requires.len c.requires.exact
    c.encode_mut-then-len-output.new.output
    ∙ (λ k. c.encode_mut.ensures.text k ++ c.encode_mut-then-len-output.ensures.text k)

pub returns-then-len-output-clause-ascii : goal.returns-then-len-output-clause-ascii
returns-then-len-output-clause-ascii c =
    subst (All (λ byte. byte < 128))
    (sym
    (both (text_of c.args.self.now c.args.second.now) c.args.output.now
    c.encode_mut.ensures.text c.requires.len c.requires.exact
    c.encode_mut-then-len-output.new.output))
    (All-append (λ byte. byte < 128) c.encode_mut.new.output c.encode_mut-then-len-output.new.output
    c.encode_mut.ensures.ascii c.encode_mut-then-len-output.ensures.ascii)

pub returns-else-len-output-clause-text : goal.returns-else-len-output-clause-text
returns-else-len-output-clause-text c =
    alone-text (text_of c.args.self.now c.args.second.now) c.args.output.now
    c.encode_mut.ensures.text c.requires.len c.requires.exact c.if-len-output.false

pub returns-else-len-output-clause-ascii : goal.returns-else-len-output-clause-ascii
returns-else-len-output-clause-ascii c =
    subst (All (λ byte. byte < 128))
    (sym
    (alone (text_of c.args.self.now c.args.second.now) c.args.output.now
    c.encode_mut.ensures.text c.requires.len c.requires.exact c.if-len-output.false))
    c.encode_mut.ensures.ascii
