use Rattle.std.proofs.Common.{◌≡◌, ℕ, List, ◌++◌, length, take, refl, sym, ap, ◌∙◌}
use Rattle.std.proofs.lemmas.List.{take_at}
use Rattle.data_encoding.proofs.tables.TableRuleLemmas.{separator-short}
use Rattle.data_encoding.proofs.text.LinePieceLemmas.{columns-some, text-wrapped}
use Rattle.data_encoding.proofs.encoding.EncodingRef.encode_block.Goals as goal

-- the prefix of the room to which the text was written
front-is : {n : ℕ} {shown padded : List ℕ} (rest : List ℕ) → shown ≡ padded
    → length padded ≡ n → take n (shown ++ rest) ≡ padded
front-is {n} {shown} rest is len = take_at shown rest n (ap length is ∙ len) ∙ is

pub wrap-requires-clause-some : goal.wrap-requires-clause-some
wrap-requires-clause-some c = columns-some c.self.invariant c.self.view_is c.requires.lines

pub wrap-requires-clause-short : goal.wrap-requires-clause-short
wrap-requires-clause-short c = separator-short _ c.self.invariant

pub wrap-requires-clause-exact : goal.wrap-requires-clause-exact
wrap-requires-clause-exact c =
    c.requires.exact
    ∙ ap length
    (text-wrapped c.self.invariant c.self.view_is c.requires.lines
    c.args.input.now refl
    (front-is _ c.encode_padded.ensures
    (c.padded_len-count.ensures.length c.args.input.now refl)))

pub returns : goal.returns
returns c =
    c.wrap.ensures
    ∙ sym (text-wrapped c.self.invariant c.self.view_is c.requires.lines
    c.args.input.now refl
    (front-is _ c.encode_padded.ensures
    (c.padded_len-count.ensures.length c.args.input.now refl)))
