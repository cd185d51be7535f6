use Rattle.std.proofs.Common.{rules, ◌≡◌, ℕ, ◌<◌, All, List, sym, subst}
use Rattle.std.specs.List.{AllByRecursion}
use Rattle.std.proofs.lemmas.List.Elements.{All-from_recursion}
use Rattle.data_encoding_meaning.specs.text.Base.{Base}
use Rattle.data_encoding.specs.Encoding.{EncodingTables, KeepsRules, base_of_tables}
use Rattle.data_encoding_meaning.specs.text.Text.{text_of}
use Rattle.data_encoding.proofs.text.LineTableLemmas.{ascii-seen, has-lines}
use Rattle.data_encoding.proofs.encoding.EncodingRef.encode_mut.Goals as goal

-- with and without lines
ascii : (e : EncodingTables) → KeepsRules e → (seen : Base) → base_of_tables e ≡ seen
    → (input output : List ℕ) → output ≡ text_of seen input → All (λ byte. byte < 128) output
ascii e rules seen is input output written =
    All-from_recursion (λ byte. byte < 128) output
    (subst (AllByRecursion (λ byte. byte < 128)) (sym written) (ascii-seen e rules seen is input))

pub encode_lines-requires-clause-lines : goal.encode_lines-requires-clause-lines
encode_lines-requires-clause-lines c =
    has-lines _ c.self.invariant c.args.self.now c.self.view_is c.if-self-eq0.false

pub returns-then-self-eq0-clause-ascii : goal.returns-then-self-eq0-clause-ascii
returns-then-self-eq0-clause-ascii c =
    ascii _ c.self.invariant c.args.self.now c.self.view_is c.args.input.now
    c.encode_padded.new.output (search rules)

pub returns-else-self-eq0-clause-ascii : goal.returns-else-self-eq0-clause-ascii
returns-else-self-eq0-clause-ascii c =
    ascii _ c.self.invariant c.args.self.now c.self.view_is c.args.input.now
    c.encode_lines.new.output c.encode_lines.ensures
