use Rattle.std.proofs.Common.{◌+◌, ◌≤◌, sym, ◌∙◌, arith}
use Rattle.std.proofs.lemmas.Bool.{false≢true}
use Rattle.std.proofs.lemmas.Bool.Decides.{nat_tests}
use Rattle.data_encoding_meaning.proofs.digits.WidthLemmas.{group_symbols-pos}
use Rattle.data_encoding_kernel.proofs.decoding.JoinSizeLemmas.{join-width}
use Rattle.data_encoding.proofs.encoding.EncodingRef.is_padded_at.Goals as goal
use Rattle.data_encoding.proofs.encoding.EncodingRef.is_padded_at.Goals.{Then-len-read, then-self, else-self}

-- the group is there
enough : (c : Then-len-read) → c.args.read + c.group_symbols-symbols.result ≤ c.args.len
enough c =
    elim c.if-self.branch [
      | then-self w ↦ grind (arith, nat_tests, w.value-is, c.if-len-read.true)
      | else-self w ↦ absurd
          (false≢true (sym w.if-self.false ∙ sym w.value-is ∙ c.if-len-read.true))
    ]

pub bounds-part-read : goal.bounds-part-read
bounds-part-read c =
    omega (
      arith,
      enough (goal.at.bounds-part-read c).Then-len-read,
      c.requires.few,
      c.group_symbols-symbols.ensures,
      group_symbols-pos c.args.join.now.width (join-width c.requires.join.is_join),
    )

pub overflow_add-result : goal.overflow_add-result
overflow_add-result c = record { fits = omega (arith, enough c, c.ranges.len) }

pub overflow_sub-result : goal.overflow_sub-result
overflow_sub-result c =
    omega (
      arith,
      c.group_symbols-symbols.ensures,
      group_symbols-pos c.args.join.now.width (join-width c.requires.join.is_join),
    )

pub returns-else-len-read-clause-concatenates : goal.returns-else-len-read-clause-concatenates
returns-else-len-read-clause-concatenates c = λ is. cc

pub returns-else-len-read-clause-within : goal.returns-else-len-read-clause-within
returns-else-len-read-clause-within c = λ is. absurd (cc)
