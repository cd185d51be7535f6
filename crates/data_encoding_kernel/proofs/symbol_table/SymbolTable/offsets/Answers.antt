use Rattle.std.proofs.Common.{sym, subst, arith, true, not, ◌||◌, ◌≡◌, take}
use Rattle.data_encoding_kernel.specs.OffsetAlphabet.{HoldsOffsetAlphabet, alphabet_of, sums_from}
use Rattle.data_encoding_kernel.proofs.digits.OffsetAlphabetLemmas.{sums-hold}
use Rattle.data_encoding_kernel.proofs.symbol_table.SymbolTable.offsets.Goals as goal

pub returns-then-self : goal.returns-then-self
returns-then-self c =
    let form = c.args.self.now.form in
    let symbols = c.args.self.now.entries in
    subst (HoldsOffsetAlphabet symbols) (sym c.alphabet.ensures)
    (sums-hold (alphabet_of form) symbols (omega arith)
    (subst (λ b. (not b || sums_from (alphabet_of form) 0 (take 64 symbols)) ≡ true) c.if-self.true
    c.requires))
