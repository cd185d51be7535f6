use Rattle.std.proofs.Common.{◌≡◌, ◌∙◌, ℕ, List, [], ◌∷◌, length, set, get_or, sym, ap, arith}
use Rattle.std.proofs.lemmas.List.{nil_from_length}
use Rattle.data_encoding.proofs.encode.lines.write_separator.Goals as goal

-- of one byte, to set the first sets all
one : (xs ys : List ℕ) → length xs ≡ length ys → length ys ≡ 1 → set xs 0 (get_or ys 0 0) ≡ ys
one [] ys same few = absurd (omega arith)
one (x ∷ xs) [] same few = absurd (omega arith)
one (x ∷ xs) (y ∷ ys) same few =
    ap (λ l. y ∷ l) (nil_from_length xs (omega arith) ∙ sym (nil_from_length ys (omega arith)))

pub returns-in-len1 : goal.returns-in-len1
returns-in-len1 c = one c.args.output.now c.args.separator.now c.requires (omega arith)
