-- A name is UTF-8.
use Rattle.std.proofs.Common.{◌≡◌, ℕ, nat_lt, Bool, true, List, [], get_or, length, Some, refl, sym, subst, arith}
use Rattle.std.specs.List.{list_all}
use Rattle.std.specs.Str.{IsUtf8, bytes_eq}
use Rattle.std.proofs.lemmas.Bool.Decides.{Decides-ltb}
use Rattle.std.proofs.lemmas.List.Elements.{All-get_or}
use Rattle.std.proofs.lemmas.List.Quantifiers.{position-Some}
use Rattle.std.proofs.lemmas.List.Sums.{AllPass-from_list_all}
use Rattle.std.proofs.lemmas.Slice.Eq.{bytes_eq-Decides}
use Rattle.std.proofs.lemmas.Str.{IsUtf8-from_ascii}
use Rattle.std.proofs.lemmas.Str.Ascii.{IsAscii-from_reads}
use Rattle.data_encoding.specs.Named.{names, number_named}

is-low : ℕ → Bool
is-low byte = nat_lt byte 128

are-low : List ℕ → Bool
are-low bytes = list_all is-low bytes

utf8-low : (bytes : List ℕ) → are-low bytes ≡ true → IsUtf8 bytes
unfolding is-low are-low
utf8-low bytes low =
    IsUtf8-from_ascii bytes
    (IsAscii-from_reads bytes (length bytes) (omega arith)
    (λ k few. (Decides-ltb (get_or bytes k 0) 128).0
    (All-get_or (λ byte. is-low byte ≡ true) bytes k 0 few
    (AllPass-from_list_all is-low bytes low))))

pub named-utf8 : (name : List ℕ) (found : ℕ) → number_named name ≡ Some found → IsUtf8 name
unfolding is-low are-low
named-utf8 name found is =
    let at = position-Some (bytes_eq name) names found [] is in
    let known = get_or names found [] in
    let low =
    All-get_or (λ word. are-low word ≡ true) names found [] at.0
    (AllPass-from_list_all are-low names refl) in
    let same = (bytes_eq-Decides name known).0 at.1 in
    subst IsUtf8 (sym same) (utf8-low known low)
