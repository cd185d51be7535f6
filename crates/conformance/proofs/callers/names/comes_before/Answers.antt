use Rattle.std.proofs.Common.{◌↔◌, ℕ, List, IsTrue, lit<}
use Rattle.data_encoding.specs.Fields.{IsSpecified}
use Rattle.data_encoding.specs.Grammar.{Means}
use Rattle.data_encoding.specs.Order.{IsBefore}
use Rattle.data_encoding.specs.Predefined.{base32hex_nopad_fields}
use Rattle.conformance.proofs.NameLemmas.{is_built-seen}
use Rattle.conformance.proofs.OrderLemmas.{less-IsBefore}
use Rattle.conformance.proofs.callers.names.comes_before.Goals as goal

pub returns : goal.returns
returns c =
    let seen = c.base32hex_nopad-encoding.result in
    let is_built = c.base32hex_nopad-encoding.ensures in
    let one = c.args.one.now in
    let other = c.args.other.now in
    let is : IsSpecified seen =
    record { fields = base32hex_nopad_fields; is_built = is_built } in
    let canonical =
    c.canonical.ensures.eighteen.0 3 base32hex_nopad_fields (lit< tt) seen is_built in
    let ordered =
    c.order.ensures.sixteen.0 4 base32hex_nopad_fields (lit< tt) seen is_built in
    let less = less-IsBefore one other c.lt.result c.lt.ensures in
    is_built-seen (λ base. (bytes others : List ℕ) → Means base one bytes → Means base other others
    → IsTrue c.lt.result ↔ IsBefore bytes others) base32hex_nopad_fields seen is_built
    (λ bytes others means other_means.
    let alike = c.order.ensures.texts seen is canonical ordered one other bytes others means
    other_means in
    (λ result. alike.order.1 (less.0 result), λ before. less.1 (alike.order.0 before)))
