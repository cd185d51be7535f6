use Rattle.std.proofs.Common.{ℕ, ◌+◌, ◌<◌, ◌^◌, List, lit<}
use Rattle.std.proofs.lemmas.Bool.{false≢true}
use Rattle.data_encoding.specs.Base.{Base, symbol}
use Rattle.data_encoding.specs.Order.{BreaksOrder, KeepsOrder}
use Rattle.data_encoding.specs.Predefined.{base64_nopad_fields}
use Rattle.conformance.proofs.NameLemmas.{seen-holds}
use Rattle.conformance.proofs.RewrittenLemmas.{specified_by}
use Rattle.conformance.proofs.callers.keys.is_sorted_by_texts.Goals as goal

unordered : (base : Base) (bytes others : List ℕ) → BreaksOrder base bytes others
    → KeepsOrder base → ⊥
unordered base bytes others broken keeps =
    broken.not_in_order
    (keeps bytes others broken.are_bytes broken.others_are_bytes broken.in_order)

pub returns : goal.returns
returns c = λ base is. (
  (λ never. absurd (false≢true never)),
  (λ keeps.
      let has = c.eighteen.ensures.base64_nopad base is in
      let broken = (c.order.ensures.broken base (specified_by base64_nopad_fields base is)
      has.wrapping).descending has.order 51
      (seen-holds (λ b. 51 + 1 < 2 ^ b.width) base64_nopad_fields base is (lit< tt))
      (seen-holds (λ b. symbol b (51 + 1) < symbol b 51) base64_nopad_fields base is (lit< tt)) in
      absurd (unordered base _ _ broken keeps)),
)
