use Rattle.std.proofs.Common.{◌≡◌, ◌≢◌, [], ◌∷◌, codes, inl, inr, rules, sym}
use Rattle.std.proofs.lemmas.Option.{none-some}
use Rattle.std.specs.Io.KnownBytes.{Keeps}
use Rattle.encoding_stream.specs.Watch.{Change}
use Rattle.basecode.specs.Run.{Begun, OfNames, OfQuestion}
use Rattle.basecode.specs.Arguments.{texts}
use Rattle.basecode.proofs.proved_callers.list.Goals as goal

-- a run of `list` reads nothing
unread : (reader writer : Change) → Begun (codes "list" ∷ []) reader writer
    → Keeps reader.old reader.new
unread reader writer has =
    elim has.is_begun [
      | inl answer ↦ let is = answer.asked.is_request in absurd (cc)
      | inr reply ↦
          elim reply.replies [
            | OfQuestion base asks keeps answered ↦ keeps
            | OfNames is keeps listed ↦ keeps
          ]
    ]

pub returns-then-status-ne0-clause-unread : goal.returns-then-status-ne0-clause-unread
returns-then-status-ne0-clause-unread g c =
    let words : texts c.deref.result.now ≡ codes "list" ∷ [] = search rules in
    let not_2 : c.run-status.result ≢ 2 =
    λ is. none-some _ (sym (rw words at (c.run-status.ensures.usage.0 is))) in
    unread _ _ (rw words at (c.run-status.ensures.begun not_2))

pub returns-clause-unread : goal.returns-clause-unread
returns-clause-unread g c =
    let words : texts c.deref.result.now ≡ codes "list" ∷ [] = search rules in
    let not_2 : c.run-status.result ≢ 2 =
    λ is. none-some _ (sym (rw words at (c.run-status.ensures.usage.0 is))) in
    unread _ _ (rw words at (c.run-status.ensures.begun not_2))
