use Rattle.data_encoding_meaning.proofs.canonicity.TokenLemmas.{texts-alike}
use Rattle.data_encoding_meaning.proofs.order.ComparedLemmas.{data-alike}
use Rattle.data_encoding_meaning.proofs.order.EighteenOrderLemmas.{six-ordered, ten-not}
use Rattle.data_encoding_meaning.proofs.order.OrderPairLemmas.{IsBroken-ruled, IsOrdered-keeps}
use Rattle.data_encoding_meaning.proofs.order.TextOrderLemmas.{KeepsOrder-ordered}
use Rattle.data_encoding_meaning.proofs.judgement.RuleLemmas.{IsRuled-built}
use Rattle.data_encoding_meaning.proofs.laws.order.Goals as goal

pub returns-clause-kept : goal.returns-clause-kept
returns-clause-kept c base is unwrapped =
    let ruled = IsRuled-built is.fields base is.is_built in
    (KeepsOrder-ordered base ruled unwrapped, IsOrdered-keeps base ruled unwrapped)

pub returns-clause-broken : goal.returns-clause-broken
returns-clause-broken c base is =
    IsBroken-ruled base (IsRuled-built is.fields base is.is_built)

pub returns-clause-data : goal.returns-clause-data
returns-clause-data c base is = data-alike base (IsRuled-built is.fields base is.is_built)

pub returns-clause-texts : goal.returns-clause-texts
returns-clause-texts c base is = texts-alike base (IsRuled-built is.fields base is.is_built)

pub returns-clause-sixteen : goal.returns-clause-sixteen
returns-clause-sixteen c = (six-ordered, ten-not)
