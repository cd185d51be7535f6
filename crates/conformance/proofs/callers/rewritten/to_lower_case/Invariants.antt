use Rattle.std.proofs.Common.{◌≡◌, Ok}
use Rattle.data_encoding.specs.Base.{Base}
use Rattle.data_encoding.specs.Fields.{base_of}
use Rattle.data_encoding.specs.Predefined.{base32_dnssec_fields}
use Rattle.data_encoding.specs.SameMeaning.{exchanged}
use Rattle.conformance.proofs.RewrittenLemmas.{exchanged_to}
use Rattle.conformance.proofs.callers.rewritten.to_lower_case.Given as goal

abbrev pub invariant-loop-byte : goal.invariant-loop-byte
invariant-loop-byte l =
    (base : Base) → base_of base32_dnssec_fields ≡ Ok base
    → l.name ≡ exchanged_to (exchanged base base) l.byte-index l.initial.name
