use Rattle.std.proofs.Common.{◌≡◌, Ok}
use Rattle.data_encoding.specs.Base.{Base}
use Rattle.data_encoding.specs.Fields.{base_of}
use Rattle.data_encoding.specs.Predefined.{base64_fields, base64url_fields}
use Rattle.data_encoding.specs.SameMeaning.{exchanged}
use Rattle.conformance.proofs.RewrittenLemmas.{exchanged_to}
use Rattle.conformance.proofs.callers.rewritten.to_base64url.Given as goal

abbrev pub invariant-loop-byte : goal.invariant-loop-byte
invariant-loop-byte l =
    (base url : Base) → base_of base64_fields ≡ Ok base → base_of base64url_fields ≡ Ok url
    → l.text ≡ exchanged_to (exchanged base url) l.byte-index l.initial.text
