use Rattle.std.proofs.Common.{◌≡◌, ℕ, true, false, Ok, sym, ap, ◌∙◌, arith}
use Rattle.data_encoding_meaning.specs.text.Base.{Base, ignores_some}
use Rattle.data_encoding_meaning.specs.text.Lengths.{decoded_len, is_valid_length, most_bytes}
use Rattle.data_encoding_meaning.proofs.grammar.LengthLemmas.{decoded_len-invalid, decoded_len-valid, most_bytes-valid}
use Rattle.data_encoding_meaning.proofs.grammar.MeaningLemmas.{decoded_len-Means, length-Means}
use Rattle.data_encoding.proofs.tables.TableLemmas.{IsWidth-seen}
use Rattle.data_encoding.proofs.tables.TableRuleLemmas.{is_base_of}
use Rattle.data_encoding.proofs.encoding.EncodingRef.decode_len.Goals as goal

decoded_len-ignored : (base : Base) (len : ℕ) → ignores_some base ≡ true
    → decoded_len base len ≡ Ok (most_bytes base len)
decoded_len-ignored base len some = grind arith

pub returns-then-not-is_valid_length : goal.returns-then-not-is_valid_length
returns-then-not-is_valid_length c =
    let seen = c.args.self.now in
    let width = IsWidth-seen _ c.self.invariant seen c.self.view_is in
    let none : ignores_some seen ≡ false =
    rw (← c.self.view_is) (sym c.self.invariant.ignores ∙ c.if-self.false) in
    let fault = decoded_len-invalid seen c.args.len none (cc) in
    record {
      value = cc;
      position = c.greatest_valid_length.ensures.less (cc);
      most = λ text bytes h means.
          rw (h, fault) at (decoded_len-Means seen width text bytes means);
      base = rw (← c.self.view_is) (is_base_of _ c.self.invariant);
    }

pub returns-then-self : goal.returns-then-self
returns-then-self c =
    let seen = c.args.self.now in
    let width = IsWidth-seen _ c.self.invariant seen c.self.view_is in
    let some : ignores_some seen ≡ true =
    rw (← c.self.view_is) (sym c.self.invariant.ignores ∙ c.if-self.true) in
    record {
      value = ap Ok c.most_bytes.ensures ∙ sym (decoded_len-ignored seen c.args.len some);
      position = cc;
      most = λ text bytes h means.
          rw (h, ← c.most_bytes.ensures) at (length-Means seen width text bytes means);
      base = rw (← c.self.view_is) (is_base_of _ c.self.invariant);
    }

pub returns : goal.returns
returns c =
    let seen = c.args.self.now in
    let width = IsWidth-seen _ c.self.invariant seen c.self.view_is in
    let valid : is_valid_length seen c.args.len ≡ true = cc in
    let most = most_bytes-valid seen width c.bit_width.result c.args.len c.bit_width.ensures.value
    valid in
    record {
      value = cc (most, decoded_len-valid seen c.args.len valid);
      position = cc;
      most = λ text bytes h means. rw (h, ← most) at (length-Means seen width text bytes means);
      base = rw (← c.self.view_is) (is_base_of _ c.self.invariant);
    }
