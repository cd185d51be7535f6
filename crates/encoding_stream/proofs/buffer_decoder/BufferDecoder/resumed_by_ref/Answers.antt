use Rattle.std.proofs.Common.{refl, rules, sym, ◌∙◌, arith}
use Rattle.encoding_stream.proofs.OrderLemmas.{ascend-below}
use Rattle.encoding_stream.proofs.ResumedLemmas.{held-few, may-be-kept}
use Rattle.encoding_stream.proofs.SizeLemmas.{symbols-few}
use Rattle.encoding_stream.proofs.buffer_decoder.BufferDecoder.resumed_by_ref.Goals.{then-kept-gt-DECODE_LIMIT-via-then-kept-gt-DECODE_LIMIT, then-kept-gt-DECODE_LIMIT-via-else-kept-gt-DECODE_LIMIT+then-kept-group_len, then-kept-gt-DECODE_LIMIT-via-else-kept-gt-DECODE_LIMIT+else-kept-group_len+then-kept, then-not-is_in_order-via-then-not-is_in_order, then-not-is_in_order-via-else-not-is_in_order+then-holds_ignored}
use Rattle.encoding_stream.proofs.buffer_decoder.BufferDecoder.resumed_by_ref.Goals as goal

pub returns-then-kept-gt-DECODE_LIMIT-clause-resumes :
    goal.returns-then-kept-gt-DECODE_LIMIT-clause-resumes
returns-then-kept-gt-DECODE_LIMIT-clause-resumes c = λ is.
    let kept = c.args.kept in
    let decoder = c.new_by_ref-decoder.result in
    let few =
    held-few c.args.encoding.now (rw c.new_by_ref-decoder.ensures.base at decoder.width) is.text
    kept.len kept.count kept.fault kept.positions kept.bytes kept.ended (omega arith)
    (omega arith) is.keeps
    is.clear in
    elim c.then-kept-gt-DECODE_LIMIT.branch [
      | then-kept-gt-DECODE_LIMIT-via-then-kept-gt-DECODE_LIMIT w ↦
          absurd (omega (arith, w.if-kept-gt-DECODE_LIMIT.true, is.keeps.counted, is.limit))
      | then-kept-gt-DECODE_LIMIT-via-else-kept-gt-DECODE_LIMIT+then-kept-group_len w ↦
          absurd
          (omega (arith, w.if-kept-group_len.true, few.0, w.group_len.ensures.value))
      | then-kept-gt-DECODE_LIMIT-via-else-kept-gt-DECODE_LIMIT+else-kept-group_len+then-kept w ↦
          absurd (omega (arith, w.if-kept.true, few.1))
    ]

pub returns-then-not-is_in_order-clause-resumes :
    goal.returns-then-not-is_in_order-clause-resumes
returns-then-not-is_in_order-clause-resumes c = λ is.
    let decoder = c.new_by_ref-decoder.result in
    let may =
    may-be-kept c.args.encoding.now c.new_by_ref-decoder.ensures.specified
    (rw c.new_by_ref-decoder.ensures.base at decoder.width) decoder.laws.joins
    decoder.laws.ends_nowhere is.text c.args.kept (omega arith) (omega arith) is.keeps
    is.limit is.clear in
    elim c.then-not-is_in_order.branch [
      | then-not-is_in_order-via-then-not-is_in_order w ↦
          sym w.if-not-is_in_order.true ∙ c.is_in_order.ensures.complete may.in_order
      | then-not-is_in_order-via-else-not-is_in_order+then-holds_ignored w ↦
          sym (w.holds_ignored.ensures.complete may.none_ignored) ∙ w.if-holds_ignored.true
    ]

pub returns-then-not-has_possible_fault-clause-resumes :
    goal.returns-then-not-has_possible_fault-clause-resumes
returns-then-not-has_possible_fault-clause-resumes c = λ is.
    let decoder = c.new_by_ref-decoder.result in
    let may =
    may-be-kept c.args.encoding.now c.new_by_ref-decoder.ensures.specified
    (rw c.new_by_ref-decoder.ensures.base at decoder.width) decoder.laws.joins
    decoder.laws.ends_nowhere is.text c.args.kept (omega arith) (omega arith) is.keeps
    is.limit is.clear in
    sym c.if-not-has_possible_fault.true ∙ c.has_possible_fault.ensures.complete may.fault

pub invariant_of-decoder : goal.invariant_of-decoder
invariant_of-decoder c =
    let may = c.has_possible_fault.ensures.sound c.if-not-has_possible_fault.false in
    record {
      laws = search rules;
      specified = search rules;
      width = search rules;
      short =
          rw c.new_by_ref-decoder.ensures.base
          (omega (arith, c.if-kept-group_len.false, c.group_len.ensures.value));
      held = search rules;
      clear = may.clear;
      limit = search rules;
      inside =
          ascend-below 0 c.args.kept.len _
          (c.is_in_order.ensures.sound c.if-not-is_in_order.false);
      fault_inside = may.inside;
    }

pub returns-clause-tested : goal.returns-clause-tested
returns-clause-tested c = λ _.
    record {
      limit = omega (arith, c.if-kept-gt-DECODE_LIMIT.false);
      short = omega (arith, c.if-kept-group_len.false, c.group_len.ensures.value);
      in_order = c.is_in_order.ensures.sound c.if-not-is_in_order.false;
      none_ignored = c.holds_ignored.ensures.sound c.if-holds_ignored.false;
      fault = c.has_possible_fault.ensures.sound c.if-not-has_possible_fault.false;
    }

pub returns-clause-goes_on : goal.returns-clause-goes_on
returns-clause-goes_on c = record { base_is = c.new_by_ref-decoder.ensures.base; kept_is = refl }

pub holds_ignored-requires : goal.holds_ignored-requires
holds_ignored-requires c =
    omega (
      arith,
      c.if-kept-group_len.false,
      c.group_len.ensures.value,
      symbols-few c.args.encoding.now.width c.group_len.ensures.width,
    )
