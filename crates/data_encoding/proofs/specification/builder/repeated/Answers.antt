use Rattle.std.proofs.Common.{◌≡◌, ◌+◌, ◌-◌, ◌*◌, ◌^◌, ◌≤◌, ◌++◌, length, replicate, suc, sym, take, ap, ◌∙◌, arith}
use Rattle.std.proofs.Math.Nat.{pow-succ'}
use Rattle.std.proofs.Math.Pow.{pow_mono}
use Rattle.std.proofs.lemmas.List.{take_all}
use Rattle.std.proofs.lemmas.List.Edits.{take-paste}
use Rattle.std.specs.List.{concat}
use lib.Seq.{paste}
use Rattle.data_encoding_meaning.proofs.digits.WidthLemmas.{times_doubled}
use Rattle.data_encoding_meaning.proofs.lists.RepeatLemmas.{repeats-add}
use Rattle.data_encoding.proofs.specification.builder.repeated.Goals as goal

pub loop-preserved : goal.loop-preserved
loop-preserved c =
    let table = c.loop.table in
    let filled = c.loop.filled in
    let copied = c.copy_within.new.self in
    let symbols = c.args.symbols.now in
    let before : c.loop.counter ≤ 7 = omega arith in
    let few : 2 ^ c.loop.counter ≤ 2 ^ 7 = pow_mono before in
    let room : filled ≤ length table =
    omega (arith, few, c.loop.invariant.filled, c.loop.invariant.long) in
    let next : suc c.loop.counter ≡ c.loop.counter + 1 = omega arith in
    let double : 2 ^ (c.loop.counter + 1) ≡ 2 * 2 ^ c.loop.counter =
    ap (λ n. 2 ^ n) (sym next) ∙ pow-succ' 2 c.loop.counter in
    let times = 2 ^ (c.loop.counter - c.args.width) in
    let later : suc (c.loop.counter - c.args.width) ≡ c.loop.counter + 1 - c.args.width =
    omega arith in
    let twice : times + times ≡ 2 ^ (c.loop.counter + 1 - c.args.width) =
    omega (arith, pow-succ' 2 (c.loop.counter - c.args.width), ap (λ n. 2 ^ n) later) in
    let whole : filled - 0 ≡ filled = omega arith in
    record {
      long = c.copy_within.ensures.len ∙ c.loop.invariant.long;
      filled = omega (arith, double, c.loop.invariant.filled);
      front = ap (λ n. take n copied) (omega arith)
          ∙ ap (take (filled + filled)) c.copy_within.ensures.after
          ∙ ap (λ n. take (filled + filled) (paste table filled table n)) whole
          ∙ take-paste table filled table filled room room
          ∙ (λ i. c.loop.invariant.front i ++ c.loop.invariant.front i)
          ∙ sym (repeats-add times times symbols)
          ∙ ap (λ n. concat (replicate n symbols)) twice;
    }

pub returns : goal.returns
returns c =
    let end : c.loop.counter ≡ 8 = omega arith in
    let all : c.loop.filled ≡ 256 = c.loop.invariant.filled ∙ ap (λ n. 2 ^ n) end in
    sym (take_all c.loop.filled c.loop.table (omega (arith, all, c.loop.invariant.long)))
    ∙ c.loop.invariant.front
    ∙ ap (λ n. concat (replicate n c.args.symbols.now))
    (ap (λ n. 2 ^ (n - c.args.width)) end ∙ times_doubled c.args.width c.requires.width)
