-- The first groups of a run.
use Rattle.std.proofs.Common.{◌≡◌, ℕ, ◌+◌, ◌-◌, ◌*◌, ◌%◌, ◌≤◌, List, ◌++◌, length, length-append, length-take-le, map, take, take-add, drop, sym, ap, ◌∙◌, arith, flat_map}
use Rattle.std.proofs.Math.Nat.{add-mul, mul-le-mul_left, mul-le-mul_right, mul-mod_left}
use Rattle.std.proofs.lemmas.List.{length-drop, length-map, map-append, take-take, take_at}
use Rattle.std.proofs.lemmas.List.Concat.{flat_map-append}
use Rattle.data_encoding_meaning.specs.text.Base.{Base, IsWidth, IsGroup, group_bytes, group_symbols, meaning}
use Rattle.data_encoding_meaning.specs.text.Bits.{runs}
use Rattle.data_encoding_meaning.specs.text.Grammar.{Positioned, positioned_from}
use Rattle.data_encoding_meaning.specs.decoding.Decoding.{run_bytes}
use Rattle.data_encoding_meaning.proofs.decoding.RoomLemmas.{length-bytes_of_groups}
use Rattle.data_encoding_meaning.proofs.digits.WidthLemmas.{group_bits, group_symbols-pos}
use Rattle.data_encoding_meaning.proofs.grammar.PositionLemmas.{length-positioned_from}
use Rattle.data_encoding_meaning.proofs.grammar.WholeGroupLemmas.{run_bytes-positioned}
use Rattle.data_encoding_meaning.proofs.lists.PartLemmas.{regroup}
use Rattle.data_encoding_meaning.proofs.lists.RunLemmas.{flat_map-runs, runs-join}
use Rattle.data_encoding_kernel.specs.Runs.{IsRun}

module _ (base : Base) (width : IsWidth base.width) where
  abbrev enc : ℕ
  enc = group_bytes base.width

  abbrev dec : ℕ
  dec = group_symbols base.width

  -- no more bytes than whole groups have
  few-run_bytes : (n : ℕ) (part : List ℕ) → length part ≤ n * dec
      → length (run_bytes base part) ≤ n * enc
  few-run_bytes n part few =
      let ks = positioned_from 0 part in
      let most = length-bytes_of_groups base (runs dec ks) in
      let all : length (flat_map (λ (group : List Positioned). group) (runs dec ks)) ≡ length part =
      ap length (flat_map-runs dec ks (group_symbols-pos base.width width))
      ∙ length-positioned_from 0 part in
      let bits = regroup base.width 8 dec enc 0 (group_bits base.width width) (omega arith) n in
      omega (
        arith,
        most,
        ap (λ k. base.width * k) all,
        ap length (run_bytes-positioned base width 0 part),
        mul-le-mul_left base.width few,
        bits,
      )

  module _ (part : List ℕ) where
    run_bytes-more : (i m : ℕ) → (i + m) * dec ≤ length part
        → run_bytes base (take ((i + m) * dec) part)
        ≡ run_bytes base (take (i * dec) part)
        ++ run_bytes base (take (m * dec) (drop (i * dec) part))
    run_bytes-more i m within =
        let front = take (i * dec) part in
        let sum : (i + m) * dec ≡ i * dec + m * dec = add-mul i m dec in
        let front_len : length front ≡ i * dec =
        length-take-le (i * dec) part (omega (arith, within, sum)) in
        let whole : length (map (meaning base) front) % dec ≡ 0 =
        rw (length-map, front_len) (mul-mod_left i dec) in
        rw (sum, take-add (i * dec) (m * dec) part, map-append)
        (rw (
          runs-join dec (map (meaning base) front) _ (group_symbols-pos base.width width) whole,
          flat_map-append,
        ))

    module _ {count : ℕ} {old new : List ℕ} (run : IsRun base part count old new)
        (room : count * enc ≤ length new) where
      front-len : (i m : ℕ) → i + m ≡ count
          → length (run_bytes base (take (i * dec) part)) ≡ i * enc
      front-len i m sum =
          let rest = drop (i * dec) part in
          let sums = add-mul i m enc in
          let within : (i + m) * dec ≤ length part = rw sum run.within in
          let split = add-mul i m dec in
          let front = few-run_bytes i (take (i * dec) part)
          (omega (arith, length-take-le (i * dec) part (omega (arith, within, split)))) in
          let enough : m * dec ≤ length rest =
          omega (arith, within, split, length-drop (i * dec) part) in
          let back = few-run_bytes m (take (m * dec) rest)
          (omega (arith, length-take-le (m * dec) rest enough)) in
          let all : length (run_bytes base (take ((i + m) * dec) part)) ≡ (i + m) * enc =
          rw sum (ap length (sym run.bytes) ∙ length-take-le (count * enc) new room) in
          omega (
            arith,
            front,
            back,
            sums,
            all,
            simp length-append at (ap length (run_bytes-more i m within)),
          )

      front-written : (i m : ℕ) → i + m ≡ count
          → take (i * enc) new ≡ run_bytes base (take (i * dec) part)
      front-written i m sum =
          let within : (i + m) * dec ≤ length part = rw sum run.within in
          let few : i * enc ≤ count * enc = mul-le-mul_right enc (omega (arith, sum)) in
          sym (take-take (i * enc) (count * enc) new few)
          ∙ ap (take (i * enc)) (run.bytes ∙ rw sum at (run_bytes-more i m within))
          ∙ take_at _ _ (i * enc) (front-len i m sum)

      shorter : (i : ℕ) → i ≤ count → IsRun base part i old new
      shorter i few =
          let less : i * dec ≤ count * dec = mul-le-mul_right dec few in
          record {
            within = omega (arith, run.within, less);
            are_symbols = λ k h. run.are_symbols k (omega (arith, h, less));
            bytes = front-written i (count - i) (omega (arith, few));
          }

-- with the size of a group under another name
pub run-shorter : (base : Base) → IsWidth base.width → (w bytes symbols : ℕ)
    → IsGroup w bytes symbols → base.width ≡ w → (part old new : List ℕ) (count i : ℕ)
    → count * bytes ≤ length new → i ≤ count → IsRun base part count old new
    → IsRun base part i old new
run-shorter base width w bytes symbols group is part old new count i room few run =
    let same : group_bytes base.width ≡ bytes = ap group_bytes is ∙ sym group.has_bytes in
    shorter base width part run (omega (arith, room, ap (λ n. count * n) same)) i few
