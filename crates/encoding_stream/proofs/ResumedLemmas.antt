-- What may be kept of a text.
use Rattle.std.proofs.Common.{◌≡◌, ℕ, zero, suc, Bool, ◌*◌, ◌/◌, ◌<◌, ◌≤◌, true, false, not, List, [], ◌∷◌, length, map, take, All, Option, None, Some, IfSome, IsSome, refl, sym, ap, ◌∙◌, subst, arith}
use Rattle.std.proofs.lemmas.List.{length-drop, length-map, length-take}
use Rattle.std.proofs.lemmas.List.Elements.{All-map, All-nil}
use Rattle.std.proofs.lemmas.List.FromFn.{length-enumerate_from}
use Rattle.std.proofs.lemmas.List.Sums.{count_by-le-length, length-filter}
use Rattle.std.specs.List.{enumerate_from}
use Rattle.data_encoding.specs.declared.error.DecodeError.{DecodeError}
use Rattle.data_encoding.specs.Base.{Base, IsWidth, group_symbols, is_ignored, meaning}
use Rattle.data_encoding.specs.Grammar.{Positioned, kept, positioned}
use Rattle.data_encoding.specs.declared.decode.TheConstants.{DECODE_LIMIT}
use Rattle.data_encoding.specs.Fault.{first_fault}
use Rattle.data_encoding.specs.Fields.{IsSpecified}
use Rattle.data_encoding.specs.Pieces.{unfinished, whole_groups, EndsNowhere, HasRead, JoinsUnpadded}
use Rattle.encoding_stream.specs.declared.buffer_decoder.Kept.{Kept}
use Rattle.encoding_stream.specs.BufferDecoder.{at_positions, paired, Keeps, NoneIgnored}
use Rattle.encoding_stream.specs.Resume.{is_of_group, Ascend, HasPossibleFault, MayBeKept}
use Rattle.encoding_stream.proofs.KindLemmas.{group-kind}
use Rattle.encoding_stream.proofs.OrderLemmas.{first-inside, unfinished-ascends}
use Rattle.encoding_stream.proofs.ReadByteLemmas.{positions-bytes, unfinished-kept}
use Rattle.encoding_stream.proofs.SizeLemmas.{symbols-few, symbols-some}

paired-length : (ps bs : List ℕ) → length ps ≡ length bs → length (paired ps bs) ≡ length ps
paired-length [] bs same = refl
paired-length (p ∷ ps) [] same = absurd (omega (arith, same))
paired-length (p ∷ ps) (b ∷ bs) same =
    ap (λ n. suc n) (paired-length ps bs (omega (arith, same)))

kept-few : (base : Base) (text : List ℕ) → length (kept base text) ≤ length text
kept-few base text =
    let passes = λ (k : Positioned). not (is_ignored (meaning base k.byte)) in
    let mapped : length (positioned text) ≡ length (enumerate_from 0 text) =
    length-map (enumerate_from 0 text) _ in
    omega (
      arith,
      length-filter passes (positioned text),
      count_by-le-length passes (positioned text),
      mapped,
      length-enumerate_from 0 text,
    )

-- what is unfinished is less than a group, and no longer than the text
unfinished-few : (base : Base) → IsWidth base.width → (text : List ℕ)
    → (length (unfinished base text) < group_symbols base.width)
    × (length (unfinished base text) ≤ length text)
unfinished-few base width text =
    let size = group_symbols base.width in
    let count : ℕ = length (kept base text) in
    let some : 0 < size = symbols-some base.width width in
    let left = length-drop (count / size * size) (kept base text) in (
      omega (arith, left, some),
      omega (arith, left, kept-few base text),
    )

-- This many bytes are held only if the text has them, and they are less than a group.
pub held-few : (base : Base) → IsWidth base.width → (text : List ℕ) (len count : ℕ)
    (fault : Option DecodeError) (positions bytes : List ℕ) (ended : Bool)
    → length positions ≡ 8 → length bytes ≡ 8
    → HasRead base text len fault (at_positions count positions bytes) ended
    → (IsSome fault → count ≡ 0) → (count < group_symbols base.width) × (count ≤ len)
held-few base width text len count None positions bytes ended h k reads clear =
    let few = unfinished-few base width text in
    let same : length (take count positions) ≡ length (take count bytes) =
    length-take count positions ∙ omega (arith, h, k, length-take count bytes) in
    let size : length (at_positions count positions bytes) ≡ length (take count positions) =
    paired-length (take count positions) (take count bytes) same in
    let held = ap (λ ks. length ks) (reads.holds refl) in
    let most = symbols-few base.width width in
    let fits = length-take count positions in (
      omega (arith, few.0, size, held, most, fits, h),
      omega (arith, few.0, few.1, size, held, most, fits, h, reads.counted),
    )
held-few base width text len count (Some error) positions bytes ended h k reads clear =
    let none : count ≡ 0 = clear refl in
    (omega (arith, none, symbols-some base.width width), omega (arith, none))

positions-positions : (n : ℕ) (ps bs : List ℕ) → n ≤ length ps → n ≤ length bs
    → map (λ k. k.position) (at_positions n ps bs) ≡ take n ps
positions-positions zero ps bs h k = refl
positions-positions (suc n) [] bs h k = absurd (omega (arith, h))
positions-positions (suc n) (p ∷ ps) [] h k = absurd (omega (arith, k))
positions-positions (suc n) (p ∷ ps) (b ∷ bs) h k =
    ap (λ xs. p ∷ xs) (positions-positions n ps bs (omega (arith, h)) (omega (arith, k)))

not-true : (b : Bool) → (b ≡ true → ⊥) → b ≡ false
not-true true h = absurd (h refl)
not-true false h = refl

-- This is kept of a text by a decoder of an encoding to which the laws apply.
record WasKept (base : Base) (text : List ℕ) (kept : Kept) : Type 0 where
  pub specified : IsSpecified base
  pub width : IsWidth base.width
  pub joins : JoinsUnpadded
  pub nowhere : EndsNowhere
  pub keeps : Keeps base kept text
  pub clear : IsSome kept.fault → kept.count ≡ 0
  pub positions : kept.count ≤ length kept.positions
  pub bytes : kept.count ≤ length kept.bytes

none-held : {base : Base} {text : List ℕ} {kept : Kept} {error : DecodeError}
    → WasKept base text kept → kept.fault ≡ Some error → kept.count ≡ 0
none-held was some = was.clear (subst IsSome (sym some) refl)

-- What is kept of a text passes the tests of what a caller passes back.
module _ {base : Base} {text : List ℕ} {kept : Kept} (was : WasKept base text kept) where
  in-order : (fault : Option DecodeError) → kept.fault ≡ fault
      → Ascend 0 kept.len (take kept.count kept.positions)
  in-order None none =
      subst (λ n. Ascend 0 n (take kept.count kept.positions)) (sym was.keeps.counted)
      (subst (Ascend 0 (length text))
      (ap (λ ks. map (λ (q : Positioned). q.position) ks) (sym (was.keeps.holds none))
      ∙ positions-positions kept.count kept.positions kept.bytes was.positions was.bytes)
      (unfinished-ascends base text))
  in-order (Some error) some =
      subst (λ n. Ascend 0 kept.len (take n kept.positions)) (sym (none-held was some)) tt

  none-ignored : (fault : Option DecodeError) → kept.fault ≡ fault
      → All (λ byte. is_ignored (meaning base byte) ≡ false) (take kept.count kept.bytes)
  none-ignored None none =
      let P : ℕ → Type 0 = λ byte. is_ignored (meaning base byte) ≡ false in
      subst (All P)
      (positions-bytes kept.count kept.positions kept.bytes was.positions was.bytes)
      (All-map P (λ (q : Positioned). q.byte) (at_positions kept.count kept.positions kept.bytes)
      (subst (NoneIgnored base) (sym (was.keeps.holds none)) (unfinished-kept base text)))
  none-ignored (Some error) some =
      subst (λ n. All (λ byte. is_ignored (meaning base byte) ≡ false) (take n kept.bytes))
      (sym (none-held was some)) (All-nil _)

  fault-possible : HasPossibleFault base kept
  fault-possible = record {
    clear = was.clear;
    inside =
        subst (λ f. IfSome f (λ error. error.position < kept.len)) (sym was.keeps.first)
        (subst
        (λ n. IfSome (first_fault base (whole_groups base text)) (λ error. error.position < n))
        (sym was.keeps.counted) (first-inside base was.width text));
    kind =
        subst (λ f. IfSome f (λ error. is_of_group base error.kind ≡ true)) (sym was.keeps.first)
        (group-kind base was.specified was.joins was.width text);
    ends = λ none final.
        not-true base.concatenates
        (λ both. cc (
          was.keeps.ends none,
          was.nowhere base both (whole_groups base text),
          final,
        ));
  }

pub may-be-kept : (base : Base) → IsSpecified base → IsWidth base.width → JoinsUnpadded
    → EndsNowhere → (text : List ℕ)
    (kept : Kept) → length kept.positions ≡ 8 → length kept.bytes ≡ 8 → Keeps base kept text
    → length text ≤ DECODE_LIMIT → (IsSome kept.fault → kept.count ≡ 0) → MayBeKept base kept
may-be-kept base is width joins nowhere text kept h k reads limit clear =
    let few =
    held-few base width text kept.len kept.count kept.fault kept.positions kept.bytes kept.ended
    h k reads clear in
    let most = symbols-few base.width width in
    let there : kept.count ≤ length kept.positions = omega (arith, few.0, most, h) in
    let here : kept.count ≤ length kept.bytes = omega (arith, few.0, most, k) in
    let was : WasKept base text kept = record {
      specified = is;
      width = width;
      joins = joins;
      nowhere = nowhere;
      keeps = reads;
      clear = clear;
      positions = there;
      bytes = here;
    } in
    record {
      limit = omega (arith, reads.counted, limit);
      short = few.0;
      in_order = in-order was kept.fault refl;
      none_ignored = none-ignored was kept.fault refl;
      fault = fault-possible was;
    }
