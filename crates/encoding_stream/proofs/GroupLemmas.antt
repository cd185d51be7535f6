-- A group that is judged as a text of its own.
use Rattle.std.proofs.Common.{◌≡◌, ℕ, ◌*◌, ◌/◌, ◌<◌, ◌≤◌, Bool, true, false, cond, List, length, map, take, Option, None, Some, Ok, Err, slice_index, refl, sym, ap, ◌∙◌, subst, arith}
use Rattle.data_encoding.specs.declared.error.DecodeError.{DecodeError}
use Rattle.data_encoding.specs.declared.error.DecodeKind.TheVariants.{Padding}
use Rattle.data_encoding.specs.declared.error.DecodePartial.{DecodePartial}
use Rattle.data_encoding.specs.Base.{Base, IsWidth, group_bytes, group_symbols, is_padded}
use Rattle.data_encoding.specs.Fault.{bytes_of_group, fault_after, fault_of, first_fault, or_else, sound_bytes}
use Rattle.data_encoding.specs.Fields.{IsSpecified}
use Rattle.data_encoding.specs.Grammar.{Positioned, groups}
use Rattle.data_encoding.specs.Lengths.{decoded_len, length_fault, most_bytes, unless_fault}
use Rattle.data_encoding.specs.Partial.{partial_by, partial_of}
use Rattle.data_encoding.specs.Pieces.{fault_in, JudgesGroup}
use Rattle.encoding_stream.specs.BufferDecoder.{at_positions, NoneIgnored}
use Rattle.encoding_stream.proofs.SizeLemmas.{by_width, due-most}
use Rattle.encoding_stream.proofs.ReadByteLemmas.{positions-at, positions-bytes, positions-length}

-- The bytes that fewer symbols than a group may mean are no more than those of a group.

most-parts : (width : ℕ) → IsWidth width → (n : ℕ) → n ≤ group_symbols width
    → (n / group_symbols width * group_bytes width ≤ group_bytes width)
    × (width * n / 8 ≤ group_bytes width)
most-parts =
    by_width
    (λ w. (n : ℕ) → n ≤ group_symbols w
    → (n / group_symbols w * group_bytes w ≤ group_bytes w) × (w * n / 8 ≤ group_bytes w))
    (λ n h. (omega arith, omega arith)) (λ n h. (omega arith, omega arith))
    (λ n h. (omega arith, omega arith)) (λ n h. (omega arith, omega arith))
    (λ n h. (omega arith, omega arith)) (λ n h. (omega arith, omega arith))

either-few : (b : Bool) (x y z : ℕ) → x ≤ z → y ≤ z → cond b x y ≤ z
either-few true x y z h k = h
either-few false x y z h k = k

pub due-few : (base : Base) → IsWidth base.width → (n due : ℕ) → n ≤ group_symbols base.width
    → decoded_len base n ≡ Ok due → due ≤ group_bytes base.width
due-few base width n due few is =
    let parts = most-parts base.width width n few in
    subst (λ k. k ≤ group_bytes base.width)
    (sym (due-most base n due is))
    (either-few (is_padded base) _ _ _ parts.0 parts.1)

-- What follows about the fault of a text from a length, and from a decoding that stopped.

refused-fault : (o : Option DecodeError) (m : ℕ) (error : DecodeError)
    → unless_fault o m ≡ Err error → o ≡ Some error
refused-fault None m error h = absurd (cc h)
refused-fault (Some e) m error h = cc

pub fault-refused : (base : Base) (text : List ℕ) (n : ℕ) (error : DecodeError)
    → length text ≡ n → decoded_len base n ≡ Err error → fault_of base text ≡ Some error
fault-refused base text n error size is =
    ap (λ o. or_else o (first_fault base (groups base text)))
    (ap (length_fault base) size ∙ refused-fault (length_fault base n) (most_bytes base n) error is)

error_in : Option DecodePartial → Option DecodeError
error_in None = None
error_in (Some partial) = Some partial.error

stopped-fault : (base : Base) (text : List ℕ) (o : Option DecodeError)
    → o ≡ error_in (partial_by base text o)
unfolding error_in
stopped-fault base text None = refl
stopped-fault base text (Some e) = refl

pub fault-stopped : (base : Base) (text : List ℕ) (partial : DecodePartial)
    → partial_of base text ≡ Some partial → fault_of base text ≡ Some partial.error
unfolding error_in
fault-stopped base text partial is =
    stopped-fault base text (fault_of base text) ∙ ap error_in is

-- The first bytes of an unfinished group, at their positions.
module _ (base : Base) (n : ℕ) (ps bs : List ℕ) (some : 0 < n) (h : n ≤ length ps)
    (k : n ≤ length bs) where
  abbrev group : List Positioned
  group = at_positions n ps bs

  pub group-after_end : (error : DecodeError) → error.position ≡ slice_index ps 0
      → error.kind ≡ Padding → fault_after true base (at_positions n ps bs) ≡ Some error
  group-after_end error position kind = λ i.
      Some (record {
        position = (positions-at n ps bs 0 some h k ∙ sym position) i;
        kind = sym kind i;
      })

  module _ (is : IsSpecified base) (alone : JudgesGroup)
      (few : n ≤ group_symbols base.width) (none : NoneIgnored base (at_positions n ps bs)) where
    size : length group ≡ n
    size = positions-length n ps bs h k

    same : fault_of base (map (λ (p : Positioned). p.byte) group) ≡ fault_of base (take n bs)
    same = ap (fault_of base) (positions-bytes n ps bs h k)

    law : (fault_after false base group
        ≡ fault_in group (fault_of base (map (λ (p : Positioned). p.byte) group)))
        × (fault_of base (map (λ (p : Positioned). p.byte) group) ≡ None
        → bytes_of_group base group
        ≡ sound_bytes base (map (λ (p : Positioned). p.byte) group))
    law =
        alone base is group none (subst (λ m. 0 < m) (sym size) some)
        (subst (λ m. m ≤ group_symbols base.width) (sym size) few)

    pub group-fault : (fault error : DecodeError) → fault_of base (take n bs) ≡ Some fault
        → fault.position < n → error.position ≡ slice_index ps fault.position
        → error.kind ≡ fault.kind
        → fault_after false base (at_positions n ps bs) ≡ Some error
    group-fault fault error is_fault inside position kind =
        law.0 ∙ ap (fault_in group) (same ∙ is_fault) ∙ (λ i. Some (record {
          position = (positions-at n ps bs fault.position inside h k ∙ sym position) i;
          kind = sym kind i;
        }))

    pub group-sound : (bytes : List ℕ) → fault_of base (take n bs) ≡ None
        → sound_bytes base (take n bs) ≡ bytes
        → (fault_after false base (at_positions n ps bs) ≡ None)
        × (bytes_of_group base (at_positions n ps bs) ≡ bytes)
    group-sound bytes no_fault sound = (
      law.0 ∙ ap (fault_in group) (same ∙ no_fault),
      law.1 (same ∙ no_fault) ∙ ap (sound_bytes base) (positions-bytes n ps bs h k) ∙ sound,
    )
