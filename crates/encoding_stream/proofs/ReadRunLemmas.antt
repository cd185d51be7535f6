-- Lemmas on whole groups that are decoded in place.
use Rattle.std.proofs.Common.{◌≡◌, ℕ, ◌+◌, ◌*◌, ◌/◌, ◌%◌, ◌<◌, ◌≤◌, Bool, true, false, if◌then◌else◌, List, [], Option, None, Some, Ok, is_some, length, refl, sym, subst, ap, arith, IsOkAnd}
use Rattle.std.proofs.Math.Nat.{div-mul-le_self, le-div_iff_mul-le, le_of_mul-le-mul_left, mul-le-mul_left, mul-le-mul_right, mul-mod_left}
use Rattle.data_encoding.specs.declared.error.DecodeError.{DecodeError}
use Rattle.data_encoding.specs.declared.error.DecodePartial.{DecodePartial}
use Rattle.data_encoding.specs.Base.{Base, IsWidth, group_bytes, group_symbols, is_padded}
use Rattle.data_encoding.specs.Fields.{IsSpecified}
use Rattle.data_encoding.specs.Grammar.{Means}
use Rattle.data_encoding.specs.Laws.{shifted}
use Rattle.data_encoding.specs.Lengths.{decoded_len, length_fault, most_bytes, unless_fault}
use Rattle.data_encoding.specs.Pieces.{CountsGroups, ReadsSound}
use Rattle.encoding_stream.specs.declared.buffer_decoder.Kept.{Kept}
use Rattle.encoding_stream.specs.declared.buffer_decoder.BufferDecoder.{BufferDecoder}
use Rattle.encoding_stream.specs.BufferDecoder.{at_positions, base_of_pieces, bytes_due, most_completed, FillsGroups, Keeps}
use Rattle.encoding_stream.specs.Reading.{has_final, HasOnlyWholeGroups, ReadsOn, ReadsRunTo}
use Rattle.encoding_stream.proofs.ReadByteLemmas.{no-fault}
use Rattle.encoding_stream.proofs.ReadPieceLemmas.{fills-few}
use Rattle.encoding_stream.proofs.SizeLemmas.{bytes-some, due-most, symbols-some}

-- Nothing is held, no group has a fault, and none is final.
pub record IsFresh (kept : Kept) : Type 0 where
  pub none : kept.count ≡ 0
  pub sound : is_some kept.fault ≡ false
  pub goes_on : kept.ended ≡ false

-- nothing is held
nothing-held : (count : ℕ) (positions bytes : List ℕ) → count ≡ 0
    → at_positions count positions bytes ≡ []
nothing-held count positions bytes none = ap (λ n. at_positions n positions bytes) none

-- where nothing is held and no group has a fault, there is room for what is due
pub due-fits : (pieces : BufferDecoder) (len : ℕ) {due room : ℕ} → pieces.kept.count ≡ 0
    → is_some pieces.kept.fault ≡ false → due ≤ bytes_due (base_of_pieces pieces) len
    → most_completed (base_of_pieces pieces) pieces.kept len ≤ room → due ≤ room
due-fits pieces len none sound is within =
    let all : pieces.kept.count + len ≡ len = omega (arith, none) in
    omega (arith, is, rw (sound, all) at within)

-- the positions and bytes that are not held may be any
pub reads-run : (base : Base) → IsWidth base.width → (old : Kept) → IsFresh old
    → (positions places : List ℕ) (piece bytes : List ℕ) (error : Option DecodeError)
    (ended : Bool)
    → ReadsRunTo base piece bytes error ended
    → FillsGroups base 0 (length piece) 0 (length bytes)
    → ReadsOn base old
    (record old {
      len = old.len + length piece;
      fault = shifted old.len error;
      positions = positions;
      bytes = places;
      ended = ended;
    })
    piece
    bytes
reads-run base width old fresh positions places piece bytes error ended run few =
    let sound = no-fault old.fault fresh.sound in
    let nothing = nothing-held old.count old.positions old.bytes fresh.none in
    let none = nothing-held old.count positions places fresh.none in
    let next = λ (text : List ℕ) (keeps : Keeps base old text).
    run text old.len (rw (sound, nothing, fresh.goes_on) at keeps) in
    record {
      keeps = λ text keeps. rw none (next text keeps).0;
      decodes = λ text keeps. (next text keeps).1;
      counted = refl;
      few =
          fills-few base width old.fault (shifted old.len error) old.count (length piece) old.count
          (length bytes) fresh.sound
          (subst (λ n. FillsGroups base n (length piece) n (length bytes)) (sym fresh.none) few);
    }

-- whole groups that mean bytes
pub run-sound : (base : Base) → IsSpecified base → ReadsSound → (piece bytes : List ℕ)
    (ended : Bool) → Means base piece bytes → HasOnlyWholeGroups base piece
    → has_final base piece ≡ ended → ReadsRunTo base piece bytes None ended
run-sound base is law piece bytes ended means whole ends text len reads =
    let next = law base is text piece bytes len reads means whole in
    (rw ends at next.0, next.1)

-- padded texts are whole groups
pub fills-by_padding : (base : Base) → is_padded base ≡ true → (read written : ℕ)
    → written ≤ most_bytes base read → FillsGroups base 0 read 0 written
fills-by_padding base padded read written most =
    let all = subst
    (λ (p : Bool). written ≤ (if p then read / group_symbols base.width * group_bytes base.width
    else base.width * read / 8)) padded most in
    record {
      groups = read / group_symbols base.width;
      symbols = omega (arith, div-mul-le_self read (group_symbols base.width));
      bytes = all;
    }

either : {A : Type 0} (padding : Option ℕ) → (is_some padding ≡ true → A)
    → (padding ≡ None → A) → A
either None padded unpadded = unpadded refl
either (Some character) padded unpadded = padded refl

-- whole groups of symbols are whole groups of bytes
pub due-whole : (base : Base) → IsSpecified base → CountsGroups → {most : ℕ} (count : ℕ)
    → decoded_len base (count * group_symbols base.width) ≡ Ok most
    → most % group_bytes base.width ≡ 0
due-whole base is law count due =
    let len = count * group_symbols base.width in
    rw (due-most base len _ due, ← due-most base len _ (law base is count))
    (mul-mod_left count (group_bytes base.width))

-- what holds with padding and without it
pub by_padding : {A : Type 0} (base : Base) → (is_padded base ≡ true → A)
    → (base.padding ≡ None → A) → A
by_padding base padded unpadded = either base.padding padded unpadded

-- groups of that many symbols within what was read, whose bytes are those written or more
fills-by : (padded : Bool) (width symbols bytes read written : ℕ) → 0 < width → 0 < bytes
    → symbols * width ≤ bytes * 8 → written % bytes ≡ 0
    → written ≤ (if padded then read / symbols * bytes else width * read / 8)
    → (count : ℕ) × (count * symbols ≤ read) × (written ≤ count * bytes)
fills-by true width symbols bytes read written some more few divides most =
    (read / symbols, div-mul-le_self read symbols, most)
fills-by false width symbols bytes read written some more few divides most =
    let count = written / bytes in
    let all : count * bytes ≡ written = omega (arith, divides, more) in
    let bits : count * (symbols * width) ≤ count * (bytes * 8) = mul-le-mul_left count few in
    let less : width * (count * symbols) ≤ width * read = omega (arith, bits, all, most) in
    (count, le_of_mul-le-mul_left less some, omega (arith, all))

-- whole groups by their bytes
pub fills-by_bytes : (base : Base) → IsWidth base.width → (read written : ℕ)
    → written % group_bytes base.width ≡ 0 → written ≤ most_bytes base read
    → FillsGroups base 0 read 0 written
fills-by_bytes base width read written divides most =
    let found =
    fills-by (is_padded base) base.width (group_symbols base.width) (group_bytes base.width) read
    written width.some (bytes-some base.width)
    (div-mul-le_self (group_bytes base.width * 8) base.width) divides most in
    record { groups = found.0; symbols = omega (arith, found.1); bytes = found.2 }

due-within : (fault : Option DecodeError) (most written : ℕ)
    → IsOkAnd (unless_fault fault most) (λ n. written ≤ n) → written ≤ most
due-within None most written is = is
due-within (Some error) most written is = absurd is

div-grows : (k m n : ℕ) → 0 < k → m ≤ n → m / k ≤ n / k
div-grows k m n some few =
    let less = div-mul-le_self m k in
    (le-div_iff_mul-le some).1 (omega (arith, less, few))

grows-by : (padded : Bool) (width symbols bytes read len : ℕ) → 0 < symbols → read ≤ len
    → (if padded then read / symbols * bytes else width * read / 8)
    ≤ (if padded then len / symbols * bytes else width * len / 8)
grows-by true width symbols bytes read len some few =
    mul-le-mul_right bytes (div-grows symbols read len some few)
grows-by false width symbols bytes read len some few =
    div-grows 8 (width * read) (width * len) (omega arith) (mul-le-mul_left width few)

pub stopped-most : (base : Base) (read written : ℕ)
    → IsOkAnd (decoded_len base read) (λ n. written ≤ n) → written ≤ most_bytes base read
stopped-most base read written is =
    due-within (length_fault base read) (most_bytes base read) written is

-- a decoding that stopped wrote no more than is due
pub stopped-within : (base : Base) → IsWidth base.width → (len most : ℕ)
    → decoded_len base len ≡ Ok most → (partial : DecodePartial)
    → (partial.read ≤ partial.error.position) × (partial.error.position < len)
    → IsOkAnd (decoded_len base partial.read) (λ n. partial.written ≤ n)
    → partial.written ≤ most
stopped-within base width len most due partial bounds is =
    let here = stopped-most base partial.read partial.written is in
    let grows =
    grows-by (is_padded base) base.width (group_symbols base.width) (group_bytes base.width)
    partial.read len (symbols-some base.width width) (omega (arith, bounds.0, bounds.1)) in
    omega (arith, here, grows, due-most base len most due)

-- a shorter text has no more bytes
pub due-grows : (base : Base) → IsWidth base.width → {read len few most : ℕ} → read ≤ len
    → decoded_len base read ≡ Ok few → decoded_len base len ≡ Ok most → few ≤ most
due-grows base width {read} {len} {few} {most} within fewer due =
    let grows =
    grows-by (is_padded base) base.width (group_symbols base.width) (group_bytes base.width)
    read len (symbols-some base.width width) within in
    omega (arith, grows, due-most base read few fewer, due-most base len most due)
