-- A decoding that stops at a fault: its status, and the bytes that are due for what was read.
use Rattle.std.proofs.Common.{◌≡◌, ℕ, zero, suc, ◌*◌, ◌/◌, ◌<◌, ◌≤◌, Bool, true, false, if◌then◌else◌, List, ◌++◌, length, take, drop, Option, None, Some, Result, Ok, Err, refl, sym, ap, ◌∙◌, length-take-le, arith}
use Rattle.std.proofs.Math.Nat.{div-mul-le_self, div-zero, le-div_iff_mul-le, mul-le-mul_left, mul-le-mul_right}
use Rattle.std.proofs.lemmas.Bool.{le-ltb, lt-ltb}
use Rattle.std.proofs.lemmas.Slice.{drop-append-drop}
use Rattle.std.specs.Result.{IsOkAnd}
use Rattle.data_encoding.specs.declared.error.DecodeError.{DecodeError}
use Rattle.data_encoding.specs.declared.error.DecodePartial.{DecodePartial}
use Rattle.data_encoding.specs.Base.{Base, group_bytes, group_symbols, is_padded}
use Rattle.data_encoding.specs.Fault.{fault_of, first_fault, or_else, sound_bytes}
use Rattle.data_encoding.specs.Grammar.{groups}
use Rattle.data_encoding.specs.Lengths.{decoded_len, length_fault, most_bytes, unless_fault}
use Rattle.data_encoding.specs.Partial.{partial_by, partial_of}
use Rattle.data_encoding_calls.specs.Calls.{decode_status, status_by_room}
use Rattle.data_encoding_calls.specs.Status.{ok, short_buffer, status_of_kind, too_long}

error_in : Option DecodePartial → Option DecodeError
error_in None = None
error_in (Some partial) = Some partial.error

pub some-one : {one other : DecodePartial} → Some one ≡ Some other → one ≡ other
some-one is = cc

stopped-fault : (base : Base) (text : List ℕ) (o : Option DecodeError)
    → o ≡ error_in (partial_by base text o)
unfolding error_in
stopped-fault base text None = refl
stopped-fault base text (Some error) = refl

pub fault-stopped : (base : Base) (text : List ℕ) (partial : DecodePartial)
    → partial_of base text ≡ Some partial → fault_of base text ≡ Some partial.error
unfolding error_in
fault-stopped base text partial is =
    stopped-fault base text (fault_of base text) ∙ ap error_in is

-- a fault of the length is the fault of the text
err-unless : (fault other : Option DecodeError) (most : ℕ) (error : DecodeError)
    → unless_fault fault most ≡ Err error → or_else fault other ≡ Some error
err-unless None other most error is = absurd (cc is)
err-unless (Some fault) other most error is = cc is

pub length-faulty : (base : Base) (text : List ℕ) (error : DecodeError)
    → decoded_len base (length text) ≡ Err error → fault_of base text ≡ Some error
length-faulty base text error is =
    err-unless (length_fault base (length text)) (first_fault base (groups base text))
    (most_bytes base (length text)) error is

-- the status of a text within the limit
pub status-known : (base : Base) (text : List ℕ) (room : ℕ)
    → length text ≤ 2305843009213693951
    → status_by_room (fault_of base text) (length (sound_bytes base text)) room
    ≡ decode_status base text room
status-known base text room few =
    sym (ap (λ (long : Bool). if long then too_long
    else status_by_room (fault_of base text) (length (sound_bytes base text)) room)
    (le-ltb 2305843009213693951 (length text) few))

-- the statuses of a fault, and of data that does not fit
pub status-faulty : (fault : Option DecodeError) (len room : ℕ) (error : DecodeError)
    → fault ≡ Some error → status_of_kind error.kind ≡ status_by_room fault len room
status-faulty fault len room error is =
    sym (ap (λ (found : Option DecodeError). status_by_room found len room) is)

pub status-short : (fault : Option DecodeError) (len room : ℕ) → fault ≡ None → room < len
    → short_buffer ≡ status_by_room fault len room
status-short fault len room is misses =
    sym (ap (λ (found : Option DecodeError). status_by_room found len room) is
    ∙ ap (λ (short : Bool). if short then short_buffer else ok) (lt-ltb room len misses))

pub status-fits : (fault : Option DecodeError) (len room : ℕ) → fault ≡ None → len ≤ room
    → ok ≡ status_by_room fault len room
status-fits fault len room is fits =
    sym (ap (λ (found : Option DecodeError). status_by_room found len room) is
    ∙ ap (λ (short : Bool). if short then short_buffer else ok) (le-ltb room len fits))

div-grows : (k m n : ℕ) → m ≤ n → m / k ≤ n / k
div-grows zero m n few = omega (arith, div-zero m, div-zero n)
div-grows (suc k) m n few =
    let less = div-mul-le_self m (suc k) in
    (le-div_iff_mul-le (omega arith)).1 (omega (arith, less, few))

grows-by : (padded : Bool) (width symbols bytes read len : ℕ) → read ≤ len
    → (if padded then read / symbols * bytes else width * read / 8)
    ≤ (if padded then len / symbols * bytes else width * len / 8)
grows-by true width symbols bytes read len few =
    mul-le-mul_right bytes (div-grows symbols read len few)
grows-by false width symbols bytes read len few =
    div-grows 8 (width * read) (width * len) (mul-le-mul_left width few)

due-unless : (fault : Option DecodeError) (most bytes : ℕ) → unless_fault fault most ≡ Ok bytes
    → bytes ≡ most
due-unless None most bytes is = cc
due-unless (Some error) most bytes is = absurd (cc is)

due-within : (fault : Option DecodeError) (most written : ℕ)
    → IsOkAnd (unless_fault fault most) (λ n. written ≤ n) → written ≤ most
due-within None most written is = is
due-within (Some error) most written is = absurd is

-- a prefix of a text means no more bytes than are due for the text
pub front-fits : (base : Base) (read written len most : ℕ) → read ≤ len
    → decoded_len base len ≡ Ok most → IsOkAnd (decoded_len base read) (λ n. written ≤ n)
    → written ≤ most
front-fits base read written len most few due is =
    let here = due-within (length_fault base read) (most_bytes base read) written is in
    let grows =
    grows-by (is_padded base) base.width (group_symbols base.width) (group_bytes base.width) read
    len few in
    let all = due-unless (length_fault base len) (most_bytes base len) most due in
    omega (arith, here, grows, all)

-- what follows the bytes due, where an output has others in their place
pub after-due : {due : Result ℕ DecodeError} (most other : ℕ) (new old : List ℕ) → due ≡ Ok most
    → due ≡ Ok other → length new ≡ length (take most old) → most ≤ length old
    → drop other (new ++ drop most old) ≡ drop other old
after-due most other new old is same size fits =
    let one : most ≡ other = cc in
    drop-append-drop most old new other (omega arith) (size ∙ length-take-le most old fits)
