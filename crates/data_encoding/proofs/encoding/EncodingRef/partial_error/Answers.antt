use Rattle.std.proofs.Common.{◌≡◌, ◌-◌, true, length, drop, refl, ◌∙◌, arith, inl, inr}
use Rattle.std.proofs.lemmas.List.{length-drop, take_rest}
use Rattle.std.proofs.lemmas.Slice.{take-put_mid_below}
use Rattle.data_encoding_meaning.specs.declared.error.DecodeKind.{DecodeKind}
use Rattle.data_encoding_meaning.specs.declared.error.DecodeKind.TheVariants.{Length}
use Rattle.data_encoding_meaning.specs.decoding.Fault.{position_of}
use Rattle.data_encoding_meaning.specs.text.Grammar.{kept}
use Rattle.data_encoding_meaning.specs.decoding.Partial.{is_length_fault}
use Rattle.data_encoding_meaning.proofs.lists.PartLemmas.{length-rest}
use Rattle.data_encoding_meaning.proofs.lists.WriteLemmas.{drop-put_mid_at, length-put_mid}
use Rattle.data_encoding.proofs.encoding.EncodingRef.partial_error.Goals as goal
use Rattle.data_encoding.proofs.encoding.EncodingRef.partial_error.Goals.{After-kept_position, Then-matches, in-Length, in_default}

is_length : (kind : DecodeKind) → is_length_fault kind ≡ true → kind ≡ Length
is_length kind h = grind arith

pub overflow_add-position : goal.overflow_add-position
overflow_add-position c =
    let left = length-rest c.args.stop.read c.args.input.now in
    record { fits = omega arith }

-- the position that is reported
found : (c : After-kept_position)
    → c.kept_position.result
    ≡ position_of (kept c.args.self.now (drop c.args.stop.read c.args.input.now)) c.args.stop.index
found c =
    rw (take_rest c.args.input.now c.args.stop.read) at c.kept_position.ensures.found
    c.requires.inside

length_is : (c : Then-matches) → is_length_fault c.args.stop.kind ≡ true
length_is c =
    elim c.match-matches.branch [
      | in-Length w ↦ cc w.in-Length.is
      | in_default w ↦ cc
    ]

pub returns-else-matches-clause-stop : goal.returns-else-matches-clause-stop
returns-else-matches-clause-stop c = record {
  error_is = rw (found (goal.at.returns-else-matches-clause-stop c).After-kept_position);
  how = inl (
    refl,
    refl,
    λ length_is. elim c.match-matches.branch [
      | in-Length w ↦ absurd cc
      | in_default w ↦ absurd (w.in_default.not-Length (is_length c.args.stop.kind length_is))
    ],
  );
}

pub returns-in-Some-clause-stop : goal.returns-in-Some-clause-stop
returns-in-Some-clause-stop c =
    let seen = c.args.self.now in
    let rest = drop c.args.stop.read c.args.input.now in
    let output = c.args.output.now in
    let written = c.args.stop.written in
    let count = c.in-Some.count in
    let last = c.decode_prefix.new.output in
    let run = c.in-Some.ensures in
    let left = c.decode_prefix.auto.output ∙ length-rest written output in
    let new_len = length-put_mid written (length output - written) output last (omega arith) left
    in
    record {
      error_is = rw (found (goal.at.returns-in-Some-clause-stop c).After-kept_position);
      how = inr (
        length_is (goal.at.returns-in-Some-clause-stop c).Then-matches,
        refl,
        count,
        refl,
        omega arith,
        rw (drop-put_mid_at written output last c.requires.fits) (rw take_rest at run.1),
      );
    }

pub returns-in_default-decode_prefix-clause-stop : goal.returns-in_default-decode_prefix-clause-stop
returns-in_default-decode_prefix-clause-stop c = record {
  error_is =
      rw (found (goal.at.returns-in_default-decode_prefix-clause-stop c).After-kept_position);
  how = inl (refl, refl, λ _. rw take_rest at c.in_default-decode_prefix.ensures);
}

pub decode_prefix-requires-clause-room : goal.decode_prefix-requires-clause-room
decode_prefix-requires-clause-room c =
    simp (take_rest, length-drop c.args.stop.written c.args.output.now)
    (c.requires.room (length_is (goal.at.decode_prefix-requires-clause-room c).Then-matches))

pub slice_bounds-rest-count : goal.slice_bounds-rest-count
slice_bounds-rest-count c = c.requires.within

pub slice_bounds-decode_prefix-count : goal.slice_bounds-decode_prefix-count
slice_bounds-decode_prefix-count c = c.requires.fits

pub decode_prefix-requires-clause-limit : goal.decode_prefix-requires-clause-limit
decode_prefix-requires-clause-limit c =
    omega (arith, length-rest c.args.stop.read c.args.input.now)

pub overflow_add-written : goal.overflow_add-written
overflow_add-written c =
    let left = length-rest c.args.stop.written c.args.output.now in
    record { fits = omega (arith, c.in-Some.ensures.0, left) }

pub returns-in-Some-clause-kept : goal.returns-in-Some-clause-kept
returns-in-Some-clause-kept c =
    let written = c.args.stop.written in
    take-put_mid_below written (length c.args.output.now - written) c.args.output.now
    c.decode_prefix.new.output written (omega arith) c.requires.fits

pub returns-in_default-decode_prefix-clause-kept : goal.returns-in_default-decode_prefix-clause-kept
returns-in_default-decode_prefix-clause-kept c =
    let written = c.args.stop.written in
    take-put_mid_below written (length c.args.output.now - written) c.args.output.now
    c.decode_prefix.new.output written (omega arith) c.requires.fits

pub returns-else-matches-clause-kept : goal.returns-else-matches-clause-kept
returns-else-matches-clause-kept c = refl
