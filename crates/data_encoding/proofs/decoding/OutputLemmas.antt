-- An output of the length that a text's gives, and how far the text is decoded.
use Rattle.std.proofs.Common.{◌≡◌, ℕ, ◌+◌, ◌-◌, ◌≤◌, false, List, length, take, drop, Ok, ap, sym, ◌∙◌, arith, length-drop}
use Rattle.std.proofs.lemmas.List.{length-take, take_rest}
use Rattle.std.proofs.lemmas.Slice.{take-put_mid_below}
use Rattle.data_encoding.specs.declared.decode.decoding_loop.Progress.{Progress}
use Rattle.data_encoding.specs.declared.decode.groups.Groups.{Groups}
use Rattle.data_encoding.specs.Groups.{HasReadGroups}
use Rattle.data_encoding_meaning.specs.decoding.Decoding.{HasDecodedTo, IsIgnoredFront}
use Rattle.data_encoding.specs.Progress.{GoesOn, HasExactOutput, HasReached}
use Rattle.data_encoding_meaning.specs.text.Base.{Base, IsWidth}
use Rattle.data_encoding_meaning.proofs.decoding.ProgressLemmas.{same-output}
use Rattle.data_encoding_meaning.proofs.lists.WriteLemmas.{length-rewritten_same, rewritten}

-- the output has that length whatever its bytes are
pub exact-same : {base : Base} {text output new : List ℕ} → HasExactOutput base text output
    → length new ≡ length output → HasExactOutput base text new
exact-same exact len = record { limit = exact.limit; len = exact.len ∙ ap Ok (sym len) }

-- what follows the ignored bytes begins within the text
pub begins-within : {base : Base} {text output : List ℕ} {at : Progress}
    → HasReached base text at output → at.read + at.ignored ≤ length text
begins-within {text = text} {at = at} reached =
    omega (
      arith,
      reached.front.within,
      reached.so_far.within,
      length-drop at.read text,
    )

-- and so do the first bytes that follow them
pub ends-within : (text : List ℕ) (start n : ℕ) {count : ℕ} → start ≤ length text
    → count ≤ length (take n (take (length text - start) (drop start text)))
    → start + count ≤ length text
ends-within text start n within few =
    let inside = rw (take_rest text start) at few in
    omega (arith, within, inside, length-take n (drop start text), length-drop start text)

-- nothing is decoded
pub goes-nowhere : {base : Base} {text output : List ℕ} {at : Progress}
    → HasReached base text at output → GoesOn base text at.read at output
goes-nowhere reached = record { reached = reached; further = omega arith }

-- what is decoded stays if the rest of the output is another
decoded-before : {base : Base} {text output : List ℕ} {read written : ℕ} (rest : List ℕ)
    → IsWidth base.width → HasDecodedTo base text read written false output
    → length rest ≡ length (take (length output - written) (drop written output))
    → HasDecodedTo base text read written false (rewritten written output rest)
decoded-before {base} {text} {output} {read} {written} rest width so_far len =
    let same = length-rewritten_same written output rest so_far.fits len in
    same-output base width text (rewritten written output rest) so_far
    (omega (arith, so_far.fits, same))
    (take-put_mid_below written (length output - written) output rest written (omega arith)
    so_far.fits)

-- so do whole groups
pub reads-no_more : {base : Base} {part output : List ℕ} {at : Groups} (rest : List ℕ)
    → IsWidth base.width → HasReadGroups base part at output
    → length rest ≡ length (take (length output - at.written) (drop at.written output))
    → HasReadGroups base part at (rewritten at.written output rest)
reads-no_more {output = output} {at = at} rest width is len =
    let same = length-rewritten_same at.written output rest is.so_far.fits len in
    record {
      so_far = decoded-before rest width is.so_far len;
      whole = is.whole;
      plain = is.plain;
      room = omega (arith, is.room, same);
    }

-- nothing is decoded, and the rest of the output is another
pub goes-nowhere_rest : {base : Base} {text output : List ℕ} {at : Progress} (rest : List ℕ)
    → IsWidth base.width → HasReached base text at output
    → length rest ≡ length (take (length output - at.written) (drop at.written output))
    → GoesOn base text at.read at (rewritten at.written output rest)
goes-nowhere_rest {output = output} {at = at} rest width reached len =
    let same = length-rewritten_same at.written output rest reached.so_far.fits len in
    goes-nowhere (record {
      exact = exact-same reached.exact same;
      so_far = decoded-before rest width reached.so_far len;
      front = reached.front;
    })

-- more is decoded
pub moves-on : {base : Base} {text output : List ℕ} {at next : Progress} (rest : List ℕ)
    → HasReached base text at output
    → length rest ≡ length (take (length output - at.written) (drop at.written output))
    → HasDecodedTo base text next.read next.written false (rewritten at.written output rest)
    → IsIgnoredFront base (drop next.read text) next.ignored → at.read ≤ next.read
    → GoesOn base text at.read next (rewritten at.written output rest)
moves-on {output = output} {at = at} rest reached len so_far front further = record {
  reached = record {
    exact = exact-same reached.exact
        (length-rewritten_same at.written output rest reached.so_far.fits len);
    so_far = so_far;
    front = front;
  };
  further = further;
}

-- what is further than a place after the start is further than the start
pub goes-further : {base : Base} {text output : List ℕ} {start next : ℕ} {at : Progress}
    → start ≤ next → GoesOn base text next at output → GoesOn base text start at output
goes-further before on = record {
  reached = on.reached;
  further = omega (arith, before, on.further);
}
