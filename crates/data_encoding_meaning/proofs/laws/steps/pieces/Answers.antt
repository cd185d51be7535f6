use Rattle.std.proofs.Common.{◌≡◌, false, ◌+◌, ◌<◌, ◌++◌, length, None, sym, ap, ◌∙◌, subst}
use Rattle.std.proofs.lemmas.List.Elements.{recursion_from_All}
use Rattle.data_encoding_meaning.specs.text.Base.{group_symbols, is_ignored, meaning}
use Rattle.data_encoding_meaning.specs.text.Grammar.{Positioned}
use Rattle.data_encoding_meaning.specs.decoding.Pieces.{HasRead, held_with, whole_bytes}
use Rattle.data_encoding_meaning.proofs.decoding.LoneGroupLemmas.{bytes-alone, fault-alone}
use Rattle.data_encoding_meaning.proofs.decoding.PieceLemmas.{HasRead-faulty, HasRead-group, HasRead-held, HasRead-nothing, fault_of-read, sound_bytes-read, whole_bytes-group, whole_bytes-grows, whole_bytes-nothing}
use Rattle.data_encoding_meaning.proofs.decoding.WholePieceLemmas.{ReadsFaulty-whole, ReadsSound-whole, kept-whole}
use Rattle.data_encoding_meaning.proofs.judgement.RuleLemmas.{IsRuled-built}
use Rattle.data_encoding_meaning.proofs.laws.steps.pieces.Goals as goal

pub returns-clause-nothing : goal.returns-clause-nothing
returns-clause-nothing c base is =
    let width = (IsRuled-built is.fields base is.is_built).is_width in
    (HasRead-nothing base width, whole_bytes-nothing base width)

pub returns-clause-held : goal.returns-clause-held
returns-clause-held c base is text piece len held ended read few =
    let width = (IsRuled-built is.fields base is.is_built).is_width in
    let at = ap (λ n. held_with base n held piece) read.counted in
    subst
    (λ l. HasRead base (text ++ piece) (len + length piece) None l ended
    × (whole_bytes base (text ++ piece) ≡ whole_bytes base text))
    (sym at)
    (HasRead-held base width text piece len held ended read
    (subst (λ l. length l < group_symbols base.width) at few))

pub returns-clause-group : goal.returns-clause-group
returns-clause-group c base is text piece len held group ended read completes whole =
    let width = (IsRuled-built is.fields base is.is_built).is_width in
    let at = sym (ap (λ n. held_with base n held piece) read.counted) ∙ completes in (
      HasRead-group base width text piece len held ended read group at whole,
      whole_bytes-group base width text piece len held ended read group at whole,
    )

pub returns-clause-faulty : goal.returns-clause-faulty
returns-clause-faulty c base is text piece len error held other ended end read =
    let width = (IsRuled-built is.fields base is.is_built).is_width in
    HasRead-faulty base width text piece len held ended error other end read

pub returns-clause-grows : goal.returns-clause-grows
returns-clause-grows c base is text piece =
    whole_bytes-grows base (IsRuled-built is.fields base is.is_built).is_width text piece

pub returns-clause-verdict : goal.returns-clause-verdict
returns-clause-verdict c base is text len fault held ended read =
    fault_of-read base (IsRuled-built is.fields base is.is_built).is_width text len held ended fault
    read

pub returns-clause-bytes : goal.returns-clause-bytes
returns-clause-bytes c base is text len fault held ended read =
    sound_bytes-read base (IsRuled-built is.fields base is.is_built).is_width text len held ended
    fault read

pub returns-clause-alone : goal.returns-clause-alone
returns-clause-alone c base is group plain some few =
    let width = (IsRuled-built is.fields base is.is_built).is_width in
    let each = recursion_from_All (λ (k : Positioned). is_ignored (meaning base k.byte) ≡ false)
    group plain in (
      fault-alone base width group each some few,
      bytes-alone base width group each some few,
    )

pub returns-clause-sound : goal.returns-clause-sound
returns-clause-sound c base is text piece bytes len read means whole =
    ReadsSound-whole base (IsRuled-built is.fields base is.is_built).is_width text piece len read
    bytes means whole

pub returns-clause-stops : goal.returns-clause-stops
returns-clause-stops c base is text piece bytes len partial read stops of_whole means =
    ReadsFaulty-whole base (IsRuled-built is.fields base is.is_built).is_width text piece len read
    bytes partial stops of_whole means

pub returns-clause-whole : goal.returns-clause-whole
returns-clause-whole c base is piece bytes means by =
    kept-whole base (IsRuled-built is.fields base is.is_built) piece bytes means by
