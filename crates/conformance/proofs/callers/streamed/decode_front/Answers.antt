use Rattle.std.proofs.Common.{◌≡◌, length, take, subst, sym, ◌∙◌, rules}
use Rattle.data_encoding.specs.Grammar.{Means}
use Rattle.data_encoding.specs.Laws.{Resumes}
use Rattle.conformance.proofs.ResumedLemmas.{front-kept, joined-resumes, lines-follow, lines-length}
use Rattle.conformance.proofs.callers.streamed.decode_front.Goals as goal

pub returns-in-Ok-decode_mut-clause-resumes : goal.returns-in-Ok-decode_mut-clause-resumes
returns-in-Ok-decode_mut-clause-resumes c = λ next.
    let base = c.args.encoding.now in
    let is = c.bit_width.ensures.base in
    let piece = c.args.piece.now in
    let bytes = c.truncate.new.self.items in
    let full : length c.decode_mut.new.output ≡ c.resize.new.self.len = search rules in
    let same : take c.in-Ok-decode_mut.written c.decode_mut.new.output ≡ bytes =
    sym (c.truncate.ensures.items ∙ front-kept _ _ _ _ full) in
    joined-resumes base is c.join_decode.ensures c.join_fault.ensures piece next bytes
    (lines-follow base c.requires.lines piece)
    (subst (Means base piece) same c.in-Ok-decode_mut.ensures.decoded.1)

pub returns-in-Err-clause-resumes : goal.returns-in-Err-clause-resumes
returns-in-Err-clause-resumes c = λ next.
    let base = c.args.encoding.now in
    let is = c.bit_width.ensures.base in
    let piece = c.args.piece.now in
    let partial = c.in-Err.partial in
    let front = take partial.read piece in
    let bytes = c.truncate-in-Err.new.self.items in
    let full : length c.decode_mut.new.output ≡ c.resize.new.self.len = search rules in
    let same : take partial.written c.decode_mut.new.output ≡ bytes =
    sym (c.truncate-in-Err.ensures.items ∙ front-kept _ _ _ _ full) in
    let means : Means base front bytes = subst (Means base front) same c.in-Err.ensures.partial in
    subst (Resumes base piece next partial.read)
    ((c.sound_text.ensures.meant base is front bytes).0 means).1
    (c.resume.ensures base is piece next partial
    (lines-length base c.requires.lines (length piece)) c.in-Err.ensures.fault
    (lines-follow base c.requires.lines front))
