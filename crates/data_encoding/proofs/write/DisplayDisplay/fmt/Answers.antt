use Rattle.std.proofs.Common.{subst}
use Rattle.std.specs.Fmt.{HasWritten}
use Rattle.data_encoding_meaning.specs.text.Text.{text_of}
use Rattle.data_encoding_meaning.proofs.text.WrittenLemmas.{formatted-all, of_ok}
use Rattle.data_encoding.proofs.write.DisplayDisplay.fmt.Goals as goal

pub returns-clause-writes : goal.returns-clause-writes
returns-clause-writes g c plain ok =
    subst (λ base. HasWritten g.W.Write.write_str_gives c.args.f.now
    (text_of base c.args.self.now.input.now) c.encode_write.new.output) c.by_ref.ensures
    (formatted-all _ _ _ _ plain (of_ok c.encode_write.result ok c.encode_write.ensures.written))
