use Rattle.std.proofs.Common.{refl, ap}
use Rattle.data_encoding_meaning.specs.text.Text.{text_of}
use Rattle.data_encoding.proofs.encoding.EncodingRef.encode_display.Goals as goal

pub returns-clause-text : goal.returns-clause-text
returns-clause-text c = ap (λ base. text_of base c.args.input.now) c.lend.ensures

pub returns-clause-data : goal.returns-clause-data
returns-clause-data c = refl
