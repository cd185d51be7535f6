use Rattle.std.proofs.Common.{◌∙◌}
use Rattle.std.proofs.lemmas.Str.{IsUtf8-from_ascii}
use Rattle.std.proofs.lemmas.Str.Ascii.{IsAscii-from_all}
use Rattle.data_encoding.proofs.encoding.EncodingRef.encode_mut_str.Goals as goal

pub from_utf8_unchecked-requires : goal.from_utf8_unchecked-requires
from_utf8_unchecked-requires c =
    IsUtf8-from_ascii _ (IsAscii-from_all _ c.encode_mut.ensures.ascii)

pub returns : goal.returns
returns c = c.from_utf8_unchecked.ensures ∙ c.encode_mut.ensures.text
