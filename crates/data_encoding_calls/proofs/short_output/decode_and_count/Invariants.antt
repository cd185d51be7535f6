use Rattle.std.proofs.Common.{◌≡◌, ◌-◌, ◌*◌, ◌≤◌, length, take}
use Rattle.data_encoding.specs.Pieces.{whole_bytes}
use Rattle.encoding_stream.specs.BufferDecoder.{base_of_pieces, kept_by, Keeps}
use Rattle.data_encoding_calls.proofs.FitLemmas.{Copied}
use Rattle.data_encoding_calls.proofs.short_output.decode_and_count.Given as goal

abbrev pub invariant-loop-read : goal.invariant-loop-read
invariant-loop-read l = record {
  base : base_of_pieces l.decoder ≡ l.encoding;
  keeps : Keeps l.encoding (kept_by l.decoder) (take l.read l.input);
  copied : Copied (whole_bytes l.encoding (take l.read l.input)) l.needed l.output;
  few : l.needed ≤ 8 * l.read;
  within : l.read ≤ length l.input;
}

-- each turn reads at least a byte
abbrev pub decreases-loop-read : goal.decreases-loop-read
decreases-loop-read l = length l.input - l.read
