use Rattle.std.proofs.Common.{◌≡◌, ◌/◌, ap, ◌∙◌}
use Rattle.std.proofs.Math.Nat.{mul-div_cancel}
use Rattle.data_encoding_meaning.specs.text.Base.{group_symbols}
use Rattle.data_encoding_meaning.proofs.digits.WidthLemmas.{group_symbols-pos}
use Rattle.data_encoding_kernel.proofs.decoding.JoinSizeLemmas.{join-group, join-width}
use Rattle.data_encoding.proofs.decoding.ReadGroupLemmas.{reads-first}
use Rattle.data_encoding.proofs.encoding.EncodingRef.decode_line.Goals as goal

pub returns : goal.returns
returns g c =
    let by = c.requires.entries in
    let width = c.args.entries.join.now.width in
    let size = group_symbols width in
    let count = c.decode_line-read.result / size in
    let run = c.decode_line-read.ensures.run c.args.entries.values.now by.held c.args.self.now
    by.reads in
    let whole : c.whole_groups-read.result / size ≡ count =
    ap (λ n. n / size) c.whole_groups-read.ensures
    ∙ mul-div_cancel count (group_symbols-pos width (join-width by.join)) in
    rw (c.groups_len.ensures, whole, c.whole_groups-read.ensures)
    (reads-first (join-group by.join) c.args.self.now by.reads.width_is c.args.part.now c.args.len
    c.requires.within c.args.output.now c.decode_line-read.new.output
    (rw (← by.reads.width_is) c.requires.room) c.decode_line-read.auto.output count run)
