use Rattle.std.proofs.Common.{◌≡◌, ◌+◌, ◌*◌, ◌/◌, ◌-◌, length, take, drop, replicate, refl, ap, ◌∙◌, arith}
use Rattle.std.proofs.lemmas.List.{take_at, take_rest}
use Rattle.std.proofs.lemmas.Nat.{div-add-mod'}
use Rattle.data_encoding_meaning.specs.text.Base.{group_bytes, group_symbols}
use Rattle.data_encoding_meaning.proofs.digits.SizeLemmas.{room-same}
use Rattle.data_encoding.specs.Endings.{HasReachedTo, IsFrontOf}
use Rattle.data_encoding.proofs.decoding.ShortLemmas.{joins-reads, joins-width, room-all, run-reached, start-reached}
use Rattle.data_encoding.proofs.tables.TableLemmas.{HoldsValues-seen}
use Rattle.data_encoding.proofs.encoding.EncodingRef.decode_in_words.Goals.{After-groups_len}
use Rattle.data_encoding.proofs.encoding.EncodingRef.decode_in_words.Goals as goal

pub decode_in_words-read-requires-clause-room : goal.decode_in_words-read-requires-clause-room
decode_in_words-read-requires-clause-room c =
    let joins = c.join-join.ensures.join in
    let width = joins-width joins in
    room-same (length c.args.input.now) (length c.args.output.now)
    (ap group_bytes joins.width_is) (ap group_symbols joins.width_is)
    (omega (arith, room-all width (start-reached width c.requires.exact)))

-- the groups before the end or the first other byte
reached : (c : After-groups_len)
    → HasReachedTo c.args.self.now c.args.input.now c.decode_in_words-read.result
    c.groups_len.result c.decode_in_words-read.new.output
reached c =
    let base = c.args.self.now in
    let joins = c.join-join.ensures.join in
    let width = joins-width joins in
    let s = group_symbols base.width in
    let b = group_bytes base.width in
    let count = c.decode_in_words-read.result / s in
    let reads = joins-reads joins (HoldsValues-seen _ c.self.invariant base c.self.view_is) in
    let run = rw joins.width_is at (c.decode_in_words-read.ensures.run base reads) in
    let whole = rw joins.width_is at c.decode_in_words-read.ensures.whole in
    let read : c.decode_in_words-read.result ≡ count * s =
    omega (arith, whole, div-add-mod' c.decode_in_words-read.result s) in
    let written : c.groups_len.result ≡ count * b = rw joins.width_is at c.groups_len.ensures in
    let zero : 0 + count * s ≡ count * s = omega arith in
    let none : 0 + count * b ≡ count * b = omega arith in
    rw (read, written) (rw (zero, none) at (run-reached width (start-reached width c.requires.exact)
    c.decode_in_words-read.new.output c.decode_in_words-read.auto.output count
    (omega (arith, run.within)) run.are_symbols (rw none run.bytes)))

pub returns-then-rest-gt8-clause-begun : goal.returns-then-rest-gt8-clause-begun
returns-then-rest-gt8-clause-begun c =
    reached (goal.at.returns-then-rest-gt8-clause-begun c).After-groups_len

pub decode_last-requires-clause-at : goal.decode_last-requires-clause-at
decode_last-requires-clause-at c = reached (goal.at.decode_last-requires-clause-at
    c).After-groups_len

pub decode_last-requires-clause-front : goal.decode_last-requires-clause-front
decode_last-requires-clause-front c =
    let base = c.args.self.now in
    let joins = c.join-join.ensures.join in
    let found = c.front_by_table-front.ensures in
    let rest = drop c.decode_in_words-read.result c.args.input.now in
    let reads = joins-reads joins (HoldsValues-seen _ c.self.invariant base c.self.view_is) in
    let group = take (length c.args.input.now - c.decode_in_words-read.result) rest in
    let is : IsFrontOf base group c.front_by_table-front.result = record {
      few = omega (arith, found.front.few, c.if-rest-gt8.false);
      within = found.front.few;
      text = λ _. ap (take (length group)) found.text
          ∙ take_at group (replicate (16 - length group) 0) (length group) refl;
      symbols = found.front.front base reads;
    } in
    rw (take_rest c.args.input.now c.decode_in_words-read.result) at is
