use Rattle.std.proofs.Common.{◌≡◌, arith}
use Rattle.data_encoding_kernel.proofs.simd.decode.last_symbols.Join.decode_turns.Goals as goal

pub returns-in-1-clause-run : goal.returns-in-1-clause-run
returns-in-1-clause-run g c = rw c.in-1.is c.decode_turns_of.ensures.run

pub returns-in-2-clause-run : goal.returns-in-2-clause-run
returns-in-2-clause-run g c = rw c.in-2.is c.decode_turns_of-in-2.ensures.run

pub returns-in-3-clause-run : goal.returns-in-3-clause-run
returns-in-3-clause-run g c = rw c.in-3.is c.decode_turns_of-in-3.ensures.run

pub returns-in-4-clause-run : goal.returns-in-4-clause-run
returns-in-4-clause-run g c = rw c.in-4.is c.decode_turns_of-in-4.ensures.run

pub returns-in-5-clause-run : goal.returns-in-5-clause-run
returns-in-5-clause-run g c = rw c.in-5.is c.decode_turns_of-in-5.ensures.run

pub returns-in_default-clause-run : goal.returns-in_default-clause-run
returns-in_default-clause-run g c =
    let is : c.args.self.now.width ≡ 6 = omega arith in
    rw is c.decode_turns_of-in_default.ensures.run

pub decode_turns_of-requires-in_default-clause-few
    : goal.decode_turns_of-requires-in_default-clause-few
decode_turns_of-requires-in_default-clause-few g c =
    let is : c.args.self.now.width ≡ 6 = omega arith in
    rw is at c.requires.few

pub decode_turns_of-requires-in_default-clause-room
    : goal.decode_turns_of-requires-in_default-clause-room
decode_turns_of-requires-in_default-clause-room g c =
    let is : c.args.self.now.width ≡ 6 = omega arith in
    rw is at c.requires.room

pub returns-in_default-clause-within : goal.returns-in_default-clause-within
returns-in_default-clause-within g c =
    let is : c.args.self.now.width ≡ 6 = omega arith in
    rw is c.decode_turns_of-in_default.ensures.within
