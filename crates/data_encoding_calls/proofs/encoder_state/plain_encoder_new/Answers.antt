use Rattle.std.proofs.Common.{◌≡◌, ◌%◌, [], length, refl, ap, sym, arith, length-append}
use Rattle.std.proofs.Math.Nat.{mod-eq_of_lt}
use Rattle.std.proofs.lemmas.List.{nil_from_length}
use Rattle.data_encoding.specs.Lengths.{alignment}
use Rattle.data_encoding.specs.Text.{text_of}
use Rattle.data_encoding_calls.proofs.encoder_state.plain_encoder_new.Goals as goal

pub returns : goal.returns
returns c = λ base is.
    let some = c.join_encode.ensures.some base is in
    let aligned : 0 % alignment base ≡ 0 = mod-eq_of_lt some in
    let twice = c.join_encode.ensures.join base is [] [] aligned in
    let none : text_of base [] ≡ [] =
    nil_from_length (text_of base [])
    (omega (arith, ap length twice, length-append (text_of base []) (text_of base []))) in
    record {
      encoded = [];
      are_bytes = refl;
      is_aligned = aligned;
      is_short = some;
      is_written = sym none;
    }
