use Rattle.data_encoding_kernel.proofs.simd.decode.last_symbols.Join.decode_turns_of.Goals as goal

pub returns-in-MostSignificantFirst-clause-run : goal.returns-in-MostSignificantFirst-clause-run
returns-in-MostSignificantFirst-clause-run g c =
    rw c.in-MostSignificantFirst.is c.decode_turns.ensures.run

pub returns-in-LeastSignificantFirst-clause-run : goal.returns-in-LeastSignificantFirst-clause-run
returns-in-LeastSignificantFirst-clause-run g c =
    rw c.in-LeastSignificantFirst.is c.decode_turns-in-LeastSignificantFirst.ensures.run
