-- The messages of faults of streams.
use Rattle.std.specs.Prelude.{ℕ, List, codes}
use Rattle.data_encoding.specs.Printed.{printed_error}
use Rattle.encoding_stream.specs.declared.error.StreamFault.{StreamFault}
use Rattle.encoding_stream.specs.declared.error.StreamFault.TheVariants.{Read, Write, Decode, TooLong}

-- The message of a fault of a stream.
abbrev pub printed_stream_fault : StreamFault → List ℕ
printed_stream_fault Read = codes "read failed"
printed_stream_fault Write = codes "write failed"
printed_stream_fault (Decode error) = printed_error error
printed_stream_fault TooLong = codes "input too long"
