-- so many bytes of the text stand there
use Rattle.fact_reader.proofs.Places.{IsFixed}
use Rattle.fact_reader.proofs.bytes.fixed.Given as goal

abbrev pub invariant-loop-byte : goal.invariant-loop-byte
invariant-loop-byte l = IsFixed l.text l.bytes l.fn.at l.byte-index l.place
