use Rattle.std.proofs.Common.{◌≡◌, ◌+◌, vec_len, take}
use Rattle.std.specs.Prelude.{option_map}
use Rattle.std.specs.Io.Take.{take_limit, take_remaining}
use Rattle.std.specs.Io.KnownBytes.{Consumes}
use Rattle.hv_io.proofs.reading.read_first.Given as goal

-- the bytes were read, and with those that may be read yet they are no more than the most
abbrev pub invariant-loop-bytes : goal.invariant-loop-bytes
invariant-loop-bytes g l = record {
  within : vec_len l.bytes + take_limit l.limited ≡ l.most;
  read : Consumes (option_map (take l.most) (g.R.Read.remaining l.fn.source)) (take_remaining g.R.Read.remaining l.limited) l.bytes.items;
}

abbrev pub decreases-loop-bytes : goal.decreases-loop-bytes
decreases-loop-bytes g l = take_limit l.limited
