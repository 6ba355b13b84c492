-- A protocol within the limits of reading is within those of a replay, and of what is told of a run.
use Rattle.std.proofs.Common.{arith}
use Rattle.spec_calculus.specs.Syntax.{Protocol}
use Rattle.run_replay.specs.Limits.{IsLimited}
use Rattle.log_text.specs.Replayed.{CanReplay}
use Rattle.hx.specs.Readable.{IsReadable}

pub limited : (P : Protocol) → IsReadable P → IsLimited P
limited P h =
    let limits = h.limits in
    let names = limits.names in
    let queries = limits.queries in
    let points = limits.points in
    record { frees = omega arith; queries = omega arith; points = omega arith }

pub can_replay : (P : Protocol) → IsReadable P → CanReplay P
can_replay P h =
    let limits = h.limits in
    let names = limits.names in
    let points = limits.points in
    record { frees = omega arith; points = omega arith }
