use Rattle.std.proofs.Common.{length, ap, arith}
use Rattle.cert_writer.proofs.plain.live_count.Goals as goal

pub returns : goal.returns
returns c = omega (arith, c.len.ensures, ap length (λ i. (c.known.view_is i).live))
