use Rattle.std.proofs.Common.{codes, append_assoc, ◌++◌}
use Rattle.std.proofs.lemmas.Result.{on_ok_weaker}
use Rattle.pi_tree.specs.Protocols.{protocol_of}
use Rattle.call_outcomes.specs.VerdictText.{verdict_line}
use Rattle.call_outcomes.proofs.Puts.{two_put}
use Rattle.call_outcomes.specs.Text.{number_lines}
use Rattle.call_outcomes.proofs.summary.put_summary.Goals as goal

pub returns : goal.returns
returns c = on_ok_weaker c.put_verdict_line.result (λ last. simp append_assoc (simp append_assoc at (two_put c.args.out.now.items c.extend_from_slice.new.self.items c.put_verdict_line.new.out.items (number_lines c.args.ring.now ++ codes "query 1 ") (verdict_line (protocol_of c.args.protocol.now) c.args.ring.now.verdict)
    (two_put c.args.out.now.items c.put_numbers.new.out.items c.extend_from_slice.new.self.items (number_lines c.args.ring.now) (codes "query 1 ") c.in_ok-put_numbers.ensures c.in_ok-extend_from_slice.ensures.items) last))) c.put_verdict_line.ensures
