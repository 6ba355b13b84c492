use Rattle.std.proofs.Common.{codes, ap, ◌++◌, ◌∙◌}
use Rattle.spec_calculus.specs.Points.{numbered}
use Rattle.pi_tree.specs.Protocols.{protocol_of}
use Rattle.call_outcomes.specs.VerdictText.{entry_text}
use Rattle.call_outcomes.proofs.Puts.{ended_put}
use Rattle.call_outcomes.proofs.verdicts.put_unmet.Goals as goal

pub returns : goal.returns
returns c =
    ended_put c.args.out.now.items c.extend_from_slice.new.self.items c.put_entry.new.out.items c.push.new.self.items (codes "unknown clause ") (entry_text (protocol_of c.args.protocol.now) (numbered c.args.log.now c.args.number))
    c.in_ok-extend_from_slice.ensures.items (c.in_ok-put_entry.ensures ∙ ap (λ o. c.extend_from_slice.new.self.items ++ entry_text (protocol_of c.args.protocol.now) o) c.entry_at.ensures) c.in_ok-push.ensures.items
