use Rattle.call_outcomes.specs.Text.{finding_text}
use Rattle.call_outcomes.proofs.Lines.{line_put}
use Rattle.call_outcomes.proofs.text.put_finding_line.Goals as goal

pub returns : goal.returns
returns c =
    line_put c.args.number c.args.out.now.items c.put_query.new.out.items c.put_finding.new.out.items c.push.new.self.items (finding_text c.args.finding) c.in_ok-put_query.ensures c.in_ok-put_finding.ensures c.in_ok-push.ensures.items
