use Rattle.call_outcomes.specs.Text.{first_text}
use Rattle.call_outcomes.proofs.Lines.{line_put}
use Rattle.call_outcomes.proofs.text.put_first_line.Goals as goal

pub returns : goal.returns
returns c =
    line_put c.args.number c.args.out.now.items c.put_query.new.out.items c.put_first.new.out.items c.push.new.self.items (first_text c.args.first) c.in_ok-put_query.ensures c.in_ok-put_first.ensures c.in_ok-push.ensures.items
