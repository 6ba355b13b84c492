use Rattle.std.proofs.Common.{◌∙◌, ◌++◌, ap}
use Rattle.clause_form.specs.Seen.{clause_at}
use Rattle.attacker_clauses.proofs.Adding.{raw_added}
use Rattle.attacker_clauses.proofs.listing.add_norms.Goals as goal

pub returns-clause-adds : goal.returns-clause-adds
returns-clause-adds g c =
    raw_added (g.B.Bank.trees c.args.bank.now) (g.B.Bank.trees c.norms_of.new.bank) c.args.list.now c.append.new.self.items c.in_ok-made.made (clause_at (g.B.Bank.trees c.args.bank.now) c.args.raw.now) c.norms_of.ensures.grows c.in_ok-made.ensures.names c.in_ok-made.ensures.low
    (c.in_ok-append.ensures.items ∙ (ap (λ l. l ++ c.made.inside.items.items) c.list.view_is ∙ ap (λ l. c.args.list.now ++ l) c.made.view_is))
