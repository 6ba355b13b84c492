use Rattle.std.proofs.Common.{sym, ◌∙◌}
use Rattle.pi_tree.specs.Terms.{term_of}
use Rattle.pi_tree.specs.Patterns.{pattern_of}
use Rattle.unified_visits.specs.Places.{protocol_at}
use Rattle.unified_visits.specs.Visits.{visit_at}
use Rattle.process_visits.proofs.Receiving.{channel_large, compared_large, visit_large, visit_small}
use Rattle.term_tree.proofs.BankLaws.{Grows_refl}
use Rattle.process_visits.proofs.inputs.after_input.Goals as goal

pub returns-then-is_large_term-clause-receives : goal.returns-then-is_large_term-clause-receives
returns-then-is_large_term-clause-receives g c =
    channel_large (protocol_at c.args.place.now) (visit_at (g.B.Bank.trees c.args.bank.now) c.args.visit.now) (term_of c.args.channel.now) (pattern_of c.args.pattern.now) (sym c.is_large_term.ensures ∙ c.if-is_large_term.true)

pub returns-then-some_large_compared-clause-receives : goal.returns-then-some_large_compared-clause-receives
returns-then-some_large_compared-clause-receives g c =
    compared_large (protocol_at c.args.place.now) (visit_at (g.B.Bank.trees c.args.bank.now) c.args.visit.now) (term_of c.args.channel.now) (pattern_of c.args.pattern.now) (sym c.some_large_compared.ensures ∙ c.if-some_large_compared.true)

pub is_large_visit-requires : goal.is_large_visit-requires
is_large_visit-requires g c = c.in_ok-made.ensures.names.2.known

pub returns-then-is_large_visit-clause-receives : goal.returns-then-is_large_visit-clause-receives
returns-then-is_large_visit-clause-receives g c =
    visit_large (protocol_at c.args.place.now) (visit_at (g.B.Bank.trees c.args.bank.now) c.args.visit.now) (term_of c.args.channel.now) (pattern_of c.args.pattern.now) (g.B.Bank.trees c.received.new.bank) c.in_ok-made.made
    (sym c.is_large_term.ensures ∙ c.if-is_large_term.false) (sym c.some_large_compared.ensures ∙ c.if-some_large_compared.false) c.in_ok-made.ensures.names (sym c.is_large_visit.ensures ∙ c.if-is_large_visit.true)

pub returns-clause-receives : goal.returns-clause-receives
returns-clause-receives g c =
    visit_small (protocol_at c.args.place.now) (visit_at (g.B.Bank.trees c.args.bank.now) c.args.visit.now) (term_of c.args.channel.now) (pattern_of c.args.pattern.now) (g.B.Bank.trees c.received.new.bank) c.in_ok-made.made
    (sym c.is_large_term.ensures ∙ c.if-is_large_term.false) (sym c.some_large_compared.ensures ∙ c.if-some_large_compared.false) c.in_ok-made.ensures.names (sym c.is_large_visit.ensures ∙ c.if-is_large_visit.false)

pub returns-then-is_large_term-clause-grows : goal.returns-then-is_large_term-clause-grows
returns-then-is_large_term-clause-grows g c = Grows_refl (g.B.Bank.trees c.args.bank.now)

pub returns-then-some_large_compared-clause-grows : goal.returns-then-some_large_compared-clause-grows
returns-then-some_large_compared-clause-grows g c = Grows_refl (g.B.Bank.trees c.args.bank.now)
