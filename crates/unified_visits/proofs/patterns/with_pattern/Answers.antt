use Rattle.pi_tree.specs.Patterns.{pattern_of}
use Rattle.unified_visits.specs.Places.{protocol_at}
use Rattle.unified_visits.proofs.Named.{visit_later}
use Rattle.unified_visits.proofs.Bound.{pattern_named}
use Rattle.term_tree.proofs.BankLaws.{Grows_trans, Grows_refl}
use Rattle.std.proofs.Common.{sym, subst, arith}
use Rattle.spec_translation.specs.Conversion.{bound_numbers}
use Rattle.unified_visits.specs.Spans.{IsSpan}
use Rattle.unified_visits.proofs.patterns.with_pattern.Goals as goal

pub with_bound-requires-clause-visit : goal.with_bound-requires-clause-visit
with_bound-requires-clause-visit g c = (visit_later (g.B.Bank.trees c.args.bank.now) (g.B.Bank.trees c.pattern_term.new.bank) c.args.visit.now c.pattern_term.ensures.grows c.requires.visit).known

pub returns-clause-names : goal.returns-clause-names
returns-clause-names g c =
    pattern_named (protocol_at c.args.place.now) (g.B.Bank.trees c.args.bank.now) (g.B.Bank.trees c.pattern_term.new.bank) (g.B.Bank.trees c.with_bound.new.bank) c.args.visit.now c.in_ok-made.made c.args.base c.in_ok-span.span (pattern_of c.args.pattern.now) c.in_ok-term.term
    c.pattern_term.ensures.grows c.with_bound.ensures.grows c.requires.visit c.requires.up c.in_ok-span.ensures c.in_ok-term.ensures.names c.in_ok-made.ensures.names c.in_ok-made.ensures.next

pub returns-in_err-made-clause-grows : goal.returns-in_err-made-clause-grows
returns-in_err-made-clause-grows g c = Grows_trans (g.B.Bank.trees c.args.bank.now) (g.B.Bank.trees c.pattern_term.new.bank) (g.B.Bank.trees c.with_bound.new.bank) c.pattern_term.ensures.grows c.with_bound.ensures.grows

pub returns-clause-grows : goal.returns-clause-grows
returns-clause-grows g c = Grows_trans (g.B.Bank.trees c.args.bank.now) (g.B.Bank.trees c.pattern_term.new.bank) (g.B.Bank.trees c.with_bound.new.bank) c.pattern_term.ensures.grows c.with_bound.ensures.grows

pub with_bound-requires-clause-up : goal.with_bound-requires-clause-up
with_bound-requires-clause-up g c = omega (arith, c.in_ok-span.ensures.base)

pub with_bound-requires-clause-span : goal.with_bound-requires-clause-span
with_bound-requires-clause-span g c = subst (λ n. IsSpan n (bound_numbers (pattern_of c.args.pattern.now)) c.in_ok-span.span) (sym c.in_ok-span.ensures.base) c.in_ok-span.ensures

pub returns-in_err-span-clause-grows : goal.returns-in_err-span-clause-grows
returns-in_err-span-clause-grows g c = Grows_refl (g.B.Bank.trees c.args.bank.now)

pub returns-in_err-term-clause-grows : goal.returns-in_err-term-clause-grows
returns-in_err-term-clause-grows g c = c.pattern_term.ensures.grows
