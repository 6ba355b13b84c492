use Rattle.std.proofs.Common.{◌≡◌, map, drop}
use Rattle.pi_tree.specs.Terms.{term_of}
use Rattle.clause_terms.specs.Scopes.{scope_at}
use Rattle.unified_visits.specs.Places.{protocol_at}
use Rattle.process_visits.specs.Forms.{are_large_in}
use Rattle.process_visits.proofs.large.some_large_term.Given as goal

abbrev pub invariant-loop-term : goal.invariant-loop-term
invariant-loop-term g l =
    are_large_in (protocol_at l.place) (scope_at (g.B.Bank.trees l.bank) l.scope) (map term_of (drop l.term-index l.term-items)) ≡ are_large_in (protocol_at l.place) (scope_at (g.B.Bank.trees l.bank) l.scope) (map term_of l.term-items)
