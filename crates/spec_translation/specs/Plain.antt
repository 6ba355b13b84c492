-- Protocols without phases and tables: all that the facts of their clauses speak of is of phase 0. And processes whose `let`s have no else branches.
use Rattle.std.specs.Prelude.{◌≡◌, Bool, true, false, nat_eq, filter_map, List, [], ◌∷◌, ◌++◌}
use Rattle.std.specs.List.{list_all, enumerate_from}
use Rattle.spec_calculus.specs.Syntax.{Process, Nil, Output, Input, Parallel, Replication, New, Let, Event, Phase, Insert, Get, Protocol}
pub use Rattle.spec_calculus.specs.Plain.{IsPlain, IsPlainQuery}
use Rattle.spec_terms.specs.Term.{Term}
use Rattle.spec_clauses.specs.Fact.{Fact, Att, Mess, Tab, Clause}
use Rattle.spec_translation.specs.Attacker.{name_known, fresh_known, done_in}

-- whether a fact is of phase 0 or of none, and of no table
abbrev pub is_plain : {X : Type 0} → Fact X → Bool
is_plain (Att k t) = nat_eq k 0
is_plain (Mess k t u) = nat_eq k 0
is_plain (Tab n ts) = false
is_plain _ = true

-- each fact of the clause is
pub record IsPlainClause (c : Clause Term) : Type 0 where
  pub hypotheses : list_all is_plain c.hypotheses ≡ true
  pub conclusion : is_plain c.conclusion ≡ true

-- the attacker's raw clauses, where there is one phase
abbrev pub plain_attacker : Protocol → List (Clause Term)
plain_attacker P = filter_map name_known (enumerate_from 1 P.frees) ++ (fresh_known ∷ done_in P 0)

-- the else branch of each `let` does nothing
abbrev pub HasNoElse : Process → Type 0
HasNoElse Nil = Unit {0}
HasNoElse (Output channel message next) = HasNoElse next
HasNoElse (Input channel pattern next) = HasNoElse next
HasNoElse (Parallel left right) = HasNoElse left × HasNoElse right
HasNoElse (Replication copied) = HasNoElse copied
HasNoElse (New word next) = HasNoElse next
HasNoElse (Let pattern expression next otherwise) = HasNoElse next × (otherwise ≡ Nil)
HasNoElse (Event performed next) = HasNoElse next
HasNoElse (Phase number next) = HasNoElse next
HasNoElse (Insert table arguments next) = HasNoElse next
HasNoElse (Get table patterns condition next otherwise) = HasNoElse next × HasNoElse otherwise
