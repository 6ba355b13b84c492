-- Visits of points: what the clauses of a process are made from (Blanchet 2016, section 3.3.2, the translation of processes).
use Rattle.std.specs.Prelude.{ℕ, ◌≤◌, Bool, false, not, ◌||◌, cond, nat_le, List, [], ◌∷◌, ◌++◌, map, flat_map}
use Rattle.std.specs.List.{list_any, AllByRecursion}
use Rattle.std.specs.Option.{option_map_or}
use Rattle.spec_trees.specs.Tree.{Leaf, Node, none, bind, size}
use Rattle.spec_calculus.specs.Syntax.{Made, Variable, Process, Pattern, EventTerm, Protocol}
use Rattle.spec_calculus.specs.Syntax as calculus
use Rattle.spec_calculus.specs.Points.{numbered}
use Rattle.spec_calculus.specs.Tables.{row_pattern}
use Rattle.spec_calculus.specs.Bounds.{most_symbols}
use Rattle.spec_calculus.specs.Limits.{terms_at}
use Rattle.spec_terms.specs.Term.{Free, Term, Subst}
use Rattle.spec_clauses.specs.Fact.{Fact, Att, Mess, Tab, Mev, Clause, terms_of, fact_under, fact_size}
use Rattle.spec_clauses.specs.Diff.{Diff, diff_variables, diff_under}
use Rattle.spec_clauses.specs.Variables.{AreBelow}
use Rattle.spec_translation.specs.Conversion.{StandsFor, Scope, term_in, name_term, Fresh, pattern_term, bound_numbers, pattern_scope}

-- what is known where a point is visited: what the leaves stand for, the hypotheses and constraints so far, the messages
-- received above the point and the terms of entries taken there, the numbers of the copies that were taken above it, and the phase
pub record Visit : Type 0 where
  pub scope : Scope
  pub hypotheses : List (Fact Term)
  pub diffs : List Diff
  pub messages : List Term
  pub sessions : List Term
  pub phase : ℕ

-- the first visit, of the main process, in phase 0
abbrev pub first_visit : Visit
first_visit = record { scope = []; hypotheses = []; diffs = []; messages = []; sessions = []; phase = 0 }

-- a visit under a substitution
abbrev pub standing_under : Subst → StandsFor → StandsFor
standing_under s b = record { name = b.name; term = bind s b.term }

abbrev pub visit_under : Subst → Visit → Visit
visit_under s v = record {
  scope = map (standing_under s) v.scope;
  hypotheses = map (fact_under s) v.hypotheses;
  diffs = map (diff_under s) v.diffs;
  messages = map (bind s) v.messages;
  sessions = map (bind s) v.sessions;
  phase = v.phase;
}

-- all terms of a visit, with the variables of its constraints
abbrev pub visit_terms : Visit → List Term
visit_terms v = map (λ b. b.term) v.scope ++ (flat_map terms_of v.hypotheses ++ (v.messages ++ (v.sessions ++ map Leaf (flat_map diff_variables v.diffs))))

-- whether a term of the scope or a hypothesis is over the limit of size
abbrev pub is_large_term : Term → Bool
is_large_term t = not (nat_le (size t) most_symbols)

abbrev pub is_large_visit : Visit → Bool
is_large_visit v = list_any (λ b. is_large_term b.term) v.scope || list_any (λ h. not (nat_le (fact_size h) most_symbols)) v.hypotheses

-- whether a term that is evaluated at the point is, those after `=` in a pattern among them
abbrev pub evaluates_large : Protocol → Visit → Process → Bool
evaluates_large P v process = list_any (λ t. is_large_term (term_in P v.scope t)) (terms_at process)

-- whether the channel is a public free name, on which the attacker hears and sends all
abbrev pub is_public_channel : Protocol → Term → Bool
is_public_channel P (Node (Free n) none) = option_map_or (λ declared. declared.public) (numbered P.frees n) false
is_public_channel P _ = false

-- that in the phase the message may be sent on the channel
abbrev pub sent : Protocol → ℕ → Term → Term → Fact Term
sent P phase channel message = cond (is_public_channel P channel) (Att phase message) (Mess phase channel message)

-- the raw clause that an output, an event and an `insert` add, with the constraints of the visit
abbrev pub raw_clause : Visit → Fact Term → Clause Term
raw_clause v conclusion = record { hypotheses = v.hypotheses; diffs = v.diffs; conclusion = conclusion }

-- The new variables of a pattern are new to the visit, and no two variables become one.
pub record IsFresh (v : Visit) (pattern : Pattern) (at : Fresh) : Type 0 where
  pub is_new : AreBelow at.base (visit_terms v)
  pub from_first : AllByRecursion (λ i. at.first ≤ i) (bound_numbers pattern)

-- the visit below an input: the message is the pattern's term
abbrev pub after_input : Protocol → Visit → calculus.Term → Pattern → Fresh → Visit
after_input P v channel pattern at = let message = pattern_term P v.scope at pattern in record {
  scope = v.scope ++ pattern_scope at pattern;
  hypotheses = v.hypotheses ++ sent P v.phase (term_in P v.scope channel) message ∷ [];
  diffs = v.diffs;
  messages = v.messages ++ message ∷ [];
  sessions = v.sessions;
  phase = v.phase;
}

-- the visit in which a variable stands for the term
abbrev pub bound : Visit → ℕ → Term → Visit
bound v i t = record v { scope = v.scope ++ record { name = Variable i; term = t } ∷ [] }

-- below a replication: one more copy, whose number is the variable n
abbrev pub after_copy : Visit → ℕ → Visit
after_copy v n = record v { sessions = v.sessions ++ Leaf n ∷ [] }

-- below a restriction: its name stands over the messages and the sessions
abbrev pub after_new : Visit → ℕ → Visit
after_new v point = record v { scope = v.scope ++ record { name = Made point; term = name_term point v.messages v.sessions } ∷ [] }

-- the arguments of an event
abbrev pub event_terms : Protocol → Visit → EventTerm → List Term
event_terms P v e = map (term_in P v.scope) e.arguments

-- below an event: it must have run
abbrev pub after_event : Protocol → Visit → EventTerm → Visit
after_event P v e = record v { hypotheses = v.hypotheses ++ Mev e.event (event_terms P v e) ∷ [] }

-- in the phase that begins
abbrev pub after_phase : Visit → ℕ → Visit
after_phase v number = record v { phase = number }

-- the terms that are written into a table
abbrev pub written_terms : Protocol → Visit → List calculus.Term → List Term
written_terms P v arguments = map (term_in P v.scope) arguments

-- the visit below a `get`: the table may have the entry of the patterns' terms
abbrev pub after_entry : Protocol → Visit → ℕ → List Pattern → Fresh → Visit
after_entry P v table patterns at = let terms = map (pattern_term P v.scope at) patterns in record {
  scope = v.scope ++ pattern_scope at (row_pattern patterns);
  hypotheses = v.hypotheses ++ Tab table terms ∷ [];
  diffs = v.diffs;
  messages = v.messages ++ terms;
  sessions = v.sessions;
  phase = v.phase;
}
