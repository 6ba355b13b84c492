-- Translations worked out by hand: names over messages and sessions, private constructors, all branches of a `let`, variables of goals.
use Rattle.std.proofs.Common.{◌≡◌, ◌∙◌, ℕ, zero, suc, false, Some, List, [], ◌∷◌, ◌++◌, refl, ap, sym, inr, arith}
use Rattle.std.specs.List.{cons_option}
use Rattle.spec_trees.specs.Tree.{Leaf, node, after}
use Rattle.spec_calculus.specs.Syntax.{Made, Tuple, Bind, Nil, Output, Input, Replication, New, Let, Event, Rule, EventTerm, Secret, SecretNew, Correspondence, Protocol}
use Rattle.spec_terms.specs.Term.{Ctor, Free, Point, Term, Subst}
use Rattle.spec_terms.specs.Term as terms
use Rattle.spec_clauses.specs.Fact.{Att, Mess, Ev, Mev, Bad, Clause}
use Rattle.spec_clauses.specs.Diff.{Bound, Diff}
use Rattle.spec_clauses.specs.Norm.{norms}
use Rattle.spec_clauses.specs.Inclusion.{here}
use Rattle.spec_clauses.proofs.NormAnswers.{norm-none}
use Rattle.spec_translation.specs.Goal.{event_variables}
use Rattle.spec_translation.specs.Visit.{first_visit}
use Rattle.spec_translation.specs.Choice.{Choice, choice_under, IsUnified, ruled_choice, ChoiceGoesOn}
use Rattle.spec_translation.specs.Course.{Done}
use Rattle.spec_translation.specs.Translation.{IsTranslation, Clauses, goal_clauses}
use Rattle.spec_translation.proofs.ExampleWords.{public_name, private_name, constructor_of, name, variable, apply, call, ruled_call, clause, x, free, own_names, hears, says, same_rule, next_variable, with_value, first_of, two_terms}

-- free c. private fun f/1. query attacker(new n). process !in(c,x); new n; out(c,n)
abbrev answering : Protocol
answering = record {
  frees = public_name 99 ∷ [];
  constructors = record { word = 102 ∷ []; arity = 1; public = false; is_data = false } ∷ [];
  destructors = [];
  events = [];
  tables = [];
  queries = SecretNew 3 0 ∷ [];
  main = Replication (Input (name 1) (Leaf (Bind 1)) (New (110 ∷ []) (Output (name 1) (Leaf (Made 3)) Nil)));
}

abbrev made : Term → Term → Term
made message session = node (Point 3) (message ∷ session ∷ [])

-- The message comes before the session: `att(v0) => att(n@3[v0,v1])`. The private constructor has no clause.
pub answering_is_translated : IsTranslation answering (SecretNew 3 0) (Clauses (
    clause [] (Att 0 (free 1)) ∷ own_names ∷ hears ∷ says
    ∷ clause (Att 0 (x 0) ∷ []) (Att 0 (made (x 0) (x 1)))
    ∷ clause (Att 0 (made (x 0) (x 1)) ∷ []) (Bad []) ∷ []))
answering_is_translated = (
  Done (clause (Att 0 (x 0) ∷ []) (Att 0 (made (x 0) (x 1))) ∷ []) 65531,
  (
    0,
    tt,
    (
      record { base = 1; first = 1 },
      record { is_new = ((omega arith, tt), tt); from_first = (omega arith, tt) },
      (Done [] 65531, refl, refl),
    ),
  ),
  refl,
)

-- The variables of an event, each once, by first occurrence.
abbrev asked : EventTerm
asked = record { event = 1; arguments = node Tuple (variable 2 ∷ variable 1 ∷ []) ∷ variable 2 ∷ variable 3 ∷ [] }

its_variables : event_variables asked ≡ 2 ∷ 1 ∷ 3 ∷ []
its_variables = refl

-- `ev(e((v0,v1),v0,v2)) => bad(v0,v1,v2)`
its_goal : goal_clauses answering (Correspondence asked []) ≡ clause (Ev 1 (node (terms.Tuple 2) (x 0 ∷ x 1 ∷ []) ∷ x 0 ∷ x 2 ∷ []) ∷ []) (Bad (x 0 ∷ x 1 ∷ x 2 ∷ [])) ∷ []
its_goal = refl

-- Two rules: d(x) -> x and d(x) -> h(x,x).
abbrev pair_rule : Rule
pair_rule = record { left = variable 1 ∷ []; right = apply 1 (variable 1 ∷ variable 1 ∷ []) }

-- free c. private free k. fun h/2. reduc d(x) -> x; d(x) -> h(x,x). query attacker(k).
-- process let y = d(c) in out(c,h(y,k)) else out(c,h(k,k))
abbrev branches : Protocol
branches = record {
  frees = public_name 99 ∷ private_name 107 ∷ [];
  constructors = constructor_of 104 2 ∷ [];
  destructors = record { word = 100 ∷ []; rules = same_rule ∷ pair_rule ∷ [] } ∷ [];
  events = [];
  tables = [];
  queries = Secret (name 2) 0 ∷ [];
  main = Let (Leaf (Bind 1)) (call 1 (name 1 ∷ [])) (Output (name 1) (apply 1 (variable 1 ∷ name 2 ∷ [])) Nil) (Output (name 1) (apply 1 (name 2 ∷ name 2 ∷ [])) Nil);
}

abbrev h : Term → Term → Term
h t u = node (Ctor 1) (t ∷ u ∷ [])

abbrev choice : Rule → Choice
choice rule = ruled_choice branches first_visit (Leaf (Bind 1)) (ruled_call rule (name 1 ∷ [])) 0 next_variable

module _ (r : Subst) where
  same_most : IsUnified (choice_under r (choice same_rule)) → (n : ℕ) → after r (two_terms (free 1) (free 1)) n ≡ r n
  same_most e zero = ap first_of e.0
  same_most e (suc zero) = ap first_of e.0 ∙ e.1
  same_most e (suc (suc n)) = refl

  pair_most : IsUnified (choice_under r (choice pair_rule)) → (n : ℕ) → after r (two_terms (free 1) (h (free 1) (free 1))) n ≡ r n
  pair_most e zero = ap first_of e.0
  pair_most e (suc zero) = let first = ap first_of e.0 in (λ i. h (first i) (first i)) ∙ e.1
  pair_most e (suc (suc n)) = refl

same_goes : ChoiceGoesOn branches first_visit (Leaf (Bind 1)) (ruled_call same_rule (name 1 ∷ [])) (Some (with_value (free 1)))
same_goes = record {
  base = 0;
  at = next_variable;
  is_new = tt;
  is_apart = ((omega arith, tt), (tt, ((omega arith, tt), tt)));
  is_fresh = record { is_new = tt; from_first = (omega arith, tt) };
  goes_on = (two_terms (free 1) (free 1), record { accepted = (refl, refl); most = λ r e. (r, same_most r e) }, refl);
}

pair_goes : ChoiceGoesOn branches first_visit (Leaf (Bind 1)) (ruled_call pair_rule (name 1 ∷ [])) (Some (with_value (h (free 1) (free 1))))
pair_goes = record {
  base = 0;
  at = next_variable;
  is_new = tt;
  is_apart = ((omega arith, (omega arith, tt)), (tt, ((omega arith, tt), tt)));
  is_fresh = record { is_new = tt; from_first = (omega arith, tt) };
  goes_on = (two_terms (free 1) (h (free 1) (free 1)), record { accepted = (refl, refl); most = λ r e. (r, pair_most r e) }, refl);
}

-- what the branches add: of each rule in order
abbrev first_branch : Clause Term
first_branch = clause [] (Att 0 (h (free 1) (free 2)))

abbrev second_branch : Clause Term
second_branch = clause [] (Att 0 (h (h (free 1) (free 1)) (free 2)))

-- The else branch adds nothing: the first rule gives a value, and the variable takes any. So `diff(c,?0;?0,?1)` is never met.
abbrev no_value : Diff
no_value = record { left = node (Free 1) [] ∷ Leaf (Bound 0) ∷ []; right = Leaf (Bound 0) ∷ Leaf (Bound 1) ∷ [] }

abbrev no_pair : Diff
no_pair = record { left = node (Free 1) [] ∷ node (Ctor 1) (Leaf (Bound 0) ∷ Leaf (Bound 0) ∷ []) ∷ []; right = Leaf (Bound 0) ∷ Leaf (Bound 1) ∷ [] }

never_otherwise : norms (record { hypotheses = []; diffs = no_value ∷ no_pair ∷ []; conclusion = Att 0 (h (free 2) (free 2)) }) ≡ []
never_otherwise =
    let raw : Clause Term = record { hypotheses = []; diffs = no_value ∷ no_pair ∷ []; conclusion = Att 0 (h (free 2) (free 2)) } in
    ap (λ o. cons_option o []) ((norm-none raw).1 (inr (no_value, (no_pair ∷ [], here), ((λ i. free 1), refl))))

-- The first rule's own clause, `att(v0) => att(v0)`, is a tautology.
pub branches_are_translated : IsTranslation branches (Secret (name 2) 0) (Clauses (
    clause [] (Att 0 (free 1)) ∷ own_names
    ∷ clause (Att 0 (x 0) ∷ Att 0 (x 1) ∷ []) (Att 0 (h (x 0) (x 1)))
    ∷ clause (Att 0 (x 0) ∷ []) (Att 0 (h (x 0) (x 0)))
    ∷ hears ∷ says ∷ first_branch ∷ second_branch
    ∷ clause (Att 0 (free 2) ∷ []) (Bad []) ∷ []))
branches_are_translated =
    let first = with_value (free 1) in
    let second = with_value (h (free 1) (free 1)) in (
      Done (first_branch ∷ second_branch ∷ []) 65529,
      (
        Some first ∷ Some second ∷ [],
        (Some first, Some second ∷ [], same_goes, (Some second, [], pair_goes, refl, refl), refl),
        (
          Done (first_branch ∷ []) 65533,
          (Done [] 65533, refl, refl),
          (
            Done (second_branch ∷ []) 65529,
            (
              Done (second_branch ∷ []) 65531,
              (Done [] 65531, refl, refl),
              (Done [] 65529, (Done [] 65529, refl, ap (λ cs. Done (cs ++ []) 65529) (sym never_otherwise)), refl),
            ),
            refl,
          ),
        ),
      ),
      refl,
    )

-- free c. private free d. fun h/2. event e/1. query attacker(new n).
-- process !new m; in(c,x); event e(x); !in(d,y); new n; out(c,h(m,h(x,n)))
abbrev orders : Protocol
orders = record {
  frees = public_name 99 ∷ private_name 100 ∷ [];
  constructors = constructor_of 104 2 ∷ [];
  destructors = [];
  events = constructor_of 101 1 ∷ [];
  tables = [];
  queries = SecretNew 7 0 ∷ [];
  main = Replication (New (109 ∷ []) (Input (name 1) (Leaf (Bind 1)) (Event (record { event = 1; arguments = variable 1 ∷ [] })
      (Replication (Input (name 2) (Leaf (Bind 2)) (New (110 ∷ []) (Output (name 1) (apply 1 (Leaf (Made 2) ∷ apply 1 (variable 1 ∷ Leaf (Made 7) ∷ []) ∷ [])) Nil)))))));
}

-- the outer name over the outer session, and the inner one over both messages and then both sessions
abbrev outer : Term → Term
outer session = node (Point 2) (session ∷ [])

abbrev inner : List Term → Term
inner ts = node (Point 7) ts

abbrev noted : Clause Term
noted = clause (Att 0 (x 0) ∷ []) (Ev 1 (x 0 ∷ []))

abbrev sent_last : Clause Term
sent_last = clause (Att 0 (x 1) ∷ Mev 1 (x 1 ∷ []) ∷ Mess 0 (free 2) (x 2) ∷ []) (Att 0 (h (outer (x 0)) (h (x 1) (inner (x 1 ∷ x 2 ∷ x 0 ∷ x 3 ∷ [])))))

-- Hypotheses, messages and sessions stand in the order in which they came.
pub orders_are_translated : IsTranslation orders (SecretNew 7 0) (Clauses (
    clause [] (Att 0 (free 1)) ∷ own_names
    ∷ clause (Att 0 (x 0) ∷ Att 0 (x 1) ∷ []) (Att 0 (h (x 0) (x 1)))
    ∷ hears ∷ says ∷ noted ∷ sent_last
    ∷ clause (Att 0 (inner (x 0 ∷ x 1 ∷ x 2 ∷ x 3 ∷ [])) ∷ []) (Bad []) ∷ []))
orders_are_translated = (
  Done (noted ∷ sent_last ∷ []) 65527,
  (
    0,
    tt,
    (
      record { base = 1; first = 1 },
      record { is_new = ((omega arith, tt), ((omega arith, tt), tt)); from_first = (omega arith, tt) },
      (
        Done (sent_last ∷ []) 65527,
        (
          2,
          ((omega arith, tt), ((omega arith, tt), ((omega arith, tt), ((omega arith, tt), ((omega arith, tt), ((omega arith, tt), tt)))))),
          (
            record { base = 3; first = 2 },
            record { is_new = ((omega arith, tt), ((omega arith, tt), ((omega arith, tt), ((omega arith, tt), ((omega arith, tt), ((omega arith, tt), ((omega arith, tt), tt))))))); from_first = (omega arith, tt) },
            (Done [] 65527, refl, refl),
          ),
        ),
        refl,
      ),
    ),
  ),
  refl,
)
