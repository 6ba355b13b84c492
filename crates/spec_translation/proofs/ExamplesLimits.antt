-- Where a visit is too large, worked out by hand: a message, a name, a clause, a flat part of it, one of two choices, and the number of visits.
use Rattle.std.proofs.Common.{◌≡◌, ◌∙◌, ℕ, zero, suc, ◌+◌, ◌++◌, Some, List, [], ◌∷◌, length, refl, ap, sym, subst, arith}
use Rattle.std.specs.Prelude.{max, flat_map, filter_map}
use Rattle.std.specs.List.{enumerate_from}
use Rattle.std.proofs.lemmas.List.{length-append}
use Rattle.spec_trees.specs.Tree.{Leaf, node, after}
use Rattle.spec_calculus.specs.Syntax.{Variable, Tuple, Hole, Pattern, Bind, Equal, Process, Nil, Output, Input, Parallel, Replication, New, Let, Rule, Destructor, Secret, Protocol}
use Rattle.spec_calculus.specs.Syntax as calculus
use Rattle.spec_calculus.specs.Points.{nodes, point_after, greatest_phase}
use Rattle.spec_terms.specs.Term.{Ctor, Term, Subst}
use Rattle.spec_terms.specs.Term as terms
use Rattle.spec_clauses.specs.Fact.{Att, Bad, clause_size}
use Rattle.spec_clauses.specs.Norm.{norms}
use Rattle.spec_translation.specs.Conversion.{Fresh}
use Rattle.spec_translation.specs.Attacker.{name_known, fresh_known, done_in, done_after}
use Rattle.spec_translation.specs.Visit.{Visit, first_visit, after_copy}
use Rattle.spec_translation.specs.Choice.{Choice, choice_under, IsUnified, ruled_choice, ChoiceGoesOn}
use Rattle.spec_translation.specs.Course.{Done, TooLarge}
use Rattle.spec_translation.specs.Visited.{Visited}
use Rattle.spec_translation.specs.Translation.{IsTranslation, Clauses, LargeAt, goal_clauses}
use Rattle.spec_translation.proofs.ExampleWords.{public_name, private_name, constructor_of, name, variable, apply, call, ruled_call, clause, x, free, own_names, hears, says, same_rule, next_variable, with_value, first_of, two_terms}
use Rattle.spec_translation.proofs.ExamplesLarge.{doubled, weight}

-- the term of 2 ^ (i + 1) - 1 symbols
abbrev written : ℕ → calculus.Term
written zero = name 1
written (suc i) = apply 1 (written i ∷ written i ∷ [])

-- free c. private free s. fun h/2. query attacker(s). process ..
abbrev file : Process → Protocol
file process = record {
  frees = public_name 99 ∷ private_name 115 ∷ [];
  constructors = constructor_of 104 2 ∷ [];
  destructors = [];
  events = [];
  tables = [];
  queries = Secret (name 2) 0 ∷ [];
  main = process;
}

-- the pattern of an input that compares with these terms, as parts of a tuple
abbrev compares : List Pattern → Pattern
compares parts = node Tuple parts

abbrev is_term : ℕ → Pattern
is_term i = Leaf (Equal (written i))

abbrev nothing_new : Fresh
nothing_new = record { base = 0; first = 0 }

-- in(c,(=t,=t,=t)) with t of 8,191 symbols: each is within the limit, and the message is not
pub message_is_large : IsTranslation (file (Input (name 1) (compares (is_term 12 ∷ is_term 12 ∷ is_term 12 ∷ [])) Nil)) (Secret (name 2) 0) (LargeAt 1)
message_is_large = (TooLarge 1, (nothing_new, record { is_new = tt; from_first = tt }, refl), refl)

-- in(c,=t); in(c,=t); in(c,=t); new n: the name has 24,574 symbols
abbrev three_inputs : Process → Process
three_inputs next = Input (name 1) (is_term 12) (Input (name 1) (is_term 12) (Input (name 1) (is_term 12) next))

pub name_is_large : IsTranslation (file (three_inputs (New (110 ∷ []) Nil))) (Secret (name 2) 0) (LargeAt 4)
name_is_large = (
  TooLarge 4,
  (
    nothing_new,
    record { is_new = tt; from_first = tt },
    (
      nothing_new,
      record { is_new = (tt, (tt, tt)); from_first = tt },
      (nothing_new, record { is_new = (tt, (tt, (tt, (tt, tt)))); from_first = tt }, refl),
    ),
  ),
  refl,
)

-- in(c,=t); in(c,=t); out(c,c): two hypotheses of 8,192 symbols, and the conclusion
pub clause_is_large : IsTranslation (file (Input (name 1) (is_term 12) (Input (name 1) (is_term 12) (Output (name 1) (name 1) Nil)))) (Secret (name 2) 0) (LargeAt 3)
clause_is_large = (
  TooLarge 3,
  (
    nothing_new,
    record { is_new = tt; from_first = tt },
    (nothing_new, record { is_new = (tt, (tt, tt)); from_first = tt }, refl),
  ),
  refl,
)

-- in(c,(=t,=u,=w,=w)); out(c,c): the raw clause has 16,384 symbols, and its flat part 16,386, one `att` for each part of the tuple
pub flat_part_is_large : IsTranslation (file (Input (name 1) (compares (is_term 12 ∷ is_term 11 ∷ is_term 10 ∷ is_term 10 ∷ [])) (Output (name 1) (name 1) Nil))) (Secret (name 2) 0) (LargeAt 2)
flat_part_is_large = (TooLarge 2, (nothing_new, record { is_new = tt; from_first = tt }, refl), refl)

its_size : clause_size (clause (Att 0 (node (terms.Tuple 4) (doubled 12 ∷ doubled 11 ∷ doubled 10 ∷ doubled 10 ∷ [])) ∷ []) (Att 0 (free 1))) ≡ 16384
its_size = refl

-- Two rules: d(x) -> x and d(x) -> g(x,x,x).
abbrev tripled_rule : Rule
tripled_rule = record { left = variable 1 ∷ []; right = apply 2 (variable 1 ∷ variable 1 ∷ variable 1 ∷ []) }

-- free c. private free s. fun h/2. fun g/3. reduc d(x) -> x; d(x) -> g(x,x,x). query attacker(s).
-- process let y = d(t) in out(c,(y,y,y))
abbrev two_choices : Protocol
two_choices = record {
  frees = public_name 99 ∷ private_name 115 ∷ [];
  constructors = constructor_of 104 2 ∷ constructor_of 103 3 ∷ [];
  destructors = record { word = 100 ∷ []; rules = same_rule ∷ tripled_rule ∷ [] } ∷ [];
  events = [];
  tables = [];
  queries = Secret (name 2) 0 ∷ [];
  main = Let (Leaf (Bind 1)) (call 1 (written 12 ∷ [])) (Output (name 1) (node Tuple (variable 1 ∷ variable 1 ∷ variable 1 ∷ [])) Nil) Nil;
}

abbrev tripled : Term
tripled = node (Ctor 2) (doubled 12 ∷ doubled 12 ∷ doubled 12 ∷ [])

abbrev same_choice : Choice
same_choice = ruled_choice two_choices first_visit (Leaf (Bind 1)) (ruled_call same_rule (written 12 ∷ [])) 0 next_variable

abbrev tripled_choice : Choice
tripled_choice = ruled_choice two_choices first_visit (Leaf (Bind 1)) (ruled_call tripled_rule (written 12 ∷ [])) 0 next_variable

module _ (r : Subst) where
  same_most : IsUnified (choice_under r same_choice) → (n : ℕ) → after r (two_terms (doubled 12) (doubled 12)) n ≡ r n
  same_most e zero = ap first_of e.0
  same_most e (suc zero) = ap first_of e.0 ∙ e.1
  same_most e (suc (suc n)) = refl

  tripled_most : IsUnified (choice_under r tripled_choice) → (n : ℕ) → after r (two_terms (doubled 12) tripled) n ≡ r n
  tripled_most e zero = ap first_of e.0
  tripled_most e (suc zero) = let first = ap first_of e.0 in (λ i. node (Ctor 2) (first i ∷ first i ∷ first i ∷ [])) ∙ e.1
  tripled_most e (suc (suc n)) = refl

same_goes : ChoiceGoesOn two_choices first_visit (Leaf (Bind 1)) (ruled_call same_rule (written 12 ∷ [])) (Some (with_value (doubled 12)))
same_goes = record {
  base = 0;
  at = next_variable;
  is_new = tt;
  is_apart = ((omega arith, tt), (tt, ((omega arith, tt), tt)));
  is_fresh = record { is_new = tt; from_first = (omega arith, tt) };
  goes_on = (two_terms (doubled 12) (doubled 12), record { accepted = (refl, refl); most = λ r e. (r, same_most r e) }, refl);
}

tripled_goes : ChoiceGoesOn two_choices first_visit (Leaf (Bind 1)) (ruled_call tripled_rule (written 12 ∷ [])) (Some (with_value tripled))
tripled_goes = record {
  base = 0;
  at = next_variable;
  is_new = tt;
  is_apart = ((omega arith, (omega arith, (omega arith, tt))), (tt, ((omega arith, tt), tt)));
  is_fresh = record { is_new = tt; from_first = (omega arith, tt) };
  goes_on = (two_terms (doubled 12) tripled, record { accepted = (refl, refl); most = λ r e. (r, tripled_most r e) }, refl);
}

-- The second choice is large, which is found at the `let`, before the output of the first, which is large too.
pub choice_is_large : IsTranslation two_choices (Secret (name 2) 0) (LargeAt 1)
choice_is_large = (
  TooLarge 1,
  (
    Some (with_value (doubled 12)) ∷ Some (with_value tripled) ∷ [],
    (Some (with_value (doubled 12)), Some (with_value tripled) ∷ [], same_goes, (Some (with_value tripled), [], tripled_goes, refl, refl), refl),
    refl,
  ),
  refl,
)

-- Processes of as many points as a binary tree of this depth.
abbrev tree : ℕ → Process
tree zero = Nil
tree (suc depth) = Parallel (tree depth) (tree depth)

abbrev lefts : ℕ → ℕ → ℕ
lefts zero rest = suc rest
lefts (suc depth) rest = suc (lefts depth (lefts depth rest))

lefts_add : (depth rest : ℕ) → lefts depth rest ≡ weight depth + rest
lefts_add zero rest = omega arith
lefts_add (suc depth) rest = omega (arith, lefts_add depth (lefts depth rest), lefts_add depth rest)

tree_points : (depth : ℕ) → length (nodes (tree depth)) ≡ weight depth
tree_points zero = refl
tree_points (suc depth) = omega (arith, tree_points depth, length-append (nodes (tree depth)) (nodes (tree depth)))

-- they name no phase
tree_first : (depth : ℕ) → greatest_phase (tree depth) ≡ 0
tree_first zero = refl
tree_first (suc depth) = let e = tree_first depth in λ i. max (e i) (e i)

tree_visited : (P : Protocol) (depth point : ℕ) (v : Visit) (rest : ℕ) → Visited P (tree depth) point v (lefts depth rest) (Done [] rest)
tree_visited P zero point v rest = refl
tree_visited P (suc depth) point v rest = (
  Done [] (lefts depth rest),
  tree_visited P depth (point + 1) v (lefts depth rest),
  (Done [] rest, tree_visited P depth (point_after (point + 1) (tree depth)) v rest, refl),
)

all_but_one : (P : Protocol) (depth point : ℕ) (v : Visit) → weight depth ≡ 65535 → Visited P (tree depth) point v 65535 (Done [] 0)
all_but_one P depth point v e =
    let same : lefts depth 0 ≡ 65535 = omega (arith, lefts_add depth 0) in
    subst (λ n. Visited P (tree depth) point v n (Done [] 0)) same (tree_visited P depth point v 0)

-- the depth at which there are so many points
fifteen : weight 15 ≡ 65535
fifteen = refl

-- A process of 65,536 points is visited whole.
pub most_visits_fit : (depth : ℕ) → weight depth ≡ 65535 → IsTranslation (file (Replication (tree depth))) (Secret (name 2) 0) (Clauses (
    clause [] (Att 0 (free 1)) ∷ own_names
    ∷ clause (Att 0 (x 0) ∷ Att 0 (x 1) ∷ []) (Att 0 (node (Ctor 1) (x 0 ∷ x 1 ∷ [])))
    ∷ hears ∷ says
    ∷ clause (Att 0 (free 2) ∷ []) (Bad []) ∷ []))
most_visits_fit depth e =
    let P = file (Replication (tree depth)) in
    let later = λ (greatest : ℕ). Clauses (flat_map norms (filter_map name_known (enumerate_from 1 P.frees) ++ (fresh_known ∷ (done_in P 0 ++ done_after P 0 greatest))) ++ goal_clauses P (Secret (name 2) 0)) in
    (Done [] 0, (0, tt, all_but_one P depth 2 (after_copy first_visit 0) e), ap later (sym (tree_first depth)))

-- One more point is large.
pub one_visit_more_is_large : (depth : ℕ) → weight depth ≡ 65535 → IsTranslation (file (Parallel (tree depth) Nil)) (Secret (name 2) 0) (LargeAt 65537)
one_visit_more_is_large depth e =
    let at : point_after 2 (tree depth) ≡ 65537 = omega (arith, tree_points depth) in (
      TooLarge (point_after 2 (tree depth)),
      (Done [] 0, all_but_one (file (Parallel (tree depth) Nil)) depth 2 first_visit e, (TooLarge (point_after 2 (tree depth)), refl, refl)),
      ap LargeAt (sym at),
    )
