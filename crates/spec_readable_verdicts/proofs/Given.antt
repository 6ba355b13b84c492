-- The raw clauses of the attacker and of a query's goal are over a well-scoped protocol.
use Rattle.std.proofs.Common.{◌≡◌, ◌∙◌, ℕ, zero, suc, ◌+◌, ◌<◌, ◌≤◌, Bool, true, false, not, ◌&&◌, cond, Option, Some, None, List, [], ◌∷◌, ◌++◌, map, length, refl, ap, sym, subst, arith}
use Rattle.std.specs.Prelude.{flat_map, filter_map, slice_get, unwrap_or}
use Rattle.std.specs.List.{AllByRecursion, cons_option, enumerate_from}
use Rattle.std.proofs.lemmas.List.{length-map}
use Rattle.spec_trees.specs.Tree.{node}
use Rattle.spec_trees.proofs.Equality.{and_true}
use Rattle.spec_calculus.specs.Syntax.{Name, Made, Variable, Process, Nil, Output, Input, Parallel, Replication, New, Let, Event, Phase, Insert, Get, Rule, Declared, Query, Secret, SecretNew, Correspondence, Protocol}
use Rattle.spec_calculus.specs.Syntax as calculus
use Rattle.spec_calculus.specs.Points.{numbered, nodes, is_restriction, name_arguments, greatest_phase}
use Rattle.spec_well_formed.specs.Signature.{signature_of}
use Rattle.spec_well_formed.specs.Rules.{IsVariable}
use Rattle.spec_well_formed.specs.Queries.{IsDeclaredFree, IsFreeOrVariable, HasQueryLeaves, IsRestrictionAt}
use Rattle.spec_well_formed.specs.Limits.{IsWithinLimits}
use Rattle.spec_well_formed.specs.WellFormed.{IsRuleOver, IsQueryOver, IsWellScoped}
use Rattle.spec_terms.specs.Term.{Ctor, Point, Term}
use Rattle.spec_clauses.specs.Fact.{Att, Clause}
use Rattle.spec_clauses.proofs.Lists.{all_append, all-flat_map, all_weaker}
use Rattle.spec_translation.specs.Conversion.{free_term, rule_leaf, rule_term}
use Rattle.spec_translation.specs.Attacker.{variables_from, name_known, fresh_known, constructor_applied, rule_applied, message_heard, message_sent, done_in, kept_known, done_after, attacker_raw}
use Rattle.spec_translation.specs.Goal.{query_leaf, event_variables, arguments_at, goal_raw}
use Rattle.spec_abstraction.proofs.Standing.{levels, level_arguments, levels_count}
use Rattle.spec_saturation.proofs.Places.{numbered_within}
use Rattle.spec_certificate_text.specs.OfProtocol.{IsShort, IsPhase, IsRestriction, IsSymbolOf}
use Rattle.spec_readable_verdicts.proofs.Facts.{IsTermOver, AreTermsOver, IsFactOver, IsClauseOver, zero_phase, node_over, known_over}
use Rattle.spec_readable_verdicts.proofs.Conversion.{there_at, free_over, term_over, terms_over, event_over}

-- each item stands at the number that it is listed with
numbered_items : {X : Type 0} (all xs : List X) (n : ℕ) → ((i : ℕ) (x : X) → slice_get xs i ≡ Some x → numbered all (n + i) ≡ Some x) → AllByRecursion (λ p. numbered all p.0 ≡ Some p.1) (enumerate_from n xs)
numbered_items all [] n each = tt
numbered_items all (x ∷ xs) n each = (
  subst (λ k. numbered all k ≡ Some x) (omega arith) (each 0 x refl),
  numbered_items all xs (n + 1) (λ i y e. subst (λ k. numbered all k ≡ Some y) (omega arith) (each (suc i) y e)),
)

pub enumerated : {X : Type 0} (xs : List X) → AllByRecursion (λ p. numbered xs p.0 ≡ Some p.1) (enumerate_from 1 xs)
enumerated xs = numbered_items xs xs 1 (λ i x e. let same : suc i ≡ 1 + i = omega arith in subst (λ k. numbered xs k ≡ Some x) same e)

-- what holds of what is made of each item that is listed
all_made : {X Y : Type 0} (Q : Y → Type 0) (A : X → Type 0) (h : X → Option Y) → ((x : X) (y : Y) → A x → h x ≡ Some y → Q y) → (xs : List X) → AllByRecursion A xs → AllByRecursion Q (filter_map h xs)
all_made Q A h each [] a = tt
all_made {X} {Y} Q A h each (x ∷ xs) a = go (h x) refl (all_made Q A h each xs a.1) where
  go : (o : Option Y) → h x ≡ o → AllByRecursion Q (filter_map h xs) → AllByRecursion Q (cons_option o (filter_map h xs))
  go None e others = others
  go (Some y) e others = (each x y a.0 e, others)

-- variables in a row
length-variables : (n count : ℕ) → length (variables_from n count) ≡ count
length-variables n zero = refl
length-variables n (suc count) = omega (arith, length-variables (n + 1) count)

variables_over : (P : Protocol) (n count : ℕ) → AreTermsOver P (variables_from n count)
variables_over P n zero = tt
variables_over P n (suc count) = (tt, variables_over P (n + 1) count)

-- a restriction that is asked for
new_node : (node : Process) → is_restriction node ≡ true → (word : List ℕ) × (next : Process) × (node ≡ New word next)
new_node Nil e = cc
new_node (Output channel message next) e = cc
new_node (Input channel pattern next) e = cc
new_node (Parallel left right) e = cc
new_node (Replication copied) e = cc
new_node (New word next) e = (word, next, refl)
new_node (Let pattern expression next otherwise) e = cc
new_node (Event performed next) e = cc
new_node (Phase number next) e = cc
new_node (Insert table arguments next) e = cc
new_node (Get table patterns condition next otherwise) e = cc

count_at : (xs : List ℕ) (n : ℕ) → 0 < n → n ≤ length xs → numbered xs n ≡ Some (unwrap_or (numbered xs n) 0)
count_at xs zero some few = absurd (omega (arith, some))
count_at xs (suc k) some few = let found = there_at xs k (omega (arith, few)) in found.1 ∙ ap (λ o. Some (unwrap_or o 0)) (sym found.1)

pub points_alike : (main : Process) → length (name_arguments 0 main) ≡ length (nodes main)
points_alike main = sym (ap length (level_arguments 0 main)) ∙ (length-map (levels 0 main) (λ l. l.above) ∙ levels_count 0 main)

restriction_asked : (P : Protocol) (point : ℕ) → IsRestrictionAt P.main point → IsRestriction P point (arguments_at P point)
restriction_asked P point at =
    let (word, next, is) = new_node at.node at.restricts in
    let within = numbered_within (nodes P.main) point at.node at.stands in record {
      word = word;
      next = next;
      there = at.stands ∙ ap Some is;
      arity = count_at (name_arguments 0 P.main) point within.0 (omega (arith, within.1, points_alike P.main));
    }

pub point_short : (P : Protocol) → IsWithinLimits P → (point : ℕ) (node : Process) → numbered (nodes P.main) point ≡ Some node → IsShort point
point_short P limits point node at = let within = numbered_within (nodes P.main) point node at in omega (arith, within.1, limits.points)

module _ (P : Protocol) (scoped : IsWellScoped P) where
  name_over : (x : ℕ × Declared) (raw : Clause Term) → numbered P.frees x.0 ≡ Some x.1 → name_known x ≡ Some raw → IsClauseOver P raw
  name_over x raw at e = go x.1.public e where
    made : Clause Term
    made = record { hypotheses = []; diffs = []; conclusion = Att 0 (free_term x.0) }

    go : (b : Bool) → cond b (Some made) None ≡ Some raw → IsClauseOver P raw
    go true k = let same : made ≡ raw = cc in subst (IsClauseOver P) same (record { hypotheses = tt; diffs = tt; conclusion = record { predicate = zero_phase P; terms = (((record { declared = x.1; there = at }, refl), tt), tt) } })
    go false k = cc

  constructor_over : (phase : ℕ) → IsPhase P phase → (x : ℕ × Declared) (raw : Clause Term) → numbered P.constructors x.0 ≡ Some x.1 → constructor_applied phase x ≡ Some raw → IsClauseOver P raw
  constructor_over phase in_phase x raw at e = go (x.1.public && not x.1.is_data) refl e where
    arguments : List Term
    arguments = variables_from 0 x.1.arity

    made : Clause Term
    made = record { hypotheses = map (Att phase) arguments; diffs = []; conclusion = Att phase (node (Ctor x.0) arguments) }

    made_over : x.1.is_data ≡ false → IsClauseOver P made
    made_over plain = record {
      hypotheses = known_over P phase in_phase arguments (variables_over P 0 x.1.arity);
      diffs = tt;
      conclusion = record {
        predicate = in_phase;
        terms = (node_over P (Ctor x.0) arguments (record { declared = x.1; there = at; data_is = plain; arity = sym (length-variables 0 x.1.arity) }) (variables_over P 0 x.1.arity), tt);
      };
    }

    no_data : (b : Bool) → not b ≡ true → b ≡ false
    no_data true k = cc
    no_data false k = refl

    go : (b : Bool) → (x.1.public && not x.1.is_data) ≡ b → cond b (Some made) None ≡ Some raw → IsClauseOver P raw
    go true is k = let same : made ≡ raw = cc in subst (IsClauseOver P) same (made_over (no_data x.1.is_data (and_true x.1.public (not x.1.is_data) is).1))
    go false is k = cc

  pub rule_leaf_over : (base : ℕ) (x : Name) → IsVariable x → IsTermOver P (rule_leaf base x)
  rule_leaf_over base (calculus.Free n) h = absurd h
  rule_leaf_over base (Made p) h = absurd h
  rule_leaf_over base (Variable i) h = tt

  known_terms : (phase : ℕ) → IsPhase P phase → (ts : List calculus.Term) → AreTermsOver P (map (rule_term P 0) ts) → AllByRecursion (IsFactOver P) (map (λ t. Att phase (rule_term P 0 t)) ts)
  known_terms phase is [] h = tt
  known_terms phase is (t ∷ ts) h = (record { predicate = is; terms = (h.0, tt) }, known_terms phase is ts h.1)

  rule_over : (phase : ℕ) → IsPhase P phase → (rule : Rule) → IsRuleOver (signature_of P) rule → IsClauseOver P (rule_applied P phase rule)
  rule_over phase is rule h = record {
    hypotheses = known_terms phase is rule.left (terms_over P (rule_leaf 0) IsVariable (rule_leaf_over 0) rule.left h.left);
    diffs = tt;
    conclusion = record { predicate = is; terms = (term_over P (rule_leaf 0) IsVariable (rule_leaf_over 0) rule.right h.right, tt) };
  }

  rules_over : (phase : ℕ) → IsPhase P phase → (rules : List Rule) → AllByRecursion (IsRuleOver (signature_of P)) rules → AllByRecursion (IsClauseOver P) (map (rule_applied P phase) rules)
  rules_over phase is [] h = tt
  rules_over phase is (rule ∷ rules) h = (rule_over phase is rule h.0, rules_over phase is rules h.1)

  fresh_over : IsClauseOver P fresh_known
  fresh_over = record { hypotheses = tt; diffs = tt; conclusion = record { predicate = zero_phase P; terms = ((refl, (tt, tt)), tt) } }

  heard_over : (phase : ℕ) → IsPhase P phase → IsClauseOver P (message_heard phase)
  heard_over phase is =
      record { hypotheses = (record { predicate = is; terms = (tt, (tt, tt)) }, (record { predicate = is; terms = (tt, tt) }, tt)); diffs = tt; conclusion = record { predicate = is; terms = (tt, tt) } }

  spoken_over : (phase : ℕ) → IsPhase P phase → IsClauseOver P (message_sent phase)
  spoken_over phase is =
      record { hypotheses = (record { predicate = is; terms = (tt, tt) }, (record { predicate = is; terms = (tt, tt) }, tt)); diffs = tt; conclusion = record { predicate = is; terms = (tt, (tt, tt)) } }

  -- the attacker's raw clauses of a phase
  done_over : (phase : ℕ) → IsPhase P phase → AllByRecursion (IsClauseOver P) (done_in P phase)
  done_over phase is =
      let rules = flat_map (λ destructor. map (rule_applied P phase) destructor.rules) P.destructors in
      let last = message_heard phase ∷ message_sent phase ∷ [] in
      let constructors = filter_map (constructor_applied phase) (enumerate_from 1 P.constructors) in
      let behind = all_append (IsClauseOver P) rules last
      (all-flat_map (IsClauseOver P) (λ destructor. map (rule_applied P phase) destructor.rules) P.destructors
      (all_weaker (λ destructor. AllByRecursion (IsRuleOver (signature_of P)) destructor.rules) (λ destructor. AllByRecursion (IsClauseOver P) (map (rule_applied P phase) destructor.rules)) (λ d h. rules_over phase is d.rules h) P.destructors scoped.rules))
      (heard_over phase is, (spoken_over phase is, tt)) in
      all_append (IsClauseOver P) constructors (rules ++ last)
      (all_made (IsClauseOver P) (λ p. numbered P.constructors p.0 ≡ Some p.1) (constructor_applied phase) (constructor_over phase is) (enumerate_from 1 P.constructors) (enumerated P.constructors)) behind

  kept_over : (phase : ℕ) → IsPhase P phase → IsPhase P (phase + 1) → IsClauseOver P (kept_known phase)
  kept_over phase is next = record { hypotheses = (record { predicate = is; terms = (tt, tt) }, tt); diffs = tt; conclusion = record { predicate = next; terms = (tt, tt) } }

  module _ (limits : IsWithinLimits P) where
    pub phase_within : (phase : ℕ) → phase ≤ greatest_phase P.main → IsPhase P phase
    phase_within phase within = (within, omega (arith, within, limits.phases))

    -- and of each later one
    later_over : (phase count : ℕ) → phase + count ≤ greatest_phase P.main → AllByRecursion (IsClauseOver P) (done_after P phase count)
    later_over phase zero within = tt
    later_over phase (suc count) within =
        let next = phase_within (phase + 1) (omega (arith, within)) in
        (kept_over phase (phase_within phase (omega (arith, within))) next, all_append (IsClauseOver P) (done_in P (phase + 1)) (done_after P (phase + 1) count) (done_over (phase + 1) next) (later_over (phase + 1) count (omega (arith, within))))

    pub attacker_over : AllByRecursion (IsClauseOver P) (attacker_raw P)
    attacker_over =
        let phases = greatest_phase P.main in
        all_append (IsClauseOver P) (filter_map name_known (enumerate_from 1 P.frees)) (fresh_known ∷ (done_in P 0 ++ done_after P 0 phases))
        (all_made (IsClauseOver P) (λ p. numbered P.frees p.0 ≡ Some p.1) name_known name_over (enumerate_from 1 P.frees) (enumerated P.frees))
        (fresh_over, all_append (IsClauseOver P) (done_in P 0) (done_after P 0 phases) (done_over 0 (zero_phase P)) (later_over 0 phases (omega arith)))

  -- the goal's raw clause
  query_leaf_over : (x : Name) → IsFreeOrVariable (signature_of P) x → IsTermOver P (query_leaf x)
  query_leaf_over (calculus.Free n) h = free_over P n h
  query_leaf_over (Made p) h = absurd h
  query_leaf_over (Variable i) h = tt

  secret_leaf_over : (x : Name) → IsDeclaredFree (signature_of P) x → IsTermOver P (query_leaf x)
  secret_leaf_over (calculus.Free n) h = free_over P n h
  secret_leaf_over (Made p) h = absurd h
  secret_leaf_over (Variable i) h = absurd h

  variables_known : (is : List ℕ) → AreTermsOver P (map (λ i. query_leaf (Variable i)) is)
  variables_known [] = tt
  variables_known (i ∷ is) = (tt, variables_known is)

  pub goal_over : IsWithinLimits P → (q : Query) → IsQueryOver (signature_of P) q → HasQueryLeaves P q → IsClauseOver P (goal_raw P q)
  goal_over limits (Secret message phase) h leaves = record {
    hypotheses = (record { predicate = phase_within limits phase leaves.1; terms = (term_over P query_leaf (IsDeclaredFree (signature_of P)) secret_leaf_over message h, tt) }, tt);
    diffs = tt;
    conclusion = record { predicate = tt; terms = tt };
  }
  goal_over limits (SecretNew point phase) h leaves =
      let count = arguments_at P point in
      let arguments = variables_from 0 count in
      let there : IsRestriction P point count = restriction_asked P point leaves.0 in
      let symbol : IsSymbolOf P (Point point) (length arguments) = (subst (IsRestriction P point) (sym (length-variables 0 count)) there, point_short P limits point leaves.0.node leaves.0.stands) in record {
        hypotheses = (record { predicate = phase_within limits phase leaves.1; terms = (node_over P (Point point) arguments symbol (variables_over P 0 count), tt) }, tt);
        diffs = tt;
        conclusion = record { predicate = tt; terms = tt };
      }
  goal_over limits (Correspondence left alternatives) h leaves =
      let e = event_over P query_leaf (IsFreeOrVariable (signature_of P)) query_leaf_over left h.0 in record {
        hypotheses = (record { predicate = e.0; terms = e.1 }, tt);
        diffs = tt;
        conclusion = record { predicate = tt; terms = variables_known (event_variables left) };
      }
