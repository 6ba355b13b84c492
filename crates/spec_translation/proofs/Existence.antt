-- A protocol and a query have a translation: variables that are new are there, unification is decided, and each course has an end.
use Rattle.std.proofs.Common.{◌≡◌, ◌⊎◌, ℕ, zero, suc, ◌+◌, ◌≤◌, Bool, true, false, ◌||◌, Option, Some, None, List, [], ◌∷◌, ◌++◌, map, refl, inl, inr, arith}
use Rattle.std.specs.List.{AllByRecursion}
use Rattle.spec_calculus.specs.Syntax.{Process, Nil, Output, Input, Parallel, Replication, New, Let, Event, Phase, Insert, Get, Pattern, Expression, Ruled, Condition, Query, Protocol}
use Rattle.spec_calculus.specs.Points.{point_after}
use Rattle.spec_calculus.specs.Choices.{choices}
use Rattle.spec_calculus.specs.Tables.{row_pattern}
use Rattle.spec_calculus.specs.Bounds.{most_visits}
use Rattle.spec_trees.specs.Tree.{node, bind}
use Rattle.spec_terms.specs.Term.{Attacker, Term, Subst}
use Rattle.spec_terms.specs.Unifier.{Unifies, UnifiesAll, IsMgu}
use Rattle.spec_terms.proofs.Decision.{unification_decided}
use Rattle.spec_terms.proofs.Equations.{all_unified}
use Rattle.spec_clauses.specs.Fact.{Bad, Tab, Ev, Clause, clause_terms}
use Rattle.spec_clauses.specs.Variables.{IsBelow, AreBelow}
use Rattle.spec_clauses.specs.Norm.{norms}
use Rattle.spec_clauses.specs.Limits.{is_large_raw}
use Rattle.spec_clauses.proofs.Lists.{all_first, all_second}
use Rattle.spec_clauses.proofs.Answers.{an_offset}
use Rattle.spec_translation.specs.Conversion.{term_in, Fresh, bound_numbers}
use Rattle.spec_translation.specs.Visit.{Visit, first_visit, visit_terms, visit_under, is_large_visit, evaluates_large, sent, raw_clause, IsFresh, after_input, after_copy, after_new, event_terms, after_event, after_phase, written_terms}
use Rattle.spec_translation.specs.Choice.{Choice, choice_under, IsUnified, ruled_choice, ruled_terms, GoesOn, ChoiceGoesOn, EachGoesOn, AllGoOn, entry_choice, has_large_side, EntryGoesOn}
use Rattle.spec_translation.specs.Otherwise.{otherwise_visit}
use Rattle.spec_translation.specs.Course.{Outcome, Done, TooLarge, Course, Finished, Counted, Unless, preceded, After, Then, Adds}
use Rattle.spec_translation.specs.Visited.{some_large, EachThen, Copied, Received, Chosen, Fetched, Visited}
use Rattle.spec_translation.specs.Translation.{Translated, whole, IsTranslation}

-- a number above all variables of terms
pub above_terms : (ts : List Term) → (n : ℕ) × AreBelow n ts
above_terms ts =
    let c : Clause Term = record { hypotheses = []; diffs = []; conclusion = Bad ts } in
    let (n, below) = an_offset c in (n, all_first (IsBelow n) ts [] (all_first (IsBelow n) (clause_terms c) [] below))

pub from_zero : (xs : List ℕ) → AllByRecursion (λ i. 0 ≤ i) xs
from_zero [] = tt
from_zero (x ∷ xs) = (omega arith, from_zero xs)

-- variables that are new for a pattern
new_variables : (v : Visit) (pattern : Pattern) → (at : Fresh) × IsFresh v pattern at
new_variables v pattern =
    let (n, below) = above_terms (visit_terms v) in
    let at : Fresh = record { base = n; first = 0 } in
    (at, record { is_new = below; from_first = from_zero (bound_numbers pattern) })

-- The equations of a choice are one list of equations, so something comes of their unification.
pub choice_goes : (c : Choice) → (out : Option Visit) × GoesOn c out
choice_goes c = go (unification_decided (node Attacker (c.value ∷ c.arguments)) (node Attacker (c.target ∷ c.sides))) where
  to_one : (s : Subst) → IsUnified (choice_under s c) → Unifies s (node Attacker (c.value ∷ c.arguments)) (node Attacker (c.target ∷ c.sides))
  to_one s h =
      let all : UnifiesAll s (c.value ∷ c.arguments) (c.target ∷ c.sides) = λ i. h.1 i ∷ h.0 i in
      (all_unified s Attacker (c.value ∷ c.arguments) (c.target ∷ c.sides)).0 all

  from_one : (s : Subst) → Unifies s (node Attacker (c.value ∷ c.arguments)) (node Attacker (c.target ∷ c.sides)) → IsUnified (choice_under s c)
  from_one s e =
      let all : UnifiesAll s (c.value ∷ c.arguments) (c.target ∷ c.sides) = (all_unified s Attacker (c.value ∷ c.arguments) (c.target ∷ c.sides)).1 e in
      let values : bind s c.value ≡ bind s c.target = cc in
      let rows : map (bind s) c.arguments ≡ map (bind s) c.sides = cc in
      (rows, values)

  go : ((s : Subst) × IsMgu (node Attacker (c.value ∷ c.arguments)) (node Attacker (c.target ∷ c.sides)) s) ⊎ ((s : Subst) → Unifies s (node Attacker (c.value ∷ c.arguments)) (node Attacker (c.target ∷ c.sides)) → ⊥) → (out : Option Visit) × GoesOn c out
  go (inl h) = (Some (visit_under h.0 c.visit), (h.0, record { accepted = from_one h.0 h.1.accepted; most = λ r e. h.1.most r (to_one r e) }, refl))
  go (inr never) = (None, λ s e. never s (to_one s e))

-- each way of a `let` goes on or ends
module _ (P : Protocol) (v : Visit) (pattern : Pattern) where
  ruled_goes : (ruled : Ruled) → (out : Option Visit) × ChoiceGoesOn P v pattern ruled out
  ruled_goes ruled =
      let (base, new) = above_terms (visit_terms v) in
      let terms = ruled_terms (ruled_choice P v pattern ruled base (record { base = 0; first = 0 })) in
      let (n, below) = above_terms (visit_terms v ++ terms) in
      let at : Fresh = record { base = n; first = 0 } in
      let (out, goes) = choice_goes (ruled_choice P v pattern ruled base at) in (
        out,
        record {
          base = base;
          at = at;
          is_new = new;
          is_apart = all_second (IsBelow n) (visit_terms v) terms below;
          is_fresh = record { is_new = all_first (IsBelow n) (visit_terms v) terms below; from_first = from_zero (bound_numbers pattern) };
          goes_on = goes;
        },
      )

  each_goes : (rs : List Ruled) → (outs : List (Option Visit)) × EachGoesOn P v pattern rs outs
  each_goes [] = ([], refl)
  each_goes (ruled ∷ rs) =
      let (out, first) = ruled_goes ruled in
      let (outs, others) = each_goes rs in (out ∷ outs, (out, outs, first, others, refl))

  all_go : (expression : Expression) → (outs : List (Option Visit)) × AllGoOn P v pattern expression outs
  all_go expression = each_goes (map (λ c. c.ruled) (choices P expression))

-- and so does a `get` with an entry
entry_goes : (P : Protocol) (v : Visit) (table : ℕ) (patterns : List Pattern) (condition : Condition) → (large : Bool) × (out : Option Visit) × EntryGoesOn P v table patterns condition large out
entry_goes P v table patterns condition =
    let (at, fresh) = new_variables v (row_pattern patterns) in
    let choice = entry_choice P v table patterns condition at in
    let (out, goes) = choice_goes choice in (has_large_side choice, out, record { at = at; is_fresh = fresh; is_large = refl; goes_on = goes })

-- from each number of visits left the course has an outcome
abbrev HasEnds : Course → Type 0
HasEnds R = (left : ℕ) → (out : Outcome) × R left out

finished_ends : HasEnds Finished
finished_ends left = (Done [] left, refl)

counted_ends : (point : ℕ) (R : Course) → HasEnds R → HasEnds (Counted point R)
counted_ends point R ends zero = (TooLarge point, refl)
counted_ends point R ends (suc left) = ends left

unless_ends : (b : Bool) (point : ℕ) (R : Course) → HasEnds R → HasEnds (Unless b point R)
unless_ends true point R ends left = (TooLarge point, refl)
unless_ends false point R ends left = ends left

after_ends : (first : Outcome) (R : Course) → HasEnds R → (out : Outcome) × After first R out
after_ends (Done clauses left) R ends = let (rest, r) = ends left in (preceded clauses rest, (rest, r, refl))
after_ends (TooLarge point) R ends = (TooLarge point, refl)

then_ends : (R S : Course) → HasEnds R → HasEnds S → HasEnds (Then R S)
then_ends R S first second left =
    let (middle, r) = first left in let (out, s) = after_ends middle S second in (out, (middle, r, s))

adds_ends : (clauses : List (Clause Term)) (R : Course) → HasEnds R → HasEnds (Adds clauses R)
adds_ends clauses R ends left = after_ends (Done clauses left) R ends

each_ends : (R : Visit → ℕ → Outcome → Type 0) (last : Course) → ((v : Visit) → HasEnds (R v)) → HasEnds last → (outs : List (Option Visit)) → HasEnds (EachThen R outs last)
each_ends R last each ends [] = ends
each_ends R last each ends (None ∷ outs) = each_ends R last each ends outs
each_ends R last each ends (Some v ∷ outs) = then_ends (R v) (EachThen R outs last) (each v) (each_ends R last each ends outs)

-- the visits of a process have an outcome
visited_ends : (P : Protocol) (process : Process) (point : ℕ) (v : Visit) → HasEnds (Visited P process point v)
visited_ends P Nil point v = counted_ends point Finished finished_ends
visited_ends P (Output channel message next) point v =
    let raw = raw_clause v (sent P v.phase (term_in P v.scope channel) (term_in P v.scope message)) in
    let large = evaluates_large P v (Output channel message next) || is_large_raw raw in
    let R = Adds (norms raw) (Visited P next (point + 1) v) in
    counted_ends point (Unless large point R) (unless_ends large point R (adds_ends (norms raw) (Visited P next (point + 1) v) (visited_ends P next (point + 1) v)))
visited_ends P (Input channel pattern next) point v =
    let R = Received P v channel pattern (λ w. Unless (is_large_visit w) point (Visited P next (point + 1) w)) in
    let large = evaluates_large P v (Input channel pattern next) in
    let new = new_variables v pattern in
    let w = after_input P v channel pattern new.0 in
    let below = unless_ends (is_large_visit w) point (Visited P next (point + 1) w) (visited_ends P next (point + 1) w) in
    counted_ends point (Unless large point R) (unless_ends large point R (λ left. let end = below left in (end.0, (new.0, new.1, end.1))))
visited_ends P (Parallel left right) point v =
    let R = Visited P left (point + 1) v in
    let S = Visited P right (point_after (point + 1) left) v in
    counted_ends point (Then R S) (then_ends R S (visited_ends P left (point + 1) v) (visited_ends P right (point_after (point + 1) left) v))
visited_ends P (Replication copied) point v =
    let R = Copied v (λ w. Visited P copied (point + 1) w) in
    let new = above_terms (visit_terms v) in
    let below = visited_ends P copied (point + 1) (after_copy v new.0) in
    counted_ends point R (λ left. let end = below left in (end.0, (new.0, new.1, end.1)))
visited_ends P (New word next) point v =
    let w = after_new v point in
    let R = Visited P next (point + 1) w in
    counted_ends point (Unless (is_large_visit w) point R) (unless_ends (is_large_visit w) point R (visited_ends P next (point + 1) w))
visited_ends P (Let pattern expression next otherwise) point v =
    let process = Let pattern expression next otherwise in
    let R = λ (w : Visit). Visited P next (point + 1) w in
    let w_else = otherwise_visit P v pattern expression in
    let T = Visited P otherwise (point_after (point + 1) next) w_else in
    let C = Chosen P v pattern expression point R T in
    let large = evaluates_large P v process in
    let ways = all_go P v pattern expression in
    let each = each_ends R T (λ w. visited_ends P next (point + 1) w) (visited_ends P otherwise (point_after (point + 1) next) w_else) ways.0 in
    let below = unless_ends (some_large ways.0) point (EachThen R ways.0 T) each in
    counted_ends point (Unless large point C) (unless_ends large point C (λ left. let end = below left in (end.0, (ways.0, ways.1, end.1))))
visited_ends P (Event performed next) point v =
    let raw = raw_clause v (Ev performed.event (event_terms P v performed)) in
    let w = after_event P v performed in
    let large = evaluates_large P v (Event performed next) || (is_large_raw raw || is_large_visit w) in
    let R = Adds (norms raw) (Visited P next (point + 1) w) in
    counted_ends point (Unless large point R) (unless_ends large point R (adds_ends (norms raw) (Visited P next (point + 1) w) (visited_ends P next (point + 1) w)))
visited_ends P (Phase number next) point v =
    let R = Visited P next (point + 1) (after_phase v number) in counted_ends point R (visited_ends P next (point + 1) (after_phase v number))
visited_ends P (Insert table arguments next) point v =
    let raw = raw_clause v (Tab table (written_terms P v arguments)) in
    let large = evaluates_large P v (Insert table arguments next) || is_large_raw raw in
    let R = Adds (norms raw) (Visited P next (point + 1) v) in
    counted_ends point (Unless large point R) (unless_ends large point R (adds_ends (norms raw) (Visited P next (point + 1) v) (visited_ends P next (point + 1) v)))
visited_ends P (Get table patterns condition next otherwise) point v =
    let process = Get table patterns condition next otherwise in
    let R = λ (w : Visit). Visited P next (point + 1) w in
    let T = Visited P otherwise (point_after (point + 1) next) v in
    let C = Fetched P v table patterns condition point R T in
    let large = evaluates_large P v process in
    let way = entry_goes P v table patterns condition in
    let larger = way.0 || some_large (way.1 ∷ []) in
    let each = each_ends R T (λ w. visited_ends P next (point + 1) w) (visited_ends P otherwise (point_after (point + 1) next) v) (way.1 ∷ []) in
    let below = unless_ends larger point (EachThen R (way.1 ∷ []) T) each in
    counted_ends point (Unless large point C) (unless_ends large point C (λ left. let end = below left in (end.0, (way.0, way.1, way.2, end.1))))

-- A protocol and a query have a translation.
pub a_translation : (P : Protocol) (q : Query) → (out : Translated) × IsTranslation P q out
a_translation P q =
    let (outcome, visited) = visited_ends P P.main 1 first_visit most_visits in
    (whole P q outcome, (outcome, visited, refl))
