-- New variables: a substitution of a visit is extended to them, whatever numbers they have.
use Rattle.std.proofs.Common.{◌≡◌, ◌∙◌, ℕ, ◌+◌, ◌-◌, ◌<◌, ◌≤◌, true, false, cond, nat_lt, List, [], ◌∷◌, ◌++◌, map, filter_map, refl, ap, sym, arith}
use Rattle.std.specs.List.{AllByRecursion}
use Rattle.std.proofs.lemmas.Bool.Decides.{nat_tests}
use Rattle.std.proofs.lemmas.List.{map-append}
use Rattle.spec_trees.specs.Tree.{Tree, Leaf, bind, node, trees}
use Rattle.spec_trees.proofs.Rows.{bind-node}
use Rattle.spec_calculus.specs.Syntax.{Name, Made, Variable, Symbol, Tuple, Hole, Bind, Equal, Pattern, EventTerm, Protocol}
use Rattle.spec_calculus.specs.Syntax as calculus
use Rattle.spec_calculus.specs.Tables.{row_pattern}
use Rattle.spec_terms.specs.Term.{Point, Term, Subst}
use Rattle.spec_clauses.specs.Fact.{Tab, Mev, fact_under}
use Rattle.spec_clauses.specs.Diff.{diff_under}
use Rattle.spec_clauses.specs.Variables.{leaves, AreBelow}
use Rattle.spec_translation.specs.Conversion.{Scope, converted, converted_row, term_in, name_term, Fresh, fresh_leaf, hole_term, pattern_term, bound_number, hole_standing, pattern_scope}
use Rattle.spec_translation.specs.Visit.{Visit, standing_under, visit_under, visit_terms, is_public_channel, sent, IsFresh, after_input, after_copy, after_new, event_terms, after_event, after_entry}
use Rattle.spec_translation.proofs.Conversions.{converted-bind, converted-same, below_root, below_tuple, term_in-under, terms_in-under, sent-under}
use Rattle.spec_translation.proofs.Visits.{visit_agree}
use Rattle.spec_translation.proofs.Applied.{items_of-binds}

-- the substitution s below n, and from n on what r has for the variables counted from there
abbrev pub mixed : ℕ → Subst → (ℕ → Term) → Subst
mixed n s r x = cond (nat_lt x n) (s x) (r (x - n))

pub mixed_below : (n : ℕ) (s : Subst) (r : ℕ → Term) (x : ℕ) → x < n → mixed n s r x ≡ s x
mixed_below n s r x h = let e : nat_lt x n ≡ true = grind (arith, nat_tests) in rw e refl

pub mixed_from : (n : ℕ) (s : Subst) (r : ℕ → Term) (d : ℕ) → mixed n s r (n + d) ≡ r d
mixed_from n s r d =
    let e : nat_lt (n + d) n ≡ false = grind (arith, nat_tests) in
    let f : n + d - n ≡ d = omega arith in rw e (ap r f)

-- s, with the new variables of a pattern at other numbers
abbrev pub extended : Subst → Fresh → Fresh → Subst
extended s at to = mixed at.base s (λ d. fresh_leaf to (d + at.first))

pub extended_below : (s : Subst) (at to : Fresh) (x : ℕ) → x < at.base → extended s at to x ≡ s x
extended_below s at to x h = mixed_below at.base s (λ d. fresh_leaf to (d + at.first)) x h

pub fresh_moved : (s : Subst) (at to : Fresh) (n : ℕ) → at.first ≤ n → bind (extended s at to) (fresh_leaf at n) ≡ fresh_leaf to n
fresh_moved s at to n h =
    let e : n - at.first + at.first ≡ n = omega (arith, h) in
    mixed_from at.base s (λ d. fresh_leaf to (d + at.first)) (n - at.first) ∙ ap (fresh_leaf to) e

-- what a pattern binds stands for the new variables
pub pattern_scope_moved : (s : Subst) (at to : Fresh) (holes : List Hole) → AllByRecursion (λ n. at.first ≤ n) (filter_map bound_number holes) → map (standing_under (extended s at to)) (filter_map (hole_standing at) holes) ≡ filter_map (hole_standing to) holes
pattern_scope_moved s at to [] a = refl
pattern_scope_moved s at to (Bind n ∷ holes) a =
    let first = fresh_moved s at to n a.0 in
    let others = pattern_scope_moved s at to holes a.1 in λ i. record { name = Variable n; term = first i } ∷ others i
pattern_scope_moved s at to (Equal term ∷ holes) a = pattern_scope_moved s at to holes a

-- and so does the pattern's term
module _ (P : Protocol) (s : Subst) (at to : Fresh) (scope : Scope) (same : map (standing_under (extended s at to)) scope ≡ map (standing_under s) scope) where
  holes_moved : (holes : List Hole) → AllByRecursion (λ n. at.first ≤ n) (filter_map bound_number holes) → AllByRecursion (λ h. bind (extended s at to) (hole_term P scope at h) ≡ hole_term P (map (standing_under s) scope) to h) holes
  holes_moved [] a = tt
  holes_moved (Bind n ∷ holes) a = (fresh_moved s at to n a.0, holes_moved holes a.1)
  holes_moved (Equal term ∷ holes) a = (
    sym (term_in-under P (extended s at to) scope term) ∙ ap (λ sc. term_in P sc term) same,
    holes_moved holes a,
  )

  pub pattern_term_moved : (pattern : Pattern) → AllByRecursion (λ n. at.first ≤ n) (filter_map bound_number (leaves pattern)) → bind (extended s at to) (pattern_term P scope at pattern) ≡ pattern_term P (map (standing_under s) scope) to pattern
  pattern_term_moved pattern a =
      converted-bind P (extended s at to) (hole_term P scope at) pattern
      ∙ converted-same P (λ h. bind (extended s at to) (hole_term P scope at h)) (hole_term P (map (standing_under s) scope) to) pattern (holes_moved (leaves pattern) a)

-- a visit is as under s: its variables are below the new ones
pub visit_extended : (s : Subst) (v : Visit) (pattern : Pattern) (at to : Fresh) → IsFresh v pattern at → visit_under (extended s at to) v ≡ visit_under s v
visit_extended s v pattern at to fresh = visit_agree (extended s at to) s at.base (extended_below s at to) v fresh.is_new

-- the scope with what a pattern binds
pub scope_extended : (s : Subst) (v : Visit) (pattern : Pattern) (at to : Fresh) → IsFresh v pattern at → map (standing_under (extended s at to)) (v.scope ++ pattern_scope at pattern) ≡ map (standing_under s) v.scope ++ pattern_scope to pattern
scope_extended s v pattern at to fresh =
    let same = visit_extended s v pattern at to fresh in
    let moved = pattern_scope_moved s at to (leaves pattern) fresh.from_first in
    map-append (standing_under (extended s at to)) v.scope (pattern_scope at pattern) ∙ (λ i. (same i).scope ++ moved i)

-- the visit below an input
pub after_input-under : (P : Protocol) (s : Subst) (v : Visit) (channel : calculus.Term) (pattern : Pattern) (at to : Fresh) → is_public_channel P (bind s (term_in P v.scope channel)) ≡ is_public_channel P (term_in P v.scope channel) → IsFresh v pattern at → visit_under (extended s at to) (after_input P v channel pattern at) ≡ after_input P (visit_under s v) channel pattern to
after_input-under P s v channel pattern at to public fresh =
    let r = extended s at to in
    let same = visit_extended s v pattern at to fresh in
    let scopes = scope_extended s v pattern at to fresh in
    let message = pattern_term_moved P s at to v.scope (λ i. (same i).scope) pattern fresh.from_first in
    let there : bind r (term_in P v.scope channel) ≡ term_in P (map (standing_under s) v.scope) channel =
    sym (term_in-under P r v.scope channel) ∙ (λ i. term_in P (same i).scope channel) in
    let agreed : bind r (term_in P v.scope channel) ≡ bind s (term_in P v.scope channel) = there ∙ term_in-under P s v.scope channel in
    let fact = sent-under P r v.phase (term_in P v.scope channel) (pattern_term P v.scope at pattern) (ap (is_public_channel P) agreed ∙ public) ∙ (λ i. sent P v.phase (there i) (message i)) in
    let facts = map-append (fact_under r) v.hypotheses (sent P v.phase (term_in P v.scope channel) (pattern_term P v.scope at pattern) ∷ []) ∙ (λ i. (same i).hypotheses ++ fact i ∷ []) in
    let messages = map-append (bind r) v.messages (pattern_term P v.scope at pattern ∷ []) ∙ (λ i. (same i).messages ++ message i ∷ []) in
    λ i. record { scope = scopes i; hypotheses = facts i; diffs = (same i).diffs; messages = messages i; sessions = (same i).sessions; phase = v.phase }

-- the visit below a replication
pub after_copy-under : (s : Subst) (v : Visit) (n m : ℕ) → AreBelow n (visit_terms v) → visit_under (mixed n s (λ d. Leaf m)) (after_copy v n) ≡ after_copy (visit_under s v) m
after_copy-under s v n m new =
    let r = mixed n s (λ d. Leaf m) in
    let same = visit_agree r s n (mixed_below n s (λ d. Leaf m)) v new in
    let e : n + 0 ≡ n = omega arith in
    let last : bind r (Leaf n) ≡ Leaf m = ap r (sym e) ∙ mixed_from n s (λ d. Leaf m) 0 in
    let sessions = map-append (bind r) v.sessions (Leaf n ∷ []) ∙ (λ i. (same i).sessions ++ last i ∷ []) in
    λ i. record { scope = (same i).scope; hypotheses = (same i).hypotheses; diffs = (same i).diffs; messages = (same i).messages; sessions = sessions i; phase = v.phase }

-- the visit below a restriction
pub after_new-under : (s : Subst) (v : Visit) (point : ℕ) → visit_under s (after_new v point) ≡ after_new (visit_under s v) point
after_new-under s v point =
    let name : bind s (name_term point v.messages v.sessions) ≡ name_term point (map (bind s) v.messages) (map (bind s) v.sessions) =
    bind-node s (Point point) (v.messages ++ v.sessions) ∙ ap (node (Point point)) (map-append (bind s) v.messages v.sessions) in
    let scopes = map-append (standing_under s) v.scope (record { name = Made point; term = name_term point v.messages v.sessions } ∷ [])
    ∙ (λ i. map (standing_under s) v.scope ++ record { name = Made point; term = name i } ∷ []) in
    λ i. record { scope = scopes i; hypotheses = map (fact_under s) v.hypotheses; diffs = map (diff_under s) v.diffs; messages = map (bind s) v.messages; sessions = map (bind s) v.sessions; phase = v.phase }

-- the visit below an event
pub after_event-under : (P : Protocol) (s : Subst) (v : Visit) (e : EventTerm) → visit_under s (after_event P v e) ≡ after_event P (visit_under s v) e
after_event-under P s v e =
    let terms = sym (terms_in-under P s v.scope e.arguments) in
    let facts = map-append (fact_under s) v.hypotheses (Mev e.event (event_terms P v e) ∷ []) ∙ (λ i. map (fact_under s) v.hypotheses ++ Mev e.event (terms i) ∷ []) in
    λ i. record { scope = map (standing_under s) v.scope; hypotheses = facts i; diffs = map (diff_under s) v.diffs; messages = map (bind s) v.messages; sessions = map (bind s) v.sessions; phase = v.phase }

-- the terms of trees in a row are moved as that of their tuple is
pub row_under : (P : Protocol) {L M : Type 0} (leaf : L → Term) (other : M → Term) (s : Subst) (ts : List (Tree L Symbol)) (us : List (Tree M Symbol)) → bind s (converted P leaf (node Tuple ts)) ≡ converted P other (node Tuple us) → map (bind s) (map (converted P leaf) ts) ≡ map (converted P other) us
row_under P leaf other s ts us e =
    sym (ap (map (bind s)) (below_tuple P leaf ts))
    ∙ (items_of-binds s (converted_row P leaf (trees ts)) ∙ (ap below_root e ∙ below_tuple P other us))

-- the visit below a `get`
pub after_entry-under : (P : Protocol) (s : Subst) (v : Visit) (table : ℕ) (patterns : List Pattern) (at to : Fresh) → IsFresh v (row_pattern patterns) at → visit_under (extended s at to) (after_entry P v table patterns at) ≡ after_entry P (visit_under s v) table patterns to
after_entry-under P s v table patterns at to fresh =
    let r = extended s at to in
    let same = visit_extended s v (row_pattern patterns) at to fresh in
    let scopes = scope_extended s v (row_pattern patterns) at to fresh in
    let terms = map (pattern_term P v.scope at) patterns in
    let moved = row_under P (hole_term P v.scope at) (hole_term P (map (standing_under s) v.scope) to) r patterns patterns
    (pattern_term_moved P s at to v.scope (λ i. (same i).scope) (row_pattern patterns) fresh.from_first) in
    let facts = map-append (fact_under r) v.hypotheses (Tab table terms ∷ []) ∙ (λ i. (same i).hypotheses ++ Tab table (moved i) ∷ []) in
    let messages = map-append (bind r) v.messages terms ∙ (λ i. (same i).messages ++ moved i) in
    λ i. record { scope = scopes i; hypotheses = facts i; diffs = (same i).diffs; messages = messages i; sessions = (same i).sessions; phase = v.phase }
