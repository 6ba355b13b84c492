-- Within the limits of a protocol the attacker's raw clauses and the goal's are not large.
use Rattle.std.proofs.Common.{◌≡◌, ℕ, zero, suc, ◌+◌, ◌*◌, ◌<◌, ◌≤◌, Bool, true, false, cond, not, ◌&&◌, nat_eq, Option, Some, None, List, [], ◌∷◌, ◌++◌, map, length, refl, ap, subst, arith}
use Rattle.std.specs.Prelude.{flat_map, filter, filter_map, unwrap_or, slice_get}
use Rattle.std.specs.List.{AllByRecursion, cons_option, enumerate_from}
use Rattle.std.proofs.lemmas.List.{length-append}
use Rattle.spec_trees.specs.Tree.{Tree, Trees, Leaf, Node, none, more, trees, node, size, sizes}
use Rattle.spec_calculus.specs.Syntax.{Name, Made, Variable, Symbol, Process, Nil, Output, Input, Parallel, Replication, New, Let, Event, Phase, Insert, Get, Rule, Declared, Destructor, EventTerm, Query, Secret, SecretNew, Correspondence, Protocol}
use Rattle.spec_calculus.specs.Syntax as calculus
use Rattle.spec_calculus.specs.Bounds.{most_arguments, most_points_above, most_symbols}
use Rattle.spec_calculus.specs.Points.{numbered, name_arguments, greatest_phase}
use Rattle.spec_well_formed.specs.Processes.{height, AreSmallEntries}
use Rattle.spec_well_formed.specs.Limits.{IsSmallRule, IsSmallDestructor, IsSmallQuery, IsWithinLimits}
use Rattle.spec_terms.specs.Term.{Ctor, Term}
use Rattle.spec_clauses.specs.Fact.{Att, Clause, total, fact_size, clause_size}
use Rattle.spec_clauses.specs.Variables.{leaves, row_leaves}
use Rattle.spec_clauses.specs.Flat.{flat_parts}
use Rattle.spec_clauses.specs.Norm.{distinct, norms}
use Rattle.spec_clauses.specs.Limits.{is_large_raw, IsWithinLimit}
use Rattle.spec_clauses.specs.Inclusion.{Has}
use Rattle.spec_clauses.proofs.Inclusion.{Has-flat_map_source}
use Rattle.spec_clauses.proofs.Lists.{all_append}
use Rattle.spec_clauses.proofs.Limits.{large_raw-decides, norms-within_limit}
use Rattle.spec_clauses.proofs.FlatSizes.{flat_parts-size}
use Rattle.spec_translation.specs.Conversion.{free_term, converted, converted_row, rule_leaf}
use Rattle.spec_translation.specs.Attacker.{variables_from, name_known, fresh_known, constructor_applied, rule_applied, message_heard, message_sent, done_in, kept_known, done_after, attacker_raw}
use Rattle.spec_translation.specs.Goal.{query_leaf, variable_at, event_variables, arguments_at, goal_raw}
use Rattle.spec_translation.specs.Translation.{Clauses, IsTranslation}
use Rattle.spec_translation.proofs.Goal.{all_at, all_of_each, all_filter_map, each_clause}

-- A clause of half the limit is not large, and nor are its flat parts.
half_is_small : (c : Clause Term) → 2 * clause_size c ≤ most_symbols → is_large_raw c ≡ false
half_is_small c half = (large_raw-decides c).1 (
  (omega arith),
  all_of_each IsWithinLimit (flat_parts c) (λ part h. let fits = flat_parts-size c part h in omega arith),
)

-- what is converted keeps its size where each leaf has one of size 1
module _ (P : Protocol) {L : Type 0} (leaf : L → Term) (one : (x : L) → size (leaf x) ≡ 1) where
  mutual
    converted-size : (t : Tree L Symbol) → size (converted P leaf t) ≡ size t
    converted-size (Leaf x) = one x
    converted-size (Node f ts) = ap (λ n. 1 + n) (converted_row-size ts)

    converted_row-size : (ts : Trees L Symbol) → sizes (converted_row P leaf ts) ≡ sizes ts
    converted_row-size none = refl
    converted_row-size (more t ts) = let first = converted-size t in let others = converted_row-size ts in λ i. first i + others i

  known-size : (phase : ℕ) (ts : List (Tree L Symbol)) → total fact_size (map (λ t. Att phase (converted P leaf t)) ts) ≡ length ts + sizes (trees ts)
  known-size phase [] = refl
  known-size phase (t ∷ ts) = omega (arith, converted-size t, known-size phase ts)

  terms-size : (ts : List (Tree L Symbol)) → total size (map (converted P leaf) ts) ≡ sizes (trees ts)
  terms-size [] = refl
  terms-size (t ∷ ts) = omega (arith, converted-size t, terms-size ts)

rule_leaf-size : (x : Name) → size (rule_leaf 0 x) ≡ 1
rule_leaf-size (calculus.Free n) = refl
rule_leaf-size (Made p) = refl
rule_leaf-size (Variable i) = refl

query_leaf-size : (x : Name) → size (query_leaf x) ≡ 1
query_leaf-size (calculus.Free n) = refl
query_leaf-size (Made p) = refl
query_leaf-size (Variable i) = refl

-- variables in a row
variables-size : (n count : ℕ) → sizes (trees (variables_from n count)) ≡ count
variables-size n zero = refl
variables-size n (suc count) = omega (arith, variables-size (n + 1) count)

variables_known-size : (phase n count : ℕ) → total fact_size (map (Att phase) (variables_from n count)) ≡ 2 * count
variables_known-size phase n zero = refl
variables_known-size phase n (suc count) = omega (arith, variables_known-size phase (n + 1) count)

-- the attacker's raw clauses: of a name 2 symbols, of a constructor at most 50, and of a rule at most 2,016
abbrev IsSmallRaw : Clause Term → Type 0
IsSmallRaw c = is_large_raw c ≡ false

name_small : (x : ℕ × Declared) (raw : Clause Term) → name_known x ≡ Some raw → IsSmallRaw raw
name_small x raw e = go x.1.public e where
  made : Clause Term
  made = record { hypotheses = []; diffs = []; conclusion = Att 0 (free_term x.0) }

  go : (b : Bool) → cond b (Some made) None ≡ Some raw → IsSmallRaw raw
  go true k = let same : made ≡ raw = cc in subst IsSmallRaw same (half_is_small made (omega arith))
  go false k = cc

constructor_small : (phase number : ℕ) (declared : Declared) → declared.arity ≤ most_arguments → (raw : Clause Term) → constructor_applied phase (number, declared) ≡ Some raw → IsSmallRaw raw
constructor_small phase number declared few raw e = go (declared.public && not declared.is_data) e where
  arguments : List Term
  arguments = variables_from 0 declared.arity

  made : Clause Term
  made = record { hypotheses = map (Att phase) arguments; diffs = []; conclusion = Att phase (node (Ctor number) arguments) }

  go : (b : Bool) → cond b (Some made) None ≡ Some raw → IsSmallRaw raw
  go true k =
      let same : made ≡ raw = cc in
      let above = variables_known-size phase 0 declared.arity in
      let below = variables-size 0 declared.arity in
      subst IsSmallRaw same (half_is_small made (omega arith))
  go false k = cc

constructors_small : (phase : ℕ) (items : List Declared) (from : ℕ) → AllByRecursion (λ d. d.arity ≤ most_arguments) items → AllByRecursion IsSmallRaw (filter_map (constructor_applied phase) (enumerate_from from items))
constructors_small phase [] from few = tt
constructors_small phase (d ∷ ds) from few = go (constructor_applied phase (from, d)) refl (constructors_small phase ds (from + 1) few.1) where
  go : (o : Option (Clause Term)) → constructor_applied phase (from, d) ≡ o → AllByRecursion IsSmallRaw (filter_map (constructor_applied phase) (enumerate_from (from + 1) ds)) → AllByRecursion IsSmallRaw (cons_option o (filter_map (constructor_applied phase) (enumerate_from (from + 1) ds)))
  go None e others = others
  go (Some raw) e others = (constructor_small phase from d few.0 raw e, others)

module _ (P : Protocol) (phase : ℕ) where
  rule_small : (rule : Rule) → IsSmallRule rule → IsSmallRaw (rule_applied P phase rule)
  rule_small rule small =
      let left = known-size P (rule_leaf 0) rule_leaf-size phase rule.left in
      let right = converted-size P (rule_leaf 0) rule_leaf-size rule.right in
      let few = small.arguments in
      let symbols = small.symbols in
      half_is_small (rule_applied P phase rule) (omega arith)

  rules_small : (rules : List Rule) → AllByRecursion IsSmallRule rules → AllByRecursion IsSmallRaw (map (rule_applied P phase) rules)
  rules_small [] small = tt
  rules_small (rule ∷ rules) small = (rule_small rule small.0, rules_small rules small.1)

  destructors_small : (ds : List Destructor) → AllByRecursion IsSmallDestructor ds → AllByRecursion IsSmallRaw (flat_map (λ d. map (rule_applied P phase) d.rules) ds)
  destructors_small [] small = tt
  destructors_small (d ∷ ds) small = all_append IsSmallRaw (map (rule_applied P phase) d.rules) (flat_map (λ d. map (rule_applied P phase) d.rules) ds) (rules_small d.rules small.0.rules) (destructors_small ds small.1)

  done_small : IsWithinLimits P → AllByRecursion IsSmallRaw (done_in P phase)
  done_small limits =
      let rules = flat_map (λ d. map (rule_applied P phase) d.rules) P.destructors in
      let network = message_heard phase ∷ message_sent phase ∷ [] in
      let last = all_append IsSmallRaw rules network (destructors_small P.destructors limits.destructors) (half_is_small (message_heard phase) (omega arith), (half_is_small (message_sent phase) (omega arith), tt)) in
      all_append IsSmallRaw (filter_map (constructor_applied phase) (enumerate_from 1 P.constructors)) (rules ++ network) (constructors_small phase P.constructors 1 limits.constructors) last

done_after_small : (P : Protocol) → IsWithinLimits P → (phase count : ℕ) → AllByRecursion IsSmallRaw (done_after P phase count)
done_after_small P limits phase zero = tt
done_after_small P limits phase (suc count) = (
  half_is_small (kept_known phase) (omega arith),
  all_append IsSmallRaw (done_in P (phase + 1)) (done_after P (phase + 1) count) (done_small P (phase + 1) limits) (done_after_small P limits (phase + 1) count),
)

pub attacker_small : (P : Protocol) → IsWithinLimits P → AllByRecursion IsSmallRaw (attacker_raw P)
attacker_small P limits =
    let names = filter_map name_known (enumerate_from 1 P.frees) in
    let later = done_after P 0 (greatest_phase P.main) in
    all_append IsSmallRaw names (fresh_known ∷ (done_in P 0 ++ later))
    (all_filter_map IsSmallRaw name_known name_small (enumerate_from 1 P.frees))
    (half_is_small fresh_known (omega arith), all_append IsSmallRaw (done_in P 0) later (done_small P 0 limits) (done_after_small P limits 0 (greatest_phase P.main)))

-- The names of a restriction have an argument for each input and copy on the way to it, and no more than the limit of arguments for each
-- entry that is taken.
arguments_below : (above bound : ℕ) (process : Process) → above + most_arguments * height process < bound + most_arguments → AreSmallEntries process → AllByRecursion (λ n. n < bound) (name_arguments above process)
arguments_below above bound Nil h small = (omega arith, tt)
arguments_below above bound (Output channel message next) h small = (omega arith, arguments_below above bound next (omega arith) small)
arguments_below above bound (Input channel pattern next) h small = (omega arith, arguments_below (above + 1) bound next (omega arith) small)
arguments_below above bound (Parallel left right) h small =
    (omega arith, all_append (λ n. n < bound) (name_arguments above left) (name_arguments above right) (arguments_below above bound left (omega arith) small.0) (arguments_below above bound right (omega arith) small.1))
arguments_below above bound (Replication copied) h small = (omega arith, arguments_below (above + 1) bound copied (omega arith) small)
arguments_below above bound (New word next) h small = (omega arith, arguments_below above bound next (omega arith) small)
arguments_below above bound (Let pattern expression next otherwise) h small =
    (omega arith, all_append (λ n. n < bound) (name_arguments above next) (name_arguments above otherwise) (arguments_below above bound next (omega arith) small.0) (arguments_below above bound otherwise (omega arith) small.1))
arguments_below above bound (Event performed next) h small = (omega arith, arguments_below above bound next (omega arith) small)
arguments_below above bound (Phase number next) h small = (omega arith, arguments_below above bound next (omega arith) small)
arguments_below above bound (Insert table arguments next) h small = (omega arith, arguments_below above bound next (omega arith) small)
arguments_below above bound (Get table patterns condition next otherwise) h small =
    let few = small.0 in
    let behind = above + length patterns in
    (omega arith, all_append (λ n. n < bound) (name_arguments behind next) (name_arguments above otherwise) (arguments_below behind bound next (omega arith) small.1) (arguments_below above bound otherwise (omega arith) small.2))

got_below : (bound : ℕ) → 0 < bound → (xs : List ℕ) → AllByRecursion (λ n. n < bound) xs → (i : ℕ) → unwrap_or (slice_get xs i) 0 < bound
got_below bound some [] all i = some
got_below bound some (x ∷ xs) all zero = all.0
got_below bound some (x ∷ xs) all (suc i) = got_below bound some xs all.1 i

numbered_below : (bound : ℕ) → 0 < bound → (xs : List ℕ) → AllByRecursion (λ n. n < bound) xs → (k : ℕ) → unwrap_or (numbered xs k) 0 < bound
numbered_below bound some xs all zero = some
numbered_below bound some xs all (suc i) = got_below bound some xs all i

pub arguments_few : (P : Protocol) (point : ℕ) → IsWithinLimits P → arguments_at P point ≤ most_arguments * most_points_above
arguments_few P point limits =
    let bound = 1 + most_arguments * most_points_above in
    let way = limits.way in
    let below = numbered_below bound (omega arith) (name_arguments 0 P.main) (arguments_below 0 bound P.main (omega arith) limits.entries) point in
    omega (arith, below)

-- an event has no more variables than symbols
filter-length : {X : Type 0} (p : X → Bool) (xs : List X) → length (filter p xs) ≤ length xs
filter-length p [] = omega arith
filter-length p (x ∷ xs) =
    let others = filter-length p xs in
    elim (p x) as (λ b. length (cond b (x ∷ filter p xs) (filter p xs)) ≤ suc (length xs)) [ true ↦ omega arith | false ↦ omega arith ]

distinct-length : {X : Type 0} (same : X → X → Bool) (xs : List X) → length (distinct same xs) ≤ length xs
distinct-length same [] = omega arith
distinct-length same (x ∷ xs) =
    let few = filter-length (λ y. not (same x y)) (distinct same xs) in let others = distinct-length same xs in omega arith

filter_map-length : {X Y : Type 0} (h : X → Option Y) (xs : List X) → length (filter_map h xs) ≤ length xs
filter_map-length h [] = omega arith
filter_map-length {X} {Y} h (x ∷ xs) = go (h x) (filter_map-length h xs) where
  go : (o : Option Y) → length (filter_map h xs) ≤ length xs → length (cons_option o (filter_map h xs)) ≤ suc (length xs)
  go None few = omega arith
  go (Some y) few = omega arith

mutual
  pub leaves-length : {L S : Type 0} (t : Tree L S) → length (leaves t) ≤ size t
  leaves-length (Leaf x) = omega arith
  leaves-length (Node f ts) = let below = row_leaves-length ts in omega arith

  row_leaves-length : {L S : Type 0} (ts : Trees L S) → length (row_leaves ts) ≤ sizes ts
  row_leaves-length none = omega arith
  row_leaves-length (more t ts) = omega (arith, leaves-length t, row_leaves-length ts, length-append (leaves t) (row_leaves ts))

all_leaves-length : {L S : Type 0} (ts : List (Tree L S)) → length (flat_map leaves ts) ≤ sizes (trees ts)
all_leaves-length [] = omega arith
all_leaves-length (t ∷ ts) = omega (arith, leaves-length t, all_leaves-length ts, length-append (leaves t) (flat_map leaves ts))

variables-few : (e : EventTerm) → length (event_variables e) ≤ sizes (trees e.arguments)
variables-few e =
    let all = flat_map leaves e.arguments in
    let once = distinct-length nat_eq (filter_map variable_at all) in
    let some = filter_map-length variable_at all in
    let leaves = all_leaves-length e.arguments in
    omega arith

bad-size : (xs : List ℕ) → total size (map (λ i. query_leaf (Variable i)) xs) ≡ length xs
bad-size [] = refl
bad-size (x ∷ xs) = omega (arith, bad-size xs)

-- The goal's raw clause: of a message at most 2,002 symbols, of a name at most 8,179, and of an event at most 4,000; this one is flat.
pub goal_small : (P : Protocol) (q : Query) → IsWithinLimits P → IsSmallQuery q → is_large_raw (goal_raw P q) ≡ false
goal_small P (Secret message phase) limits small =
    let same = converted-size P query_leaf query_leaf-size message in
    half_is_small (goal_raw P (Secret message phase)) (omega arith)
goal_small P (SecretNew point phase) limits small =
    let few = arguments_few P point limits in
    let same = variables-size 0 (arguments_at P point) in
    half_is_small (goal_raw P (SecretNew point phase)) (omega arith)
goal_small P (Correspondence left alternatives) limits small =
    let raw = goal_raw P (Correspondence left alternatives) in
    let event = small.0 in
    let arguments = terms-size P query_leaf query_leaf-size left.arguments in
    let variables = bad-size (event_variables left) in
    let few = variables-few left in
    let fits : IsWithinLimit raw = omega arith in
    (large_raw-decides raw).1 (fits, (fits, tt))

small_at : (cs : List (Clause Term)) → AllByRecursion IsSmallRaw cs → (c : Clause Term) → Has (flat_map norms cs) c → IsWithinLimit c
small_at cs small c h =
    let source = Has-flat_map_source norms cs c h in
    let stands = source.1 in
    norms-within_limit source.0 c (all_at IsSmallRaw stands.1 small) source.2

-- So each clause of a translation is within the limit.
pub clauses_within : (P : Protocol) (q : Query) (all : List (Clause Term)) (c : Clause Term) → IsWithinLimits P → IsSmallQuery q → IsTranslation P q (Clauses all) → Has all c → IsWithinLimit c
clauses_within P q all c limits small translated =
    each_clause P q all translated IsWithinLimit
    (small_at (attacker_raw P) (attacker_small P limits))
    (λ d k. k.within)
    (λ d h. norms-within_limit (goal_raw P q) d (goal_small P q limits small) h) c
