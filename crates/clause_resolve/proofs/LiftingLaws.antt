-- Constraints under the bindings of a unifier, and what is left of the limit of size.
use Rattle.std.proofs.Common.{◌≡◌, ℕ, zero, suc, ◌+◌, ◌-◌, ◌<◌, ◌≤◌, cond, List, [], ◌∷◌, ◌++◌, length, map, take, get_or, refl, ap, sym, ◌∙◌, subst, arith, lt-ltb, le-ltb}
use Rattle.std.specs.List.{AllByRecursion}
use Rattle.std.proofs.lemmas.List.{take_all}
use Rattle.std.proofs.lemmas.Simd.{map-map}
use Rattle.spec_trees.specs.Tree.{Leaf, Node, node, trees, bind, size, sizes}
use Rattle.spec_trees.specs.Leaves.{leaves, row_leaves}
use Rattle.spec_trees.proofs.Rows.{bind-node}
use Rattle.spec_terms.specs.Term.{Sym, Term, Subst}
use Rattle.spec_clauses.specs.Diff.{Diff, diff_under, diff_size}
use Rattle.spec_clauses.specs.Fact.{total}
use Rattle.spec_clauses.specs.Shown.{diff_shown, shown_variables, lifted}
use Rattle.spec_clauses.specs.Variables.{IsBelow, AreBelow}
use Rattle.spec_clauses.proofs.Lists.{all_first, all_second, all_weaker}
use Rattle.spec_clauses.proofs.Shown.{shown-under}
use Rattle.term_tree.specs.Bank.{tree_at, Names, Grows}
use Rattle.term_tree.specs.declared.bank.Id.{Id}
use Rattle.term_tree.proofs.BankLaws.{trees_at-grow}
use Rattle.unify_match.specs.declared.bound.Bound.{Bound}
use Rattle.unify_match.specs.Seen.{IsReady}
use Rattle.clause_diffs.specs.Diffs.{DiffOf, shown_at, diff_at, diffs_at, IsDiffIn, AreDiffLeavesBelow, NameTerms, NamesDiff, NameDiffs}
use Rattle.clause_diffs.proofs.Lists.{total_more, total-map}
use Rattle.clause_diffs.proofs.Naming.{NameTerms-grows, diff_at-grows}
use Rattle.clause_diffs.proofs.Sizes.{shown_size}
use Rattle.clause_resolve.specs.declared.lifting.Lift.{Lift}
use Rattle.clause_resolve.specs.Low.{bound_from, KeepsBelow}
use Rattle.clause_resolve.specs.Lifting.{lifted_by, IsLiftReady}
use Rattle.clause_resolve.proofs.SpendingLaws.{standing, stands, total_some}
use Rattle.clause_resolve.proofs.Moving.{diff_of_parts, AreDiffsUnder, diffs_under_none, diffs_under_on, diffs_under_all}

-- what the bindings make of a constraint's variables stays the same as the bank grows
pub lift_stands : (old now : List Term) (lift : Lift) → Grows old now → IsLiftReady old lift → lifted_by now lift ≡ lifted_by old lift
lift_stands old now lift grows ready = ap (λ s. lifted s lift.first bound_from) (stands old now lift.binds.now.pairs grows ready)

-- a variable of the clause is what it stands for,
pub lifted_own : (s : Subst) (first next x : ℕ) (t : Term) → t ≡ Leaf x → x < first → bind s t ≡ bind (lifted s first next) t
lifted_own s first next x t is less = ap (bind s) is ∙ (sym (ap (λ b. cond b (s x) (Leaf ((x - first) + next))) (lt-ltb x first less)) ∙ sym (ap (bind (lifted s first next)) is))

-- and one that the constraint binds has a number from `next` on
lifted_bound : (s : Subst) (first next x m : ℕ) (t : Term) → t ≡ Leaf x → first ≤ x → m + first ≡ x + next → Leaf m ≡ bind (lifted s first next) t
lifted_bound s first next x m t is over number =
    let same : m ≡ (x - first) + next = omega arith in
    ap (λ k. Leaf k) same ∙ (sym (ap (λ b. cond b (s x) (Leaf ((x - first) + next))) (le-ltb x first over)) ∙ sym (ap (bind (lifted s first next)) is))

pub variable_lifted : (all new : List Term) (s : Subst) (first next x m : ℕ) (id made : Id) (before left : ℕ) → tree_at all id ≡ Leaf x → first ≤ x → m + first ≡ x + next → Names new made (Leaf m) → left + 1 ≡ before
    → Names new made (bind (lifted s first next) (tree_at all id)) × (left + size (bind (lifted s first next) (tree_at all id)) ≡ before)
variable_lifted all new s first next x m id made before left is over number names spent =
    let lifts = lifted_bound s first next x m (tree_at all id) is over number in (subst (λ (t : Term). Names new made t) lifts names, omega (arith, spent, ap size lifts))

-- each term has a symbol
some_symbol_in : (t : Term) → 1 ≤ size t
some_symbol_in (Leaf x) = omega arith
some_symbol_in (Node f args) = omega arith

pub symbol_short : (t : Term) (left : ℕ) → left < 1 → left < size t
symbol_short t left short = omega (arith, short, some_symbol_in t)

-- the variables of an application are those of its arguments
pub row_below : (n : ℕ) (ts : List Term) → AllByRecursion (λ x. x < n) (row_leaves (trees ts)) → AreBelow n ts
row_below n [] below = tt
row_below n (t ∷ ts) below = (all_first (λ x. x < n) (leaves t) (row_leaves (trees ts)) below, row_below n ts (all_second (λ x. x < n) (leaves t) (row_leaves (trees ts)) below))

pub below_in_list : (n : ℕ) (all : List Term) (ids : List Id) (i : ℕ) (d : Id) → AreBelow n (map (tree_at all) ids) → i < length ids → IsBelow n (tree_at all (get_or ids i d))
below_in_list n all [] i d below within = absurd (omega arith)
below_in_list n all (id ∷ ids) zero d below within = below.0
below_in_list n all (id ∷ ids) (suc i) d below within = below_in_list n all ids i d below.1 (omega arith)

-- the size of a row is that of its terms together
row_size : (ts : List Term) → sizes (trees ts) ≡ total size ts
row_size [] = refl
row_size (t ∷ ts) = ap (λ n. size t + n) (row_size ts)

-- an application over arguments that are made what they are under s
module _ (old : List Term) (s : Subst) (id : Id) (f : Sym) (ids : List Id) (is : tree_at old id ≡ node f (map (tree_at old) ids)) where
  abbrev arguments_under : List Term
  arguments_under = map (bind s) (map (tree_at old) ids)

  node_under : node f arguments_under ≡ bind s (tree_at old id)
  node_under = sym (bind-node s f (map (tree_at old) ids)) ∙ ap (bind s) (sym is)

  node_size : size (bind s (tree_at old id)) ≡ 1 + total size arguments_under
  node_size = sym (ap size node_under) ∙ ap (λ n. 1 + n) (row_size arguments_under)

  pub node_lifted : (mid new : List Term) (made seen : List Id) (whole : Id) (before left last : ℕ) → left + 1 ≡ before → seen ≡ made → NameTerms mid made arguments_under × (last + total size arguments_under ≡ left) → Names new whole (node f (map (tree_at mid) seen))
      → Names new whole (bind s (tree_at old id)) × (last + size (bind s (tree_at old id)) ≡ before)
  node_lifted mid new made seen whole before left last spent same (names, rest) whole_names =
      (subst (λ (t : Term). Names new whole t) (ap (λ l. node f (map (tree_at mid) l)) same ∙ (ap (node f) names.are ∙ node_under)) whole_names, omega (arith, spent, rest, node_size))

  pub node_short : (before left : ℕ) → left + 1 ≡ before → left < total size arguments_under → before < size (bind s (tree_at old id))
  node_short before left spent short = omega (arith, spent, short, node_size)

-- A constraint is made of the terms of both sides under the bindings.
module _ (old mid : List Term) (pairs : List Bound) (d : DiffOf Id) (ready : IsReady old pairs) (known : IsDiffIn old d) (below : AreDiffLeavesBelow bound_from old d) (keeps : KeepsBelow bound_from (standing old pairs)) (grows : Grows old mid) where
  abbrev under : Subst
  under = lifted (standing old pairs) d.first bound_from

  abbrev lefts : List Term
  lefts = map (bind under) (map (tree_at old) d.left)

  abbrev rights : List Term
  rights = map (bind under) (map (tree_at old) d.right)

  rights_stand : map (bind (lifted (standing mid pairs) d.first bound_from)) (map (tree_at mid) d.right) ≡ rights
  rights_stand = λ i. map (bind (lifted (stands old mid pairs grows ready i) d.first bound_from)) (trees_at-grow old mid d.right grows known.right i)

  diff_is : diff_shown record { first = bound_from; left = lefts; right = rights } ≡ diff_under (standing old pairs) (diff_at old d)
  diff_is =
      shown-under (standing old pairs) bound_from (shown_at old d)
      (all_weaker (λ x. x < bound_from) (λ x. x < d.first → IsBelow bound_from (standing old pairs x)) (λ x low own. keeps x low) (shown_variables (shown_at old d)) below)

  diff_size_is : diff_size (diff_under (standing old pairs) (diff_at old d)) ≡ 1 + (total size lefts + total size rights)
  diff_size_is = sym (ap diff_size diff_is) ∙ shown_size record { first = bound_from; left = lefts; right = rights }

  diff_applied : (new : List Term) (left right : List Id) (before one two three : ℕ) → Grows mid new → one + 1 ≡ before → NameTerms mid left lefts × (two + total size lefts ≡ one)
      → NameTerms new right (map (bind (lifted (standing mid pairs) d.first bound_from)) (map (tree_at mid) d.right)) × (three + total size (map (bind (lifted (standing mid pairs) d.first bound_from)) (map (tree_at mid) d.right)) ≡ two)
      → NamesDiff new (diff_of_parts bound_from left right) (diff_under (standing old pairs) (diff_at old d)) × (three + diff_size (diff_under (standing old pairs) (diff_at old d)) ≡ before)
  diff_applied new left right before one two three further spent first second =
      let l = NameTerms-grows mid new left lefts further first.0 in
      let r = subst (λ (ts : List Term). NameTerms new right ts) rights_stand second.0 in (
        record {
          known = record { left = l.known; right = r.known };
          is = (λ i. diff_shown record { first = bound_from; left = l.are i; right = r.are i }) ∙ diff_is;
        },
        omega (arith, spent, first.1, second.1, ap (total size) rights_stand, diff_size_is),
      )

  lefts_short : (before one : ℕ) → one + 1 ≡ before → one < total size lefts → before < diff_size (diff_under (standing old pairs) (diff_at old d))
  lefts_short before one spent short = omega (arith, spent, short, diff_size_is)

  rights_short : (before one two : ℕ) → one + 1 ≡ before → two + total size lefts ≡ one → two < total size (map (bind (lifted (standing mid pairs) d.first bound_from)) (map (tree_at mid) d.right)) → before < diff_size (diff_under (standing old pairs) (diff_at old d))
  rights_short before one two spent more short = omega (arith, spent, more, short, ap (total size) rights_stand, diff_size_is)

-- for its size alone, there need not be a symbol
pub diff_symbol_short : (old : List Term) (s : Subst) (d : DiffOf Id) (left : ℕ) → left < 1 → left < diff_size (diff_under s (diff_at old d))
diff_symbol_short old s d left short = omega (arith, short)

-- The same where the parts of the constraint are given.
module _ (old mid : List Term) (pairs : List Bound) (first : ℕ) (l r : List Id) (d : DiffOf Id) (is : diff_of_parts first l r ≡ d) (ready : IsReady old pairs) (known : IsDiffIn old d) (below : AreDiffLeavesBelow bound_from old d) (keeps : KeepsBelow bound_from (standing old pairs)) where
  abbrev given : DiffOf Id
  given = diff_of_parts first l r

  given_known : IsDiffIn old given
  given_known = subst (λ (e : DiffOf Id). IsDiffIn old e) (sym is) known

  given_below : AreDiffLeavesBelow bound_from old given
  given_below = subst (λ (e : DiffOf Id). AreDiffLeavesBelow bound_from old e) (sym is) below

  pub diff_applied_as : (new : List Term) (left right : List Id) (before one two three : ℕ) → Grows old mid → Grows mid new → one + 1 ≡ before
      → NameTerms mid left (map (bind (lifted (standing old pairs) first bound_from)) (map (tree_at old) l)) × (two + total size (map (bind (lifted (standing old pairs) first bound_from)) (map (tree_at old) l)) ≡ one)
      → NameTerms new right (map (bind (lifted (standing mid pairs) first bound_from)) (map (tree_at mid) r)) × (three + total size (map (bind (lifted (standing mid pairs) first bound_from)) (map (tree_at mid) r)) ≡ two)
      → NamesDiff new (diff_of_parts bound_from left right) (diff_under (standing old pairs) (diff_at old d)) × (three + diff_size (diff_under (standing old pairs) (diff_at old d)) ≡ before)
  diff_applied_as new left right before one two three grows further spent lefts_named rights_named =
      subst (λ (e : DiffOf Id). NamesDiff new (diff_of_parts bound_from left right) (diff_under (standing old pairs) (diff_at old e)) × (three + diff_size (diff_under (standing old pairs) (diff_at old e)) ≡ before)) is
      (diff_applied old mid pairs given ready given_known given_below keeps grows new left right before one two three further spent lefts_named rights_named)

  pub lefts_short_as : (before one : ℕ) → Grows old mid → one + 1 ≡ before → one < total size (map (bind (lifted (standing old pairs) first bound_from)) (map (tree_at old) l)) → before < diff_size (diff_under (standing old pairs) (diff_at old d))
  lefts_short_as before one grows spent short =
      subst (λ (e : DiffOf Id). before < diff_size (diff_under (standing old pairs) (diff_at old e))) is
      (lefts_short old mid pairs given ready given_known given_below keeps grows before one spent short)

  pub rights_short_as : (before one two : ℕ) → Grows old mid → one + 1 ≡ before → two + total size (map (bind (lifted (standing old pairs) first bound_from)) (map (tree_at old) l)) ≡ one
      → two < total size (map (bind (lifted (standing mid pairs) first bound_from)) (map (tree_at mid) r)) → before < diff_size (diff_under (standing old pairs) (diff_at old d))
  rights_short_as before one two grows spent more short =
      subst (λ (e : DiffOf Id). before < diff_size (diff_under (standing old pairs) (diff_at old e))) is
      (rights_short old mid pairs given ready given_known given_below keeps grows before one two spent more short)

-- a constraint over ids under s
abbrev pub diff_under_at : Subst → List Term → DiffOf Id → Diff
diff_under_at s all d = diff_under s (diff_at all d)

-- How far constraints are applied, and what is left.
pub record DiffsAreApplied (old now : List Term) (s : Subst) (ds : List (DiffOf Id)) (i : ℕ) (made : List (DiffOf Id)) (before left : ℕ) : Type 0 where
  pub done : AreDiffsUnder old now s ds i made
  pub spent : left + total (λ d. diff_size (diff_under_at s old d)) (take i ds) ≡ before

pub diffs_applied_none : (old : List Term) (s : Subst) (ds made : List (DiffOf Id)) (left : ℕ) → made ≡ [] → DiffsAreApplied old old s ds 0 made left left
diffs_applied_none old s ds made left e = record { done = diffs_under_none old s ds made e; spent = omega arith }

pub diffs_applied_on : (old now next : List Term) (pairs : List Bound) (ds : List (DiffOf Id)) (i : ℕ) (d : DiffOf Id) (made new : List (DiffOf Id)) (e : DiffOf Id) (before left then : ℕ) → IsReady old pairs → DiffsAreApplied old now (standing old pairs) ds i made before left → i < length ds → d ≡ get_or ds i d
    → IsDiffIn old d → Grows now next → NamesDiff next e (diff_under_at (standing now pairs) now d) × (then + diff_size (diff_under_at (standing now pairs) now d) ≡ left) → new ≡ made ++ e ∷ []
    → DiffsAreApplied old next (standing old pairs) ds (i + 1) new before then
diffs_applied_on old now next pairs ds i d made new e before left then ready was within is known grows now_names pushed =
    let s = standing old pairs in
    let stood : diff_under_at (standing now pairs) now d ≡ diff_under_at s now d = ap (λ r. diff_under_at r now d) (stands old now pairs was.done.grows ready) in
    let same : diff_under_at s now d ≡ diff_under_at s old d = ap (diff_under s) (diff_at-grows old now d was.done.grows known) in
    let names : NamesDiff next e (diff_under_at s now d) = subst (λ (t : Diff). NamesDiff next e t) stood now_names.0 in
    let spent : then + diff_size (diff_under_at s old (get_or ds i d)) ≡ left = ap (λ x. then + diff_size (diff_under_at s old x)) (sym is) ∙ (ap (λ t. then + diff_size t) (sym (stood ∙ same)) ∙ now_names.1) in
    record {
      done = diffs_under_on old now next s ds i d made new e was.done within is known grows names pushed;
      spent = omega (arith, was.spent, spent, total_more (λ x. diff_size (diff_under_at s old x)) ds i d within);
    }

diffs_whole : (old : List Term) (s : Subst) (ds : List (DiffOf Id)) → total diff_size (map (diff_under s) (diffs_at old ds)) ≡ total (λ d. diff_size (diff_under_at s old d)) ds
diffs_whole old s ds = ap (total diff_size) (map-map (diff_under s) (diff_at old) ds) ∙ total-map diff_size (diff_under_at s old) ds

pub diffs_short : (old now : List Term) (pairs : List Bound) (ds : List (DiffOf Id)) (i : ℕ) (d : DiffOf Id) (made : List (DiffOf Id)) (before left : ℕ) → IsReady old pairs → DiffsAreApplied old now (standing old pairs) ds i made before left → i < length ds → d ≡ get_or ds i d → IsDiffIn old d
    → left < diff_size (diff_under_at (standing now pairs) now d) → before < total diff_size (map (diff_under (standing old pairs)) (diffs_at old ds))
diffs_short old now pairs ds i d made before left ready was within is known short =
    let s = standing old pairs in
    let stood : diff_under_at (standing now pairs) now d ≡ diff_under_at s old (get_or ds i d) =
    ap (λ r. diff_under_at r now d) (stands old now pairs was.done.grows ready) ∙ (ap (diff_under s) (diff_at-grows old now d was.done.grows known) ∙ ap (diff_under_at s old) is) in
    omega (arith, was.spent, ap diff_size stood, diffs_whole old s ds, total_more (λ x. diff_size (diff_under_at s old x)) ds i d within, total_some (λ x. diff_size (diff_under_at s old x)) (i + 1) ds)

pub diffs_applied : (old now : List Term) (s : Subst) (ds : List (DiffOf Id)) (i : ℕ) (made : List (DiffOf Id)) (before left : ℕ) → DiffsAreApplied old now s ds i made before left → length ds ≤ i
    → NameDiffs now made (map (diff_under s) (diffs_at old ds)) × (left + total diff_size (map (diff_under s) (diffs_at old ds)) ≡ before)
diffs_applied old now s ds i made before left was past =
    (diffs_under_all old now s ds i made was.done past, omega (arith, was.spent, diffs_whole old s ds, ap (total (λ x. diff_size (diff_under_at s old x))) (take_all i ds past)))
