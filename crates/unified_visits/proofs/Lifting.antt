-- Constraints under bindings, with their bound variables lifted above all that these put in.
use Rattle.std.proofs.Common.{◌≡◌, ℕ, zero, suc, ◌+◌, ◌-◌, ◌<◌, ◌≤◌, true, List, [], ◌∷◌, ◌++◌, length, map, get_or, refl, ap, sym, subst, ◌∙◌, lt-ltb, le-ltb, arith}
use Rattle.std.proofs.lemmas.List.{length-map, get_or-map}
use Rattle.std.specs.Prelude.{nat_lt}
use Rattle.std.specs.List.{AllByRecursion}
use Rattle.spec_trees.specs.Tree.{Leaf, bind}
use Rattle.spec_terms.specs.Term.{Term, Subst}
use Rattle.spec_terms.specs.Binding.{resolved}
use Rattle.spec_clauses.specs.Diff.{Diff, diff_under, diff_variables}
use Rattle.spec_clauses.specs.Shown.{Shown, lifted, diff_shown, shown_variables}
use Rattle.spec_clauses.specs.Variables.{IsBelow}
use Rattle.spec_clauses.proofs.Lists.{all_weaker}
use Rattle.spec_clauses.proofs.Shown.{shown-under}
use Rattle.term_tree.specs.Bank.{tree_at, Grows}
use Rattle.term_tree.proofs.BankLaws.{Grows_refl, trees_at-grow}
use Rattle.term_tree.specs.declared.bank.Id.{Id}
use Rattle.unify_match.specs.declared.bound.Bound.{Bound}
use Rattle.unify_match.specs.Seen.{seen, IsReady}
use Rattle.clause_diffs.specs.Diffs.{DiffOf, shown_at, diff_at, diffs_at, IsDiffIn, NameTerms, NamesDiff, NameDiffs}
use Rattle.clause_diffs.proofs.Naming.{NameTerms-grows, diff_at-grows}
use Rattle.clause_diffs.proofs.Numbered.{passing_all}
use Rattle.clause_diffs.proofs.Shown.{shown-own}
use Rattle.clause_form.proofs.Copying.{AreDiffsCopied, diffs_copied_on, diffs_copied_all}
use Rattle.unified_visits.specs.declared.constrained.Lift.{Lift}
use Rattle.unified_visits.specs.Lifting.{lifted_by, IsOwnBelow}
use Rattle.unified_visits.specs.Solving.{HasBelow}
use Rattle.unified_visits.proofs.Parts.{same_substitution}

-- in a bank that grew the bindings are the same
pub lift_stands : (old now : List Term) (l : Lift) → Grows old now → IsReady old l.binds.now.pairs → lifted_by now l ≡ lifted_by old l
lift_stands old now l grows ready = ap (λ s. lifted s l.first l.next) (same_substitution old now l.binds.now.pairs grows ready)

-- a variable of the clause, and one that the constraint binds
pub lifted_own : (s : Subst) (first next x : ℕ) (t : Term) → t ≡ Leaf x → x < first → bind s t ≡ bind (lifted s first next) t
lifted_own s first next x t is below =
    let here : lifted s first next x ≡ s x = rw (lt-ltb x first below) refl in
    ap (bind s) is ∙ (sym here ∙ sym (ap (bind (lifted s first next)) is))

pub lifted_bound : (s : Subst) (first next x made : ℕ) (t : Term) → t ≡ Leaf x → first ≤ x → made ≡ (x - first) + next → Leaf made ≡ bind (lifted s first next) t
lifted_bound s first next x made t is over so =
    let here : lifted s first next x ≡ Leaf ((x - first) + next) = rw (le-ltb x first over) refl in
    ap Leaf so ∙ (sym here ∙ sym (ap (bind (lifted s first next)) is))

-- What stands in a constraint below its first bound variable is the clause's.
own_stay : (s : Subst) (n : ℕ) (d : Shown) → HasBelow s n → AllByRecursion (λ x. x < n) (diff_variables (diff_shown d)) → AllByRecursion (λ x. x < d.first → IsBelow n (s x)) (shown_variables d)
own_stay s n d below own =
    let passed = passing_all (λ x. x < n) (λ x. nat_lt x d.first) (shown_variables d) (subst (AllByRecursion (λ x. x < n)) (shown-own d) own) in
    all_weaker (λ x. nat_lt x d.first ≡ true → x < n) (λ x. x < d.first → IsBelow n (s x)) (λ x lower under. below x (lower (lt-ltb x d.first under))) (shown_variables d) passed

abbrev parts_of : ℕ → List Id → List Id → DiffOf Id
parts_of first left right = record { first = first; left = left; right = right }

-- the terms of both sides under the bindings are the constraint under them
lifted_parts : (old mid new : List Term) (pairs : List Bound) (next : ℕ) (d : DiffOf Id) (left right : List Id) → IsDiffIn old d → IsReady old pairs → HasBelow (resolved (seen old pairs)) next → IsOwnBelow next (diff_at old d) → Grows old mid → Grows mid new
    → NameTerms mid left (map (bind (lifted (resolved (seen old pairs)) d.first next)) (map (tree_at old) d.left)) → NameTerms new right (map (bind (lifted (resolved (seen mid pairs)) d.first next)) (map (tree_at mid) d.right))
    → NamesDiff new (parts_of next left right) (diff_under (resolved (seen old pairs)) (diff_at old d))
lifted_parts old mid new pairs next d left right known ready below own to_mid to_new lefts rights =
    let s = resolved (seen old pairs) in
    let all_left = NameTerms-grows mid new left (map (bind (lifted s d.first next)) (map (tree_at old) d.left)) to_new lefts in
    let bindings = same_substitution old mid pairs to_mid ready in
    let terms = trees_at-grow old mid d.right to_mid known.right in
    let all_right = rights.are ∙ (λ i. map (bind (lifted (bindings i) d.first next)) (terms i)) in
    record {
      known = record { left = all_left.known; right = rights.known };
      is = (λ i. diff_shown record { first = next; left = all_left.are i; right = all_right i }) ∙ shown-under s next (shown_at old d) (own_stay s next (shown_at old d) below own);
    }

pub diff_lifted : (old mid new : List Term) (pairs : List Bound) (next first : ℕ) (d : DiffOf Id) (lefts rights left right : List Id) → first ≡ d.first → lefts ≡ d.left → rights ≡ d.right → IsDiffIn old d → IsReady old pairs → HasBelow (resolved (seen old pairs)) next → IsOwnBelow next (diff_at old d)
    → Grows old mid → Grows mid new → NameTerms mid left (map (bind (lifted (resolved (seen old pairs)) first next)) (map (tree_at old) lefts)) → NameTerms new right (map (bind (lifted (resolved (seen mid pairs)) first next)) (map (tree_at mid) rights))
    → NamesDiff new (parts_of next left right) (diff_under (resolved (seen old pairs)) (diff_at old d))
diff_lifted old mid new pairs next first d lefts rights left right first_is lefts_are rights_are known ready below own to_mid to_new left_named right_named =
    lifted_parts old mid new pairs next d left right known ready below own to_mid to_new
    (subst (λ (n : ℕ). NameTerms mid left (map (bind (lifted (resolved (seen old pairs)) n next)) (map (tree_at old) d.left))) first_is (subst (λ (l : List Id). NameTerms mid left (map (bind (lifted (resolved (seen old pairs)) first next)) (map (tree_at old) l))) lefts_are left_named))
    (subst (λ (n : ℕ). NameTerms new right (map (bind (lifted (resolved (seen mid pairs)) n next)) (map (tree_at mid) d.right))) first_is (subst (λ (l : List Id). NameTerms new right (map (bind (lifted (resolved (seen mid pairs)) first next)) (map (tree_at mid) l))) rights_are right_named))

-- Constraints one by one: those up to a place were lifted.
module _ (old : List Term) (pairs : List Bound) (ds : List (DiffOf Id)) where
  abbrev pub AreLifted : List Term → List (DiffOf Id) → ℕ → Type 0
  AreLifted now made i = AreDiffsCopied old now made (map (diff_under (resolved (seen old pairs))) (diffs_at old ds)) i

pub none_lifted : (old : List Term) (pairs : List Bound) (ds made : List (DiffOf Id)) → made ≡ [] → AreLifted old pairs ds old made 0
none_lifted old pairs ds made empty = record { grows = Grows_refl old; names = subst (λ (l : List (DiffOf Id)). NameDiffs old l []) (sym empty) record { known = tt; are = refl } }

pub lifted_on : (old now next : List Term) (pairs : List Bound) (ds : List (DiffOf Id)) (i : ℕ) (x : DiffOf Id) (made new : List (DiffOf Id)) (d : DiffOf Id) → IsReady old pairs → IsDiffIn old x → AreLifted old pairs ds now made i → i < length ds → x ≡ get_or ds i x → Grows now next
    → NamesDiff next d (diff_under (resolved (seen now pairs)) (diff_at now x)) → new ≡ made ++ d ∷ [] → AreLifted old pairs ds next new (i + 1)
lifted_on old now next pairs ds i x made new d ready known was within is grows names e =
    let f = diff_under (resolved (seen old pairs)) in
    let g = diff_at old in
    let inner : i < length (map g ds) = omega (arith, within, length-map ds g) in
    let outer : i < length (map f (map g ds)) = omega (arith, inner, length-map (map g ds) f) in
    let at : get_or (map f (map g ds)) i (f (g x)) ≡ f (g x) = get_or-map f (map g ds) i (g x) (f (g x)) inner ∙ (ap f (get_or-map g ds i x (g x) within) ∙ ap (λ y. f (g y)) (sym is)) in
    let bindings = same_substitution old now pairs was.grows ready in
    let same = diff_at-grows old now x was.grows known in
    diffs_copied_on old now next made new (map f (map g ds)) i (f (g x)) d was outer (sym at) grows (subst (λ (t : Diff). NamesDiff next d t) (λ j. diff_under (bindings j) (same j)) names) e

pub all_lifted : (old now : List Term) (pairs : List Bound) (ds made : List (DiffOf Id)) (i : ℕ) → AreLifted old pairs ds now made i → length ds ≤ i → NameDiffs now made (map (diff_under (resolved (seen old pairs))) (diffs_at old ds))
all_lifted old now pairs ds made i was past =
    let f = diff_under (resolved (seen old pairs)) in
    diffs_copied_all old now made (map f (diffs_at old ds)) i was (omega (arith, past, length-map ds (diff_at old), length-map (diffs_at old ds) f))

-- the clause's variables in one of them are below the number
own_in : (n : ℕ) (old : List Term) (ds : List (DiffOf Id)) (i : ℕ) (x : DiffOf Id) → i < length ds → AllByRecursion (IsOwnBelow n) (diffs_at old ds) → IsOwnBelow n (diff_at old (get_or ds i x))
own_in n old [] i x within own = absurd (omega arith)
own_in n old (d ∷ ds) zero x within own = own.0
own_in n old (d ∷ ds) (suc i) x within own = own_in n old ds i x (omega (arith, within)) own.1

pub own_at : (old now : List Term) (n : ℕ) (ds : List (DiffOf Id)) (i : ℕ) (x : DiffOf Id) → Grows old now → IsDiffIn old x → x ≡ get_or ds i x → i < length ds → AllByRecursion (IsOwnBelow n) (diffs_at old ds) → IsOwnBelow n (diff_at now x)
own_at old now n ds i x grows known is within own =
    subst (IsOwnBelow n) (sym (diff_at-grows old now x grows known)) (subst (λ (y : DiffOf Id). IsOwnBelow n (diff_at old y)) (sym is) (own_in n old ds i x within own))
