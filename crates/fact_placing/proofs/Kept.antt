-- Whether the constraints of the general clause are kept under bindings, one after another.
use Rattle.std.proofs.Common.{◌≡◌, ◌↔◌, ◌+◌, ◌<◌, ◌≤◌, ℕ, Bool, true, false, not, ◌&&◌, ◌||◌, is_some, IsTrue, List, [], ◌∷◌, ◌++◌, length, map, drop, get_or, refl, ap, sym, ◌∙◌, subst, inl, inr, Result, Ok, Err, IfOk, MatchBool, add-one, drop-cons, drop_of_length-le}
use Rattle.std.specs.Prelude.{flat_map}
use Rattle.std.specs.List.{AllByRecursion, list_any, list_all}
use Rattle.std.specs.declared.alloc.AllocError.{AllocError}
use Rattle.std.proofs.lemmas.Bool.{false≢true, or_left, or_right}
use Rattle.spec_trees.specs.Tree.{Leaf, bind}
use Rattle.spec_trees.proofs.Equality.{and_true}
use Rattle.spec_trees.proofs.Occurrence.{or_true}
use Rattle.spec_terms.specs.Term.{Term, Subst}
use Rattle.spec_terms.specs.Binding.{bound_to, AreDistinct, Agrees, replaced_once}
use Rattle.spec_clauses.specs.Diff.{Diff, slot_under, diff_under, diff_variables, numbered_diff, same_diff}
use Rattle.spec_clauses.specs.DiffDecision.{can_be_equal}
use Rattle.spec_clauses.specs.Inclusion.{Picks, here, there, Has}
use Rattle.spec_clauses.specs.Kept.{IsKeptIn, AreKeptIn}
use Rattle.spec_clauses.specs.Shown.{slot_shown}
use Rattle.spec_clauses.proofs.DiffNumbering.{numbered-under}
use Rattle.spec_clauses.proofs.Diffs.{maps_after, same_diff-decides}
use Rattle.spec_clauses.proofs.Lists.{all_append, all_first, all_second}
use Rattle.spec_placements.specs.Placing.{Ending, CanPlace, AreLinked, some_fact_has}
use Rattle.spec_placements.proofs.Removing.{unkept_unplaced}
use Rattle.term_tree.specs.Bank.{tree_at}
use Rattle.term_tree.specs.declared.bank.Id.{Id}
use Rattle.unify_match.specs.declared.bound.Bound.{Bound}
use Rattle.unify_match.specs.Trail.{id_of}
use Rattle.unify_match.specs.Seen.{seen}
use Rattle.clause_form.proofs.Comparing.{map_drop, map_dropped}
use Rattle.clause_diffs.specs.Diffs.{DiffOf, diff_at, diffs_at, sides_at}
use Rattle.clause_diffs.proofs.Adding.{holds_at}
use Rattle.fact_placing.specs.Matched.{sides_matched, diff_matched, are_all_bound, MayBeKept, IsUnkept}
use Rattle.fact_placing.proofs.FactTerms.{is_some_seen}

-- the constraint under the bindings, side by side
matched_is : (all : List Term) (pairs : List Bound) (first : ℕ) (d : DiffOf Id) → first ≡ d.first → diff_matched all pairs first d ≡ diff_under (replaced_once (seen all pairs)) (diff_at all d)
matched_is all pairs first d e = ap (λ n. diff_matched all pairs n d) e ∙ (λ i. record { left = under d.left i; right = under d.right i }) where
  under : (ids : List Id) → sides_matched all pairs d.first ids ≡ map (bind (slot_under (replaced_once (seen all pairs)))) (sides_at all d.first ids)
  under ids = sym (maps_after (slot_under (replaced_once (seen all pairs))) (λ x. Leaf (slot_shown d.first x)) (map (tree_at all) ids))

-- a constraint is the same as one of others exactly where it stands among them
any_has : (d : Diff) (ds : List Diff) → list_any (same_diff d) ds ≡ true → Has ds d
any_has d [] e = absurd (false≢true e)
any_has d (x ∷ ds) e = elim (or_true (same_diff d x) (list_any (same_diff d) ds) e) as (λ _. Has (x ∷ ds) d) [
  | inl same ↦ subst (λ (y : Diff). Has (x ∷ ds) y) (sym ((same_diff-decides d x).0 same)) (ds, here)
  | inr later ↦ (let found = any_has d ds later in (x ∷ found.0, there found.1))
]

has_any : {ds rest : List Diff} {d : Diff} → Picks ds d rest → list_any (same_diff d) ds ≡ true
has_any (here {x = d} {xs = ds}) = or_left (same_diff d d) (list_any (same_diff d) ds) ((same_diff-decides d d).1 refl)
has_any (there {x = d} {y = x} {xs = ds} p) = or_right (same_diff d x) (list_any (same_diff d) ds) (has_any p)

module _ (kept : List Diff) (s : Subst) (d : Diff) (numbered : numbered_diff d ≡ d) where
  -- a numbered constraint is numbered under a substitution
  under_numbered : numbered_diff (diff_under s d) ≡ diff_under s d
  under_numbered = numbered-under s d ∙ ap (diff_under s) numbered

  -- it is kept where it is one of these,
  kept_among : (b : Bool) → b ≡ list_any (same_diff (diff_under s d)) kept → b ≡ true → IsTrue true ↔ IsKeptIn kept s d
  kept_among b told e =
      let has : Has kept (diff_under s d) = any_has (diff_under s d) kept (sym told ∙ e) in
      (λ _. inr (subst (λ (x : Diff). Has kept x) (sym under_numbered) has), λ _. refl)

  -- and else exactly where its sides can't be equal
  not_equal : (b : Bool) → IsTrue (not b) → b ≡ false
  not_equal true e = absurd (false≢true e)
  not_equal false e = refl

  equal_not : (b : Bool) → b ≡ false → IsTrue (not b)
  equal_not true e = absurd (false≢true (sym e))
  equal_not false e = refl

  kept_apart : (b equal : Bool) → b ≡ list_any (same_diff (diff_under s d)) kept → b ≡ false → equal ≡ can_be_equal (diff_under s d) → IsTrue (not equal) ↔ IsKeptIn kept s d
  kept_apart b equal told e is = (λ yes. inl (sym is ∙ not_equal equal yes), back) where
    back : IsKeptIn kept s d → IsTrue (not equal)
    back (inl apart) = equal_not equal (is ∙ apart)
    back (inr has) =
        let stands : Has kept (diff_under s d) = subst (λ (x : Diff). Has kept x) under_numbered has in
        absurd (false≢true (sym e ∙ (told ∙ has_any stands.1)))

-- The same of a constraint over ids.
module _ (all : List Term) (pairs : List Bound) (kept : List Diff) (first : ℕ) (d : DiffOf Id) (own : first ≡ d.first) (numbered : numbered_diff (diff_at all d) ≡ diff_at all d) where
  pub among_told : (b : Bool) → b ≡ list_any (same_diff (diff_matched all pairs first d)) kept → b ≡ true → IsTrue true ↔ IsKeptIn kept (replaced_once (seen all pairs)) (diff_at all d)
  among_told b told e = kept_among kept (replaced_once (seen all pairs)) (diff_at all d) numbered b (told ∙ ap (λ x. list_any (same_diff x) kept) (matched_is all pairs first d own)) e

  pub apart_told : (b equal : Bool) → b ≡ list_any (same_diff (diff_matched all pairs first d)) kept → b ≡ false → equal ≡ can_be_equal (diff_matched all pairs first d) → IsTrue (not equal) ↔ IsKeptIn kept (replaced_once (seen all pairs)) (diff_at all d)
  apart_told b equal told e is =
      kept_apart kept (replaced_once (seen all pairs)) (diff_at all d) numbered b equal (told ∙ ap (λ x. list_any (same_diff x) kept) (matched_is all pairs first d own)) e (is ∙ ap can_be_equal (matched_is all pairs first d own))

-- What a loop over numbers tells: all pass, as far as it has come.
module _ (p : ℕ → Bool) (items numbers : List ℕ) (i : ℕ) (same : items ≡ numbers) (so_far : list_all p items ≡ list_all p (drop i items)) where
  all_from : i < length items → list_all p items ≡ (p (get_or items i 0) && list_all p (drop (i + 1) items))
  all_from within = so_far ∙ (ap (list_all p) (drop-cons items i 0 within) ∙ ap (λ n. p (get_or items i 0) && list_all p (drop n items)) (sym (add-one i)))

  pub one_fails : i < length items → p (get_or items i 0) ≡ false → false ≡ list_all p numbers
  one_fails within e = sym (ap (list_all p) (sym same) ∙ (all_from within ∙ ap (λ b. b && list_all p (drop (i + 1) items)) e))

  pub one_passes : i < length items → p (get_or items i 0) ≡ true → list_all p items ≡ list_all p (drop (i + 1) items)
  one_passes within e = all_from within ∙ ap (λ b. b && list_all p (drop (i + 1) items)) e

  pub all_pass : length items ≤ i → true ≡ list_all p numbers
  all_pass past = sym (ap (list_all p) (sym same) ∙ (so_far ∙ ap (list_all p) (drop_of_length-le items past)))

-- Variables that are bound, by ids and by terms.
module _ (all : List Term) (pairs : List Bound) where
  bound_linked : (xs : List ℕ) → list_all (λ x. is_some (id_of pairs x)) xs ≡ true → AreLinked (seen all pairs) xs []
  bound_linked [] e = tt
  bound_linked (x ∷ xs) e =
      let both = and_true (is_some (id_of pairs x)) (list_all (λ y. is_some (id_of pairs y)) xs) e in
      (ap (λ (b : Bool). b || false) (is_some_seen all pairs x ∙ both.0), bound_linked xs both.1)

  or_false : (b : Bool) → (b || false) ≡ true → b ≡ true
  or_false true e = refl
  or_false false e = e

  linked_bound : (xs : List ℕ) → AreLinked (seen all pairs) xs [] → list_all (λ x. is_some (id_of pairs x)) xs ≡ true
  linked_bound [] linked = refl
  linked_bound (x ∷ xs) linked =
      let first : is_some (id_of pairs x) ≡ true = sym (is_some_seen all pairs x) ∙ or_false (is_some (bound_to (seen all pairs) x)) linked.0 in
      let others = linked_bound xs linked.1 in λ i. first i && others i

  -- A constraint whose variables are bound, and that isn't kept, is kept under no substitution that has the bindings.
  module _ (once : AreDistinct (seen all pairs)) (kept : List Diff) (d : Diff) (unkept : IsUnkept all pairs kept d) (s : Subst) (agrees : Agrees s (seen all pairs)) where
    abbrev alone : Ending
    alone = record { loose = []; diffs = d ∷ []; kept_in = kept }

    never_kept : IsKeptIn kept s d → ⊥
    never_kept k =
        let linked : AreLinked (seen all pairs) (flat_map diff_variables (d ∷ [])) [] = all_append (λ x. (is_some (bound_to (seen all pairs) x) || some_fact_has x []) ≡ true) (diff_variables d) [] (bound_linked (diff_variables d) unkept.bound) tt in
        let can : CanPlace (seen all pairs) [] [] [] alone = record { by = s; agrees = agrees; kept = (k, tt); within = tt } in
        unkept_unplaced (seen all pairs) [] [] [] alone once linked (λ both. unkept.never both.0) can

-- Going along constraints: those from i on are the one at i and the rest.
module _ (all : List Term) (pairs : List Bound) (kept : List Diff) (ds : List (DiffOf Id)) where
  -- they are kept, if all of the clause's variables in them are bound
  abbrev pub AreKeptFrom : List (DiffOf Id) → Type 0
  AreKeptFrom es = AreLinked (seen all pairs) (flat_map diff_variables (diffs_at all es)) [] → AreKeptIn kept (replaced_once (seen all pairs)) (diffs_at all es)

  module _ (i : ℕ) (d : DiffOf Id) (within : i < length ds) (is : d ≡ get_or ds i d) where
    from_here : diffs_at all (drop i ds) ≡ diff_at all d ∷ diffs_at all (drop (i + 1) ds)
    from_here = map_drop (diff_at all) ds i d within ∙ ap (λ e. diff_at all e ∷ diffs_at all (drop (i + 1) ds)) (sym is)

    -- where the one may be kept, those from it on are where the rest are
    pub kept_next : (Whole : Type 0) → MayBeKept all pairs kept (diff_at all d) → (AreKeptFrom (drop i ds) → Whole) → AreKeptFrom (drop (i + 1) ds) → Whole
    kept_next Whole may so_far rest = so_far (λ linked.
        let P : ℕ → Type 0 = λ x. (is_some (bound_to (seen all pairs) x) || some_fact_has x []) ≡ true in
        let own = diff_variables (diff_at all d) in
        let others = flat_map diff_variables (diffs_at all (drop (i + 1) ds)) in
        let both : AreLinked (seen all pairs) (own ++ others) [] = subst (λ (es : List Diff). AreLinked (seen all pairs) (flat_map diff_variables es) []) from_here linked in
        let first = may (linked_bound all pairs own (all_first P own others both)) in
        subst (AreKeptIn kept (replaced_once (seen all pairs))) (sym from_here) (first, rest (all_second P own others both)))

    -- and where it isn't kept, though all variables in it are bound, no substitution keeps all
    pub unkept_here : AreDistinct (seen all pairs) → IsUnkept all pairs kept (diff_at all d) → (s : Subst) → Agrees s (seen all pairs) → AreKeptIn kept s (diffs_at all ds) → ⊥
    unkept_here once unkept s agrees are =
        let one : IsKeptIn kept s (diff_at all d) = subst (λ (e : DiffOf Id). IsKeptIn kept s (diff_at all e)) (sym is) (holds_at (IsKeptIn kept s) all ds i d are within) in
        never_kept all pairs once kept (diff_at all d) unkept s agrees one

  pub kept_all : (i : ℕ) (Whole : Type 0) → length ds ≤ i → (AreKeptFrom (drop i ds) → Whole) → Whole
  kept_all i Whole past so_far = so_far (λ _. subst (AreKeptIn kept (replaced_once (seen all pairs))) (sym (map_dropped (diff_at all) ds i past)) tt)

-- what is told of one constraint, where all variables in it are bound, and where some aren't
pub may_told : (all : List Term) (pairs : List Bound) (kept : List Diff) (d : Diff) (r : Result Bool AllocError) → are_all_bound pairs d ≡ true → IfOk r (λ yes. IsTrue yes ↔ IsKeptIn kept (replaced_once (seen all pairs)) d) → IfOk r (λ yes. MatchBool yes (MayBeKept all pairs kept d) (IsUnkept all pairs kept d))
may_told all pairs kept d (Ok true) bound told = λ _. told.0 refl
may_told all pairs kept d (Ok false) bound told = record { bound = bound; never = λ k. false≢true (told.1 k) }
may_told all pairs kept d (Err e) bound told = tt

pub unbound_told : (all : List Term) (pairs : List Bound) (kept : List Diff) (d : Diff) (b : Bool) → b ≡ are_all_bound pairs d → b ≡ false → MayBeKept all pairs kept d
unbound_told all pairs kept d b told e bound = absurd (false≢true (sym e ∙ (told ∙ bound)))

-- what holds of all constraints holds of the one at a place
pub numbered_at : (all : List Term) (ds : List (DiffOf Id)) (i : ℕ) (d : DiffOf Id) → AllByRecursion (λ e. numbered_diff e ≡ e) (diffs_at all ds) → i < length ds → d ≡ get_or ds i d → numbered_diff (diff_at all d) ≡ diff_at all d
numbered_at all ds i d a within is = subst (λ (e : DiffOf Id). numbered_diff (diff_at all e) ≡ diff_at all e) (sym is) (holds_at (λ e. numbered_diff e ≡ e) all ds i d a within)
