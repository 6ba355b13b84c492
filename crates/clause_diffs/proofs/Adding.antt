-- Constraints numbered one after another, of equal ones the first.
use Rattle.std.proofs.Common.{◌≡◌, ℕ, zero, suc, ◌+◌, ◌<◌, ◌≤◌, Bool, true, false, cond, nat_eq, List, [], ◌∷◌, ◌++◌, length, map, flat_map, take, get_or, refl, ap, sym, ◌∙◌, subst, arith}
use Rattle.std.specs.List.{AllByRecursion, list_any}
use Rattle.std.proofs.lemmas.List.{take_all, length-map}
use Rattle.spec_terms.specs.Term.{Term}
use Rattle.spec_clauses.specs.Diff.{Diff, diff_under, diff_variables, numbered_diff, same_diff}
use Rattle.spec_clauses.specs.Distinct.{distinct}
use Rattle.spec_clauses.proofs.Diffs.{same_diff-decides}
use Rattle.spec_clauses.proofs.Lists.{all_append, all-from_flat_map}
use Rattle.term_tree.specs.Bank.{Grows}
use Rattle.term_tree.specs.declared.bank.Id.{Id}
use Rattle.term_tree.proofs.BankLaws.{Grows_refl, Grows_trans}
use Rattle.clause_diffs.specs.Diffs.{DiffOf, diff_at, diffs_at, IsDiffIn, AreDiffsIn, NamesDiff, NameDiffs, StartAt}
use Rattle.clause_diffs.specs.Numbers.{placed}
use Rattle.clause_diffs.proofs.Counting.{distinct_on}
use Rattle.clause_diffs.proofs.Naming.{IsDiffIn-grows, diff_at-grows, AreDiffsIn-grows, diffs_at-grow, NameDiffs-push}
use Rattle.clause_diffs.proofs.Walks.{diff_known_at}

-- one more constraint: it is left where it is among those that are there, and goes to the end where it isn't
module _ (old new : List Term) (made : List (DiffOf Id)) (d : DiffOf Id) (one : Diff) (b : Bool) (known : AreDiffsIn old made) (grows : Grows old new) (names : NamesDiff new d one) (told : b ≡ list_any (same_diff (diff_at new d)) (diffs_at new made)) where
  is_told : list_any (same_diff one) (diffs_at old made) ≡ b
  is_told = sym (told ∙ (λ i. list_any (same_diff (names.is i)) (diffs_at-grow old new made grows known i)))

  pub left_when : b ≡ true → NameDiffs new made (cond (list_any (same_diff one) (diffs_at old made)) (diffs_at old made) (diffs_at old made ++ one ∷ []))
  left_when e = record {
    known = AreDiffsIn-grows old new made grows known;
    are = diffs_at-grow old new made grows known ∙ sym (ap (λ c. cond c (diffs_at old made) (diffs_at old made ++ one ∷ [])) (is_told ∙ e));
  }

  pub pushed_when : (next : List (DiffOf Id)) → b ≡ false → next ≡ made ++ d ∷ [] → NameDiffs new next (cond (list_any (same_diff one) (diffs_at old made)) (diffs_at old made) (diffs_at old made ++ one ∷ []))
  pushed_when next e is =
      let there = NameDiffs-push new made (diffs_at old made) d one record { known = AreDiffsIn-grows old new made grows known; are = diffs_at-grow old new made grows known } names in
      subst (λ (l : List (DiffOf Id)). NameDiffs new l (cond (list_any (same_diff one) (diffs_at old made)) (diffs_at old made) (diffs_at old made ++ one ∷ []))) (sym is)
      (subst (λ (l : List Diff). NameDiffs new (made ++ d ∷ []) l) (sym (ap (λ c. cond c (diffs_at old made) (diffs_at old made ++ one ∷ [])) (is_told ∙ e))) there)

-- a constraint numbered by an order
abbrev pub numbered_in : List ℕ → Diff → Diff
numbered_in own d = numbered_diff (diff_under (placed own) d)

-- how far constraints are numbered
pub record AreNumbered (old now : List Term) (own : List ℕ) (ds : List (DiffOf Id)) (i : ℕ) (made : List (DiffOf Id)) : Type 0 where
  pub grows : Grows old now
  pub names : NameDiffs now made (distinct same_diff (take i (map (numbered_in own) (diffs_at old ds))))

got_map : {X Y : Type 0} (f : X → Y) (xs : List X) (i : ℕ) (d : X) → i < length xs → get_or (map f xs) i (f d) ≡ f (get_or xs i d)
got_map f [] i d within = absurd (omega arith)
got_map f (x ∷ xs) zero d within = refl
got_map f (x ∷ xs) (suc i) d within = got_map f xs i d (omega arith)

-- what holds of all holds of the one at a place
pub holds_at : (P : Diff → Type 0) (all : List Term) (ds : List (DiffOf Id)) (i : ℕ) (d : DiffOf Id) → AllByRecursion P (diffs_at all ds) → i < length ds → P (diff_at all (get_or ds i d))
holds_at P all [] i d a within = absurd (omega arith)
holds_at P all (e ∷ ds) zero d a within = a.0
holds_at P all (e ∷ ds) (suc i) d a within = holds_at P all ds i d a.1 (omega arith)

module _ (old now : List Term) (own : List ℕ) (ds : List (DiffOf Id)) (i : ℕ) (d : DiffOf Id) (known : AreDiffsIn old ds) (grows : Grows old now) (within : i < length ds) (is : d ≡ get_or ds i d) where
  here : IsDiffIn old d
  here = diff_known_at old ds i d is known within

  pub known_now : IsDiffIn now d
  known_now = IsDiffIn-grows old now d grows here

  pub same_now : diff_at now d ≡ diff_at old d
  same_now = diff_at-grows old now d grows here

  -- its variables stand in the order
  pub own_now : AllByRecursion (λ x. list_any (nat_eq x) own ≡ true) (flat_map diff_variables (diffs_at old ds)) → AllByRecursion (λ x. list_any (nat_eq x) own ≡ true) (diff_variables (diff_at now d))
  own_now stand =
      let P : ℕ → Type 0 = λ x. list_any (nat_eq x) own ≡ true in
      let each = holds_at (λ e. AllByRecursion P (diff_variables e)) old ds i d (all-from_flat_map P diff_variables (diffs_at old ds) stand) within in
      subst (λ (e : Diff). AllByRecursion P (diff_variables e)) (ap (diff_at old) (sym is) ∙ sym same_now) each

  pub numbered_on : (next : List Term) (made new : List (DiffOf Id)) → AreNumbered old now own ds i made → Grows now next
      → NameDiffs next new (cond (list_any (same_diff (numbered_in own (diff_at now d))) (diffs_at now made)) (diffs_at now made) (diffs_at now made ++ numbered_in own (diff_at now d) ∷ [])) → AreNumbered old next own ds (i + 1) new
  numbered_on next made new was more names =
      let xs = map (numbered_in own) (diffs_at old ds) in
      let one = numbered_in own (diff_at old d) in
      let inside : i < length xs = omega (arith, length-map (diffs_at old ds) (numbered_in own), length-map ds (diff_at old)) in
      let found : one ≡ get_or xs i one =
      ap (λ e. numbered_in own (diff_at old e)) is ∙ sym (got_map (numbered_in own) (diffs_at old ds) i (diff_at old d) (omega (arith, length-map ds (diff_at old))) ∙ ap (numbered_in own) (got_map (diff_at old) ds i d within)) in
      record {
        grows = Grows_trans old now next grows more;
        names = record {
          known = names.known;
          are = distinct_on same_diff (λ a b. (same_diff-decides a b).0) (λ a. (same_diff-decides a a).1 refl) xs i one (diffs_at now made) (diffs_at next new) inside found was.names.are
              (names.are ∙ ap (λ e. cond (list_any (same_diff (numbered_in own e)) (diffs_at now made)) (diffs_at now made) (diffs_at now made ++ numbered_in own e ∷ [])) same_now);
        };
      }

pub numbered_all : (old now : List Term) (own : List ℕ) (ds : List (DiffOf Id)) (i : ℕ) (made : List (DiffOf Id)) → AreNumbered old now own ds i made → length ds ≤ i → NameDiffs now made (distinct same_diff (map (numbered_in own) (diffs_at old ds)))
numbered_all old now own ds i made was past = record {
  known = was.names.known;
  are = was.names.are ∙ ap (distinct same_diff) (take_all i (map (numbered_in own) (diffs_at old ds)) (omega (arith, length-map (diffs_at old ds) (numbered_in own), length-map ds (diff_at old))));
}

pub numbered_none : (old : List Term) (own : List ℕ) (ds made : List (DiffOf Id)) → made ≡ [] → AreNumbered old old own ds 0 made
numbered_none old own ds made e = subst (λ (l : List (DiffOf Id)). AreNumbered old old own ds 0 l) (sym e) record { grows = Grows_refl old; names = record { known = tt; are = refl } }

-- the numbers from which variables are bound
pub start_none : (n : ℕ) (made : List (DiffOf Id)) → made ≡ [] → StartAt n made
start_none n made e = subst (StartAt n) (sym e) tt

pub start_pushed : (n : ℕ) (made new : List (DiffOf Id)) (d : DiffOf Id) → new ≡ made ++ d ∷ [] → d.first ≡ n → StartAt n made → StartAt n new
start_pushed n made new d e here first = subst (StartAt n) (sym e) (all_append (λ (x : DiffOf Id). x.first ≡ n) made (d ∷ []) first (here, tt))
