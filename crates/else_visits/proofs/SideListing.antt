-- The constraints of the choices so far.
use Rattle.std.proofs.Common.{◌≡◌, ◌∙◌, ℕ, ◌+◌, ◌<◌, ◌≤◌, List, [], ◌∷◌, ◌++◌, length, map, take, drop, get_or, refl, ap, sym, subst}
use Rattle.std.proofs.lemmas.List.{map-append, map_more, take_all, drop_more}
use Rattle.spec_terms.specs.Term.{Term}
use Rattle.spec_clauses.specs.Diff.{Diff, numbered_diff}
use Rattle.term_tree.specs.Bank.{Grows}
use Rattle.term_tree.proofs.BankLaws.{Grows_refl, Grows_trans}
use Rattle.term_tree.specs.declared.bank.Id.{Id}
use Rattle.clause_diffs.specs.Diffs.{DiffOf, diff_at, diffs_at}
use Rattle.clause_diffs.proofs.Naming.{AreDiffsIn-append}
use Rattle.unified_visits.specs.Visits.{ShowsDiff, ShowDiffs}
use Rattle.unified_visits.proofs.Named.{ShowDiffs-grows}

pub ShowDiffs-append : (all : List Term) (ds es : List (DiffOf Id)) (trees more : List Diff) → ShowDiffs all ds trees → ShowDiffs all es more → ShowDiffs all (ds ++ es) (trees ++ more)
ShowDiffs-append all ds es trees more first second = record {
  known = AreDiffsIn-append all ds es first.known second.known;
  are = ap (map numbered_diff) (map-append (diff_at all) ds es) ∙ (map-append numbered_diff (diffs_at all ds) (diffs_at all es) ∙ (λ i. first.are i ++ second.are i));
}

ShowDiffs-push : (all : List Term) (ds : List (DiffOf Id)) (trees : List Diff) (d : DiffOf Id) (tree : Diff) → ShowDiffs all ds trees → ShowsDiff all d tree → ShowDiffs all (ds ++ d ∷ []) (trees ++ tree ∷ [])
ShowDiffs-push all ds trees d tree show more = ShowDiffs-append all ds (d ∷ []) trees (tree ∷ []) show record { known = (more.known, tt); are = ap (λ e. e ∷ []) more.is }

-- the first constraints of a list are made
pub record AreMadeUpTo {X : Type 0} (old now : List Term) (f : X → Diff) (xs : List X) (i : ℕ) (made : List (DiffOf Id)) : Type 0 where
  pub grows : Grows old now
  pub show : ShowDiffs now made (map f (take i xs))

module _ {X : Type 0} (old : List Term) (f : X → Diff) (xs : List X) where
  pub none_made : (made : List (DiffOf Id)) → made ≡ [] → AreMadeUpTo old old f xs 0 made
  none_made made e = subst (λ (l : List (DiffOf Id)). AreMadeUpTo old old f xs 0 l) (sym e) record { grows = Grows_refl old; show = record { known = tt; are = refl } }

  pub one_more_made : (now next : List Term) (i : ℕ) (x : X) (made new : List (DiffOf Id)) (d : DiffOf Id) → AreMadeUpTo old now f xs i made → i < length xs → Grows now next → ((y : X) (others : List X) → drop i xs ≡ y ∷ others → ShowsDiff next d (f y)) → new ≡ made ++ d ∷ []
      → AreMadeUpTo old next f xs (i + 1) new
  one_more_made now next i x made new d was within grows shows e = record {
    grows = Grows_trans old now next was.grows grows;
    show = subst (λ (l : List (DiffOf Id)). ShowDiffs next l (map f (take (i + 1) xs))) (sym e) (subst (λ (l : List Diff). ShowDiffs next (made ++ d ∷ []) l) (sym (map_more f xs i x within))
        (ShowDiffs-push next made (map f (take i xs)) d (f (get_or xs i x)) (ShowDiffs-grows now next made (map f (take i xs)) grows was.show) (shows (get_or xs i x) (drop (i + 1) xs) (drop_more xs i x within))));
  }

  pub all_made : (now : List Term) (i : ℕ) (made : List (DiffOf Id)) → AreMadeUpTo old now f xs i made → length xs ≤ i → ShowDiffs now made (map f xs)
  all_made now i made was past = subst (λ (l : List X). ShowDiffs now made (map f l)) (take_all i xs past) was.show
