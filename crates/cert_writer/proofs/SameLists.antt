-- Lists that are the same as far as they were compared.
use Rattle.std.proofs.Common.{◌≡◌, ◌∙◌, ℕ, ◌+◌, ◌<◌, ◌≤◌, true, Some, List, [], ◌∷◌, ◌++◌, length, map, take, get_or, refl, ap, sym}
use Rattle.std.specs.Prelude.{slice_get, option_map}
use Rattle.std.proofs.lemmas.List.{length-map}
use Rattle.std.proofs.lemmas.Option.{slice_get-map, slice_get_read}
use Rattle.spec_terms.specs.Term.{Term}
use Rattle.spec_clauses.specs.Diff.{Diff, same_diff}
use Rattle.spec_clauses.specs.Fact as horn
use Rattle.spec_clauses.specs.Fact.{same_fact}
use Rattle.spec_clauses.proofs.Diffs.{same_diff-decides}
use Rattle.spec_clauses.proofs.Equality.{same_fact-decides}
use Rattle.spec_verdicts.proofs.Building.{take_next, take_past}
use Rattle.term_tree.specs.declared.bank.Id.{Id}
use Rattle.clause_diffs.specs.Diffs.{DiffOf, diff_at, diffs_at}
use Rattle.clause_form.specs.declared.facts.Fact.{Fact}
use Rattle.clause_form.specs.Facts.{fact_of}
use Rattle.clause_form.specs.Seen.{fact_at}

-- one item more is the same
pub same_next : {X : Type 0} (xs ys : List X) (i : ℕ) (x y : X) → slice_get xs i ≡ Some x → slice_get ys i ≡ Some y → x ≡ y → take i xs ≡ take i ys → take (i + 1) xs ≡ take (i + 1) ys
same_next xs ys i x y at there same so_far =
    take_next xs i x at ∙ (ap (λ zs. zs ++ x ∷ []) so_far ∙ (ap (λ z. take i ys ++ z ∷ []) same ∙ sym (take_next ys i y there)))

-- all are
pub same_all : {X : Type 0} (xs ys : List X) (i : ℕ) → length xs ≤ i → length ys ≤ i → take i xs ≡ take i ys → xs ≡ ys
same_all xs ys i past also same = sym (take_past xs i past) ∙ (same ∙ take_past ys i also)

abbrev pub trees_of : List Term → List Fact → List (horn.Fact Term)
trees_of all fs = map (fact_at all) (map fact_of fs)

pub tree_there : (all : List Term) (fs : List Fact) (i : ℕ) (f : Fact) → f ≡ get_or fs i f → i < length fs → slice_get (trees_of all fs) i ≡ Some (fact_at all (fact_of f))
tree_there all fs i f is within =
    let at : slice_get fs i ≡ Some f = slice_get_read fs (length fs) i f refl within is in
    slice_get-map (fact_at all) (map fact_of fs) i ∙ ap (λ o. option_map (fact_at all) o) (slice_get-map fact_of fs i ∙ ap (λ o. option_map fact_of o) at)

pub trees_count : (all : List Term) (fs : List Fact) → length (trees_of all fs) ≡ length fs
trees_count all fs = length-map (map fact_of fs) (fact_at all) ∙ length-map fs fact_of

pub same_told : (f g : horn.Fact Term) → same_fact f g ≡ true → f ≡ g
same_told f g = (same_fact-decides f g).0

-- the same of constraints
pub diff_there : (all : List Term) (ds : List (DiffOf Id)) (i : ℕ) (d : DiffOf Id) → d ≡ get_or ds i d → i < length ds → slice_get (diffs_at all ds) i ≡ Some (diff_at all d)
diff_there all ds i d is within = slice_get-map (diff_at all) ds i ∙ ap (λ o. option_map (diff_at all) o) (slice_get_read ds (length ds) i d refl within is)

pub same_diff_told : (d e : Diff) → same_diff d e ≡ true → d ≡ e
same_diff_told d e = (same_diff-decides d e).0
