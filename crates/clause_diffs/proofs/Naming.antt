-- Ids that name terms, and constraints: as the bank grows, and with one more.
use Rattle.std.proofs.Common.{◌≡◌, ℕ, ◌+◌, ◌<◌, ◌≤◌, Bool, List, [], ◌∷◌, ◌++◌, length, map, filter, take, get_or, refl, ap, sym, ◌∙◌, subst, cond, true, false}
use Rattle.std.proofs.lemmas.List.{map-append, map_more, take_all}
use Rattle.std.proofs.lemmas.Simd.{map-map}
use Rattle.spec_trees.specs.Tree.{node, bind}
use Rattle.spec_trees.proofs.Rows.{bind-node}
use Rattle.spec_terms.specs.Term.{Sym, Term, Subst}
use Rattle.spec_clauses.specs.Diff.{Diff}
use Rattle.spec_clauses.specs.Shown.{diff_shown}
use Rattle.spec_clauses.proofs.Lists.{filter-map}
use Rattle.term_tree.specs.Bank.{tree_at, Names, Grows}
use Rattle.term_tree.specs.declared.bank.Id.{Id}
use Rattle.term_tree.proofs.BankLaws.{Grows_refl, Grows_trans, AreKnown-grows, AreKnown-append, trees_at-grow}
use Rattle.clause_diffs.specs.Diffs.{DiffOf, diff_at, diffs_at, IsDiffIn, AreDiffsIn, NameTerms, NamesDiff, NameDiffs}

pub NameTerms-grows : (a b : List Term) (ids : List Id) (ts : List Term) → Grows a b → NameTerms a ids ts → NameTerms b ids ts
NameTerms-grows a b ids ts grows names = record { known = AreKnown-grows a b ids grows names.known; are = trees_at-grow a b ids grows names.known ∙ names.are }

pub NameTerms-push : (all : List Term) (ids : List Id) (ts : List Term) (id : Id) (t : Term) → NameTerms all ids ts → Names all id t → NameTerms all (ids ++ id ∷ []) (ts ++ t ∷ [])
NameTerms-push all ids ts id t names more = record {
  known = AreKnown-append all ids id names.known more.known;
  are = map-append (tree_at all) ids (id ∷ []) ∙ (ap (λ l. l ++ tree_at all id ∷ []) names.are ∙ ap (λ u. ts ++ u ∷ []) more.is);
}

-- constraints in a bank that grew
pub IsDiffIn-grows : (a b : List Term) (d : DiffOf Id) → Grows a b → IsDiffIn a d → IsDiffIn b d
IsDiffIn-grows a b d grows known = record { left = AreKnown-grows a b d.left grows known.left; right = AreKnown-grows a b d.right grows known.right }

pub diff_at-grows : (a b : List Term) (d : DiffOf Id) → Grows a b → IsDiffIn a d → diff_at b d ≡ diff_at a d
diff_at-grows a b d grows known =
    let left = trees_at-grow a b d.left grows known.left in
    let right = trees_at-grow a b d.right grows known.right in
    λ i. diff_shown record { first = d.first; left = left i; right = right i }

pub AreDiffsIn-grows : (a b : List Term) (ds : List (DiffOf Id)) → Grows a b → AreDiffsIn a ds → AreDiffsIn b ds
AreDiffsIn-grows a b [] grows known = tt
AreDiffsIn-grows a b (d ∷ ds) grows known = (IsDiffIn-grows a b d grows known.0, AreDiffsIn-grows a b ds grows known.1)

pub diffs_at-grow : (a b : List Term) (ds : List (DiffOf Id)) → Grows a b → AreDiffsIn a ds → diffs_at b ds ≡ diffs_at a ds
diffs_at-grow a b [] grows known = refl
diffs_at-grow a b (d ∷ ds) grows known = let first = diff_at-grows a b d grows known.0 in let others = diffs_at-grow a b ds grows known.1 in λ i. first i ∷ others i

pub NameDiffs-grows : (a b : List Term) (ds : List (DiffOf Id)) (trees : List Diff) → Grows a b → NameDiffs a ds trees → NameDiffs b ds trees
NameDiffs-grows a b ds trees grows names = record { known = AreDiffsIn-grows a b ds grows names.known; are = diffs_at-grow a b ds grows names.known ∙ names.are }

pub AreDiffsIn-append : (all : List Term) (ds es : List (DiffOf Id)) → AreDiffsIn all ds → AreDiffsIn all es → AreDiffsIn all (ds ++ es)
AreDiffsIn-append all [] es known more = more
AreDiffsIn-append all (d ∷ ds) es known more = (known.0, AreDiffsIn-append all ds es known.1 more)

pub NameDiffs-push : (all : List Term) (ds : List (DiffOf Id)) (trees : List Diff) (d : DiffOf Id) (tree : Diff) → NameDiffs all ds trees → NamesDiff all d tree → NameDiffs all (ds ++ d ∷ []) (trees ++ tree ∷ [])
NameDiffs-push all ds trees d tree names more = record {
  known = AreDiffsIn-append all ds (d ∷ []) names.known (more.known, tt);
  are = map-append (diff_at all) ds (d ∷ []) ∙ (ap (λ l. l ++ diff_at all d ∷ []) names.are ∙ ap (λ e. trees ++ e ∷ []) more.is);
}

-- what passes a test of what it names
filter_known : (all : List Term) (p : DiffOf Id → Bool) (ds : List (DiffOf Id)) → AreDiffsIn all ds → AreDiffsIn all (filter p ds)
filter_known all p [] known = tt
filter_known all p (d ∷ ds) known = go (p d) (filter_known all p ds known.1) where
  go : (b : Bool) → AreDiffsIn all (filter p ds) → AreDiffsIn all (cond b (d ∷ filter p ds) (filter p ds))
  go true rest = (known.0, rest)
  go false rest = rest

pub filtered : (all : List Term) (p : Diff → Bool) (ds kept : List (DiffOf Id)) → AreDiffsIn all ds → kept ≡ filter (λ d. p (diff_at all d)) ds → NameDiffs all kept (filter p (diffs_at all ds))
filtered all p ds kept known e = record {
  known = subst (λ (l : List (DiffOf Id)). AreDiffsIn all l) (sym e) (filter_known all (λ d. p (diff_at all d)) ds known);
  are = ap (diffs_at all) e ∙ sym (filter-map (diff_at all) p ds);
}

-- what a term of the bank is under s
abbrev pub under_at : Subst → List Term → Id → Term
under_at s all id = bind s (tree_at all id)

-- how far terms are made what they are under s
pub record IsRenumbered (old now : List Term) (s : Subst) (ids : List Id) (i : ℕ) (made : List Id) : Type 0 where
  pub grows : Grows old now
  pub names : NameTerms now made (map (under_at s old) (take i ids))

pub renumbered_on : (old now next : List Term) (s : Subst) (ids : List Id) (i : ℕ) (d : Id) (made new : List Id) (id : Id) → IsRenumbered old now s ids i made → i < length ids → Grows now next
    → tree_at now (get_or ids i d) ≡ tree_at old (get_or ids i d) → Names next id (under_at s now (get_or ids i d)) → new ≡ made ++ id ∷ [] → IsRenumbered old next s ids (i + 1) new
renumbered_on old now next s ids i d made new id was within grows same names e =
    let more : map (under_at s old) (take (i + 1) ids) ≡ map (under_at s old) (take i ids) ++ under_at s now (get_or ids i d) ∷ [] = map_more (under_at s old) ids i d within ∙ ap (λ t. map (under_at s old) (take i ids) ++ bind s t ∷ []) (sym same) in
    record {
      grows = Grows_trans old now next was.grows grows;
      names = subst (λ (l : List Id). NameTerms next l (map (under_at s old) (take (i + 1) ids))) (sym e)
          (subst (λ (l : List Term). NameTerms next (made ++ id ∷ []) l) (sym more) (NameTerms-push next made (map (under_at s old) (take i ids)) id (under_at s now (get_or ids i d)) (NameTerms-grows now next made (map (under_at s old) (take i ids)) grows was.names) names));
    }

-- all of them
pub renumbered_all : (old now : List Term) (s : Subst) (ids : List Id) (i : ℕ) (made : List Id) → IsRenumbered old now s ids i made → length ids ≤ i → NameTerms now made (map (bind s) (map (tree_at old) ids))
renumbered_all old now s ids i made was past =
    let whole : map (under_at s old) (take i ids) ≡ map (bind s) (map (tree_at old) ids) = ap (map (under_at s old)) (take_all i ids past) ∙ sym (map-map (bind s) (tree_at old) ids) in
    subst (λ (l : List Term). NameTerms now made l) whole was.names

-- so an application over them is the term under s
pub renumbered_node : (old now : List Term) (s : Subst) (id : Id) (f : Sym) (ids made : List Id) → tree_at old id ≡ node f (map (tree_at old) ids) → NameTerms now made (map (bind s) (map (tree_at old) ids)) → node f (map (tree_at now) made) ≡ bind s (tree_at old id)
renumbered_node old now s id f ids made is names = ap (node f) names.are ∙ (sym (bind-node s f (map (tree_at old) ids)) ∙ ap (bind s) (sym is))

pub renumbered_none : (old : List Term) (s : Subst) (ids made : List Id) → made ≡ [] → IsRenumbered old old s ids 0 made
renumbered_none old s ids made e = subst (λ (l : List Id). IsRenumbered old old s ids 0 l) (sym e) record { grows = Grows_refl old; names = record { known = tt; are = refl } }
