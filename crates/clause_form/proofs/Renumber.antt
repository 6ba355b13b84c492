-- Terms, facts and clauses of a bank with their variables renumbered.
use Rattle.std.proofs.Common.{◌≡◌, ◌↔◌, ℕ, ◌+◌, ◌<◌, ◌≤◌, Bool, true, List, [], ◌∷◌, ◌++◌, length, map, take, drop, get_or, refl, ap, sym, ◌∙◌, append-nil, append_assoc, subst, arith}
use Rattle.std.proofs.lemmas.List.{map_more, take_all}
use Rattle.std.proofs.lemmas.Simd.{map-map}
use Rattle.std.proofs.Math.Seq.{drop-append_seam}
use Rattle.spec_trees.specs.Tree.{Leaf, node, bind}
use Rattle.spec_terms.specs.Term.{Sym, Term, Subst}
use Rattle.spec_clauses.specs.Fact.{Fact, fact_under}
use Rattle.spec_clauses.specs.Norm.{place_of}
use Rattle.term_tree.specs.Bank.{tree_at, AreKnown, Names, Grows}
use Rattle.term_tree.specs.declared.bank.Id.{Id}
use Rattle.term_tree.proofs.BankLaws.{Grows_refl, Grows_trans, Grows-length, tree_at-grows, trees_at-grow}
use Rattle.unify_match.specs.Substitution.{arguments}
use Rattle.unify_match.proofs.Substituting.{length-arguments, argument-at}
use Rattle.clause_form.specs.declared.facts.Fact as declared
use Rattle.clause_form.specs.Facts.{fact_of}
use Rattle.clause_diffs.specs.Numbers.{placed}
use Rattle.clause_form.specs.Seen.{fact_at, IsFactIn, NameTerms, NamesFact, NameFacts}
pub use Rattle.clause_diffs.proofs.Naming.{under_at, IsRenumbered, renumbered_on, renumbered_all, renumbered_node}
use Rattle.clause_form.proofs.Walks.{argument_later}
use Rattle.clause_form.proofs.Copying.{fact_at-grows, NameFacts-grows, NameFacts-push}
use Rattle.std.proofs.lemmas.List.{map-append}

-- How far the arguments of an application are renumbered that wait on a stack; `kept` says that each is what it was.
pub record IsStacked (old now : List Term) (s : Subst) (id : Id) (f : Sym) (count : ℕ) (before stack : List Id) (i : ℕ) (kept : Bool) : Type 0 where
  pub ids : List Id
  pub counted : count ≡ length ids
  pub is : tree_at old id ≡ node f (map (tree_at old) ids)
  pub parts : AreKnown old ids
  pub built : List Id
  pub stacked : stack ≡ before ++ built
  pub grows : Grows old now
  pub names : NameTerms now built (map (under_at s old) (take i ids))
  pub same : kept ≡ true → map (tree_at now) built ≡ map (tree_at old) (take i ids)

pub stacked_begins : (old : List Term) (s : Subst) (id : Id) (f : Sym) (ids before : List Id) → tree_at old id ≡ node f (map (tree_at old) ids) → AreKnown old ids → IsStacked old old s id f (length ids) before before 0 true
stacked_begins old s id f ids before is parts = record {
  ids = ids;
  counted = refl;
  is = is;
  parts = parts;
  built = [];
  stacked = sym (append-nil before);
  grows = Grows_refl old;
  names = record { known = tt; are = refl };
  same = λ h. refl;
}

-- the argument at a place, in a bank that grew
pub part_at : (old now : List Term) (id part : Id) (f : Sym) (ids : List Id) (i : ℕ) (d : Id) → Grows old now → id.index < length old → tree_at old id ≡ node f (map (tree_at old) ids) → i < length ids → tree_at now part ≡ get_or (arguments (tree_at now id)) i (Leaf 0)
    → tree_at now part ≡ tree_at old (get_or ids i d)
part_at old now id part f ids i d grows known is within found = found ∙ (ap (λ u. get_or (arguments u) i (Leaf 0)) (tree_at-grows old now id grows known) ∙ sym (argument-at old (tree_at old id) f ids i d is within))

pub parts_count : (old now : List Term) (id : Id) (f : Sym) (ids : List Id) → Grows old now → id.index < length old → tree_at old id ≡ node f (map (tree_at old) ids) → length ids ≡ length (arguments (tree_at now id))
parts_count old now id f ids grows known is = length-arguments old (tree_at old id) f ids is ∙ ap (λ u. length (arguments u)) (sym (tree_at-grows old now id grows known))

-- one argument more
pub stacked_on : (old now next : List Term) (s : Subst) (id : Id) (f : Sym) (count : ℕ) (before stack new : List Id) (i : ℕ) (kept after : Bool) (part made : Id) → id.index < length old → IsStacked old now s id f count before stack i kept → i < count → part.index < length now
    → tree_at now part ≡ get_or (arguments (tree_at now id)) i (Leaf 0) → Grows now next → Names next made (bind s (tree_at now part)) → ((after ≡ true) ↔ ((kept ≡ true) × (made ≡ part))) → new ≡ stack ++ made ∷ [] → IsStacked old next s id f count before new (i + 1) after
stacked_on old now next s id f count before stack new i kept after part made here was within known found grows names all_kept e =
    let d : Id = record { index = 0 } in
    let less : i < length was.ids = omega (arith, was.counted) in
    let is = part_at old now id part f was.ids i d was.grows here was.is less found in
    let later = (argument_later old now id f was.ids i d was.grows was.is was.parts less).2 in
    let named : Names next made (under_at s now (get_or was.ids i d)) = record { known = names.known; is = names.is ∙ ap (bind s) (is ∙ sym later) } in
    let on = renumbered_on old now next s was.ids i d was.built (was.built ++ made ∷ []) made record { grows = was.grows; names = was.names } less grows later named refl in
    let earlier : map (tree_at next) was.built ≡ map (tree_at now) was.built = trees_at-grow now next was.built grows was.names.known in
    record {
      ids = was.ids;
      counted = was.counted;
      is = was.is;
      parts = was.parts;
      built = was.built ++ made ∷ [];
      stacked = e ∙ (ap (λ l. l ++ made ∷ []) was.stacked ∙ append_assoc before was.built (made ∷ []));
      grows = on.grows;
      names = on.names;
      same = λ h.
          let parts = all_kept.0 h in
          let this : tree_at next made ≡ tree_at old (get_or was.ids i d) = ap (tree_at next) parts.1 ∙ (tree_at-grows now next part grows known ∙ is) in
          map-append (tree_at next) was.built (made ∷ [])
          ∙ (ap (λ l. l ++ tree_at next made ∷ []) (earlier ∙ was.same parts.0) ∙ (ap (λ t. map (tree_at old) (take i was.ids) ++ t ∷ []) this ∙ sym (map_more (tree_at old) was.ids i d less)));
    }

-- where each is what it was, so is the term
pub stacked_same : (old now : List Term) (s : Subst) (id : Id) (f : Sym) (count : ℕ) (before stack : List Id) (i : ℕ) (kept : Bool) → id.index < length old → IsStacked old now s id f count before stack i kept → count ≤ i → kept ≡ true → Names now id (bind s (tree_at old id))
stacked_same old now s id f count before stack i kept known was past all_kept =
    let all_of : length was.ids ≤ i = omega (arith, was.counted) in
    record {
      known = let longer = Grows-length old now was.grows in omega arith;
      is = tree_at-grows old now id was.grows known
          ∙ (was.is ∙ (ap (node f) (sym (was.same all_kept ∙ ap (map (tree_at old)) (take_all i was.ids all_of)))
          ∙ renumbered_node old now s id f was.ids was.built was.is (renumbered_all old now s was.ids i was.built record { grows = was.grows; names = was.names } all_of)));
    }

-- and else what waits on the stack stands under the symbol
pub stacked_known : (old now : List Term) (s : Subst) (id : Id) (f : Sym) (count : ℕ) (before stack : List Id) (i : ℕ) (kept : Bool) → IsStacked old now s id f count before stack i kept → AreKnown now (drop (length before) stack)
stacked_known old now s id f count before stack i kept was = subst (λ (l : List Id). AreKnown now l) (sym (ap (drop (length before)) was.stacked ∙ drop-append_seam before was.built)) was.names.known

pub stacked_ends : (old now : List Term) (s : Subst) (id : Id) (f : Sym) (count : ℕ) (before stack : List Id) (i : ℕ) (kept : Bool) → IsStacked old now s id f count before stack i kept → count ≤ i → node f (map (tree_at now) (drop (length before) stack)) ≡ bind s (tree_at old id)
stacked_ends old now s id f count before stack i kept was past =
    let all_of : length was.ids ≤ i = omega (arith, was.counted) in
    ap (λ l. node f (map (tree_at now) l)) (ap (drop (length before)) was.stacked ∙ drop-append_seam before was.built) ∙ renumbered_node old now s id f was.ids was.built was.is (renumbered_all old now s was.ids i was.built record { grows = was.grows; names = was.names } all_of)

pub renumbered_variable : (all : List Term) (order : List ℕ) (id : Id) (x at : ℕ) → id.index < length all → tree_at all id ≡ Leaf x → at ≡ place_of x order → at ≡ x → Names all id (bind (placed order) (tree_at all id))
renumbered_variable all order id x at known is placed_at same = record { known = known; is = is ∙ (ap (λ n. Leaf n) (sym same ∙ placed_at) ∙ sym (ap (bind (placed order)) is)) }

pub renamed_variable : (order : List ℕ) (t : Term) (x at : ℕ) → t ≡ Leaf x → at ≡ place_of x order → Leaf at ≡ bind (placed order) t
renamed_variable order t x at is placed_at = ap (λ n. Leaf n) placed_at ∙ sym (ap (bind (placed order)) is)

-- how far facts are renumbered
pub record AreRenumbered (old now : List Term) (s : Subst) (fs : List declared.Fact) (i : ℕ) (made : List declared.Fact) : Type 0 where
  pub grows : Grows old now
  pub names : NameFacts now (map fact_of made) (map (λ f. fact_under s (fact_at old (fact_of f))) (take i fs))

pub facts_renumbered_on : (old now next : List Term) (s : Subst) (fs : List declared.Fact) (i : ℕ) (f : declared.Fact) (made new : List declared.Fact) (g : declared.Fact) → AreRenumbered old now s fs i made → i < length fs → f ≡ get_or fs i f → IsFactIn old (fact_of f)
    → Grows now next → NamesFact next (fact_of g) (fact_under s (fact_at now (fact_of f))) → new ≡ made ++ g ∷ [] → AreRenumbered old next s fs (i + 1) new
facts_renumbered_on old now next s fs i f made new g was within is known grows names e =
    let same : fact_under s (fact_at now (fact_of f)) ≡ fact_under s (fact_at old (fact_of f)) = ap (fact_under s) (fact_at-grows old now (fact_of f) was.grows known) in
    let more : map (λ x. fact_under s (fact_at old (fact_of x))) (take (i + 1) fs) ≡ map (λ x. fact_under s (fact_at old (fact_of x))) (take i fs) ++ fact_under s (fact_at now (fact_of f)) ∷ [] =
    map_more (λ x. fact_under s (fact_at old (fact_of x))) fs i f within ∙ (ap (λ x. map (λ y. fact_under s (fact_at old (fact_of y))) (take i fs) ++ fact_under s (fact_at old (fact_of x)) ∷ []) (sym is) ∙ ap (λ t. map (λ y. fact_under s (fact_at old (fact_of y))) (take i fs) ++ t ∷ []) (sym same)) in
    let pushed : map fact_of new ≡ map fact_of made ++ fact_of g ∷ [] = ap (map fact_of) e ∙ map-append fact_of made (g ∷ []) in
    record {
      grows = Grows_trans old now next was.grows grows;
      names = subst (λ (l : List (Fact Id)). NameFacts next l (map (λ x. fact_under s (fact_at old (fact_of x))) (take (i + 1) fs))) (sym pushed)
          (subst (λ (l : List (Fact Term)). NameFacts next (map fact_of made ++ fact_of g ∷ []) l) (sym more)
          (NameFacts-push next (map fact_of made) (map (λ x. fact_under s (fact_at old (fact_of x))) (take i fs)) (fact_of g) (fact_under s (fact_at now (fact_of f))) (NameFacts-grows now next (map fact_of made) (map (λ x. fact_under s (fact_at old (fact_of x))) (take i fs)) grows was.names) names));
    }

pub facts_renumbered : (old now : List Term) (s : Subst) (fs : List declared.Fact) (i : ℕ) (made : List declared.Fact) → AreRenumbered old now s fs i made → length fs ≤ i → NameFacts now (map fact_of made) (map (fact_under s) (map (fact_at old) (map fact_of fs)))
facts_renumbered old now s fs i made was past =
    let whole : map (λ x. fact_under s (fact_at old (fact_of x))) (take i fs) ≡ map (fact_under s) (map (fact_at old) (map fact_of fs)) =
    ap (map (λ x. fact_under s (fact_at old (fact_of x)))) (take_all i fs past) ∙ (sym (map-map (λ h. fact_under s (fact_at old h)) fact_of fs) ∙ sym (map-map (fact_under s) (fact_at old) (map fact_of fs))) in
    subst (λ (l : List (Fact Term)). NameFacts now (map fact_of made) l) whole was.names
