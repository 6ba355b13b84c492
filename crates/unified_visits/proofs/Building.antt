-- Terms that are built under bindings.
use Rattle.std.proofs.Common.{◌≡◌, ℕ, zero, suc, ◌+◌, ◌<◌, ◌≤◌, Bool, true, false, cond, nat_eq, Option, Some, List, [], ◌∷◌, length, map, get_or, refl, ap, sym, subst, ◌∙◌, arith, eqb-true}
use Rattle.std.specs.Prelude.{MatchOption}
use Rattle.std.specs.Map.{lookup}
use Rattle.spec_trees.specs.Tree.{Leaf, trees, node, size, sizes, bind, depth, depths}
use Rattle.spec_trees.proofs.Rows.{bind-node}
use Rattle.spec_calculus.specs.Bounds.{most_symbols}
use Rattle.spec_terms.specs.Term.{Sym, Term, Subst}
use Rattle.spec_terms.specs.Binding.{resolved}
use Rattle.spec_terms.proofs.Replace.{some_none, some_same}
use Rattle.spec_terms.proofs.Resolve.{Solves-at}
use Rattle.term_tree.specs.Bank.{tree_at, AreKnown, Names, Grows}
use Rattle.term_tree.specs.declared.bank.Id.{Id}
use Rattle.term_tree.proofs.BankLaws.{Grows-length, Names-grows, tree_at-grows, trees_at-grow}
use Rattle.unify_match.specs.declared.bound.Bound.{Bound}
use Rattle.unify_match.specs.Trail.{id_of}
use Rattle.unify_match.specs.Seen.{seen, IsReady}
use Rattle.unify_match.proofs.SeenLemmas.{bound_to-seen, IsReady-solves}
use Rattle.clause_form.proofs.Renumber.{IsRenumbered}
use Rattle.unified_visits.specs.declared.built.Built.{Built}
use Rattle.unified_visits.specs.Built.{tree_under, IsUnder, built_of, IsBuilt, AreBuilt}
use Rattle.unified_visits.specs.Sizes.{is_over, some_over}
use Rattle.unified_visits.proofs.Under.{over_is, same_under}
use Rattle.unified_visits.proofs.Standing.{over_size, or_cases}

-- ids are told apart by their places
pub same_id : (a b : Id) → nat_eq a.index b.index ≡ true → a ≡ b
same_id a b e = let places = eqb-true a.index b.index e in λ i. record { index = places i }

-- nothing is built
pub none_built : (all : List Term) (pairs : List Bound) (built : Built) → built.table.entries ≡ [] → AreBuilt all pairs built
none_built all pairs built empty id made e = absurd (some_none (sym e ∙ ap (lookup (nat_eq id.index)) empty))

-- what was built stays so as the bank grows
pub AreBuilt-grows : (old now : List Term) (pairs : List Bound) (built : Built) → Grows old now → IsReady old pairs → AreBuilt old pairs built → AreBuilt now pairs built
AreBuilt-grows old now pairs built grows ready were id made e =
    let was = were id made e in
    let known = was.known in
    let longer = Grows-length old now grows in
    record {
      known = omega arith;
      names = subst (λ t. Names now made t) (sym (same_under old now pairs grows ready id was.known)) (Names-grows old now made (tree_under old pairs id) grows was.names);
    }

-- one more that is built
one_built : (all : List Term) (pairs : List Bound) (before after : Built) (id made : Id) → AreBuilt all pairs before → IsBuilt all pairs id made
    → ((other : Id) → built_of after other ≡ cond (nat_eq id.index other.index) (Some made) (built_of before other)) → AreBuilt all pairs after
one_built all pairs before after id made were more updates other found e = go (nat_eq id.index other.index) refl where
  go : (b : Bool) → nat_eq id.index other.index ≡ b → IsBuilt all pairs other found
  go true same =
      let is = same_id id other same in
      let made_is : made ≡ found = some_same (sym (updates other ∙ ap (λ b. cond b (Some made) (built_of before other)) same) ∙ e) in
      subst (λ (x : Id). IsBuilt all pairs other x) made_is (subst (λ (x : Id). IsBuilt all pairs x made) is more)
  go false differs = were other found (sym (updates other ∙ ap (λ b. cond b (Some made) (built_of before other)) differs) ∙ e)

pub built_more : (old mid new : List Term) (pairs : List Bound) (before after : Built) (id made : Id) → Grows old new → Grows mid new → IsReady old pairs → IsReady mid pairs → id.index < length old → AreBuilt mid pairs before → Names new made (tree_under old pairs id)
    → ((other : Id) → built_of after other ≡ cond (nat_eq id.index other.index) (Some made) (built_of before other)) → AreBuilt new pairs after
built_more old mid new pairs before after id made whole grows ready later known were names updates =
    let longer = Grows-length old new whole in
    one_built new pairs before after id made (AreBuilt-grows mid new pairs before grows later were)
    record { known = omega arith; names = subst (λ t. Names new made t) (sym (same_under old new pairs whole ready id known)) names } updates

-- what apply_bound tells
abbrev pub Applied : List Term → List Term → List Bound → Id → Option Id → Type 0
Applied old new pairs id found =
    MatchOption found ((most_symbols < size (tree_under old pairs id)) × (new ≡ old)) (λ built. (size (tree_under old pairs id) ≤ most_symbols) × Names new built (tree_under old pairs id))

pub applied_names : (old new : List Term) (pairs : List Bound) (id made : Id) (found : Option Id) → found ≡ Some made → Applied old new pairs id found → Names new made (tree_under old pairs id)
applied_names old new pairs id made found e h = (subst (λ o. Applied old new pairs id o) e h).1

-- a bound variable stands for what it is bound to
pub bound_is : (all : List Term) (pairs : List Bound) (id to : Id) (x : ℕ) → IsReady all pairs → tree_at all id ≡ Leaf x → id_of pairs x ≡ Some to → tree_under all pairs to ≡ tree_under all pairs id
bound_is all pairs id to x ready is e =
    let s = resolved (seen all pairs) in
    sym (Solves-at s (seen all pairs) x (tree_at all to) (IsReady-solves all pairs ready) (bound_to-seen all pairs x to e)) ∙ sym (ap (bind s) is)

pub under_same : (old new : List Term) (pairs : List Bound) (a b : Id) (found : Option Id) → tree_under old pairs a ≡ tree_under old pairs b → IsUnder old new pairs a found → IsUnder old new pairs b found
under_same old new pairs a b found e h = subst (λ (t : Term). MatchOption found (is_over most_symbols t ≡ true) (λ made. Names new made t)) e h

-- an application with an argument over the limit is over it
sizes_over : (most : ℕ) (ts : List Term) → some_over most ts ≡ true → most < sizes (trees ts)
sizes_over most [] e = absurd (let same = e in cc)
sizes_over most (t ∷ ts) e =
    let others = sizes_over most ts in
    or_cases (is_over most t) (some_over most ts) (most < size t + sizes (trees ts)) e (λ h. omega (arith, over_size most t h)) (λ h. omega (arith, others h))

pub application_over : (s : Subst) (old : List Term) (id : Id) (f : Sym) (ids : List Id) → tree_at old id ≡ node f (map (tree_at old) ids) → some_over most_symbols (map (bind s) (map (tree_at old) ids)) ≡ true → is_over most_symbols (bind s (tree_at old id)) ≡ true
application_over s old id f ids is over =
    let row = map (bind s) (map (tree_at old) ids) in
    let whole : bind s (tree_at old id) ≡ node f row = ap (bind s) is ∙ bind-node s f (map (tree_at old) ids) in
    let more = sizes_over most_symbols row over in
    ap (is_over most_symbols) whole ∙ over_is most_symbols (node f row) (omega (arith, more))

-- an application in a bank that grew
pub application_later : (old now : List Term) (id : Id) (f : Sym) (ids : List Id) → Grows old now → id.index < length old → AreKnown old ids → tree_at old id ≡ node f (map (tree_at old) ids) → Names now id (node f (map (tree_at now) ids))
application_later old now id f ids grows known parts is =
    let longer = Grows-length old now grows in
    record { known = omega arith; is = tree_at-grows old now id grows known ∙ (is ∙ ap (node f) (sym (trees_at-grow old now ids grows parts))) }

-- a term of a row is no deeper than the deepest
pub depth_at : (old now : List Term) (ids : List Id) (i : ℕ) (d : Id) → Grows old now → AreKnown old ids → i < length ids → depth (tree_at now (get_or ids i d)) ≤ depths (trees (map (tree_at old) ids))
depth_at old now ids i d grows known within = go ids i known within where
  go : (xs : List Id) (k : ℕ) → AreKnown old xs → k < length xs → depth (tree_at now (get_or xs k d)) ≤ depths (trees (map (tree_at old) xs))
  go [] k known within = absurd (omega arith)
  go (x ∷ xs) zero known within = let same = ap depth (tree_at-grows old now x grows known.0) in omega arith
  go (x ∷ xs) (suc k) known within = let others = go xs k known.1 (omega arith) in omega arith

-- how far a row is built
pub record AreTermsBuilt (old now : List Term) (pairs : List Bound) (ids : List Id) (i : ℕ) (made : List Id) (built : Built) : Type 0 where
  pub row : IsRenumbered old now (resolved (seen old pairs)) ids i made
  pub so_far : AreBuilt now pairs built
