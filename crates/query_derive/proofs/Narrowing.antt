-- Bindings that are extended step by step, and how terms, lists and facts are made one.
use Rattle.std.proofs.Common.{◌≡◌, ◌↔◌, ℕ, zero, suc, ◌+◌, ◌<◌, ◌≤◌, Bool, true, false, Option, Some, None, List, [], ◌∷◌, length, map, drop, get_or, add-one, slice_get, option_map, refl, ap, sym, ◌∙◌, arith}
use Rattle.std.specs.Prelude.{Result, Ok, Err, IfOk}
use Rattle.std.proofs.lemmas.List.{length-map}
use Rattle.std.proofs.lemmas.Simd.{map-map}
use Rattle.std.proofs.lemmas.Option.{slice_get_past, slice_get-map, slice_get_read}
use Rattle.spec_trees.specs.Tree.{Leaf, node, bind, trees, size, sizes}
use Rattle.spec_trees.proofs.Rows.{bind-node, node-injective}
use Rattle.spec_terms.specs.Term.{Sym, Term, Subst}
use Rattle.spec_terms.specs.Unifier.{Matches, MatchesAll}
use Rattle.spec_terms.specs.Binding.{Agrees}
use Rattle.spec_terms.proofs.Replace.{some_same, some_none}
use Rattle.spec_terms.proofs.Matches.{Agrees-at}
use Rattle.spec_clauses.specs.Fact.{Fact, Mev, Bad, fact_under}
use Rattle.spec_clauses.specs.Subsumption.{hypothesis_at}
use Rattle.term_tree.specs.Bank.{tree_at}
use Rattle.term_tree.specs.declared.bank.Id.{Id}
use Rattle.unify_match.specs.declared.bound.Bound.{Bound}
use Rattle.unify_match.specs.Trail.{Extends, id_of}
use Rattle.unify_match.specs.Seen.{seen, AreBindings}
use Rattle.unify_match.proofs.SeenLemmas.{bound_to-seen}
use Rattle.unify_match.proofs.Trails.{Extends-refl, Extends-trans}
use Rattle.clause_diffs.specs.declared.plain.Tree as declared
use Rattle.clause_form.specs.declared.facts.Fact as facts
use Rattle.clause_form.specs.Facts.{fact_of}
use Rattle.clause_form.specs.Plain.{term_of}
use Rattle.clause_form.specs.Seen.{fact_at}
use Rattle.clause_form.proofs.Comparing.{map_drop, map_dropped}
use Rattle.query_derive.specs.Narrowing.{Narrows, Excludes}

-- what was wanted of the substitutions with the old bindings is, with those of now, what remains
pub record Remains (all : List Term) (old now : List Bound) (Q R : Subst → Type 0) : Type 0 where
  pub bindings : AreBindings all now
  pub extends : Extends old now
  pub only : (s : Subst) → (Agrees s (seen all old) × Q s) ↔ (Agrees s (seen all now) × R s)

module _ (all : List Term) where
  pub remains_begin : (old : List Bound) (Q : Subst → Type 0) → AreBindings all old → Remains all old old Q Q
  remains_begin old Q bindings = record { bindings = bindings; extends = Extends-refl old; only = λ s. (λ h. h, λ h. h) }

  pub remains_on : (old now next : List Bound) (Q R M rest : Subst → Type 0) → Remains all old now Q R → ((s : Subst) → R s ↔ (M s × rest s))
      → AreBindings all next → Extends now next → Narrows all now next M → Remains all old next Q rest
  remains_on old now next Q R M rest was parts bindings extends step = record {
    bindings = bindings;
    extends = Extends-trans old now next was.extends extends;
    only = λ s. (
      λ h. let here = (was.only s).0 h in let both = (parts s).0 here.1 in ((step.only s).1 (here.0, both.0), both.1),
      λ h. let back = (step.only s).0 h.0 in (was.only s).1 (back.0, (parts s).1 (back.1, h.1)),
    );
  }

  pub remains_fail : (old now : List Bound) (Q R M : Subst → Type 0) → Remains all old now Q R → ((s : Subst) → R s → M s) → Excludes all now M → Excludes all old Q
  remains_fail old now Q R M was first never s agrees wanted = let here = (was.only s).0 (agrees, wanted) in never s here.0 (first s here.1)

  pub remains_end : (old now : List Bound) (Q R : Subst → Type 0) → Remains all old now Q R → ((s : Subst) → R s) → Narrows all old now Q
  remains_end old now Q R was done = record { only = λ s. (λ h. (was.only s).1 (h, done s), λ h. ((was.only s).0 h).0) }

  -- the same under another name
  pub narrows_same : (old new : List Bound) (Q R : Subst → Type 0) → ((s : Subst) → Q s ↔ R s) → Narrows all old new Q → Narrows all old new R
  narrows_same old new Q R same h = record { only = λ s. (λ a. let both = (h.only s).0 a in (both.0, (same s).0 both.1), λ b. (h.only s).1 (b.0, (same s).1 b.1)) }

  pub excludes_same : (old : List Bound) (Q R : Subst → Type 0) → ((s : Subst) → Q s ↔ R s) → Excludes all old Q → Excludes all old R
  excludes_same old Q R same never s agrees h = never s agrees ((same s).1 h)

  -- a variable that is bound to the term, to another, and to none yet
  pub narrows_bound : (pairs : List Bound) (x : ℕ) (bound : Id) (t : Term) → id_of pairs x ≡ Some bound → tree_at all bound ≡ t → Narrows all pairs pairs (λ s. s x ≡ t)
  narrows_bound pairs x bound t e same = record { only = λ s. (λ h. (h, Agrees-at s (seen all pairs) x (tree_at all bound) h (bound_to-seen all pairs x bound e) ∙ same), λ h. h.0) }

  pub excludes_bound : (pairs : List Bound) (x : ℕ) (bound : Id) (t : Term) → id_of pairs x ≡ Some bound → (tree_at all bound ≡ t → ⊥) → Excludes all pairs (λ s. s x ≡ t)
  excludes_bound pairs x bound t e differ s agrees is = differ (sym (Agrees-at s (seen all pairs) x (tree_at all bound) agrees (bound_to-seen all pairs x bound e)) ∙ is)

  pub narrows_bind : (pairs : List Bound) (b : Bound) → Narrows all pairs (b ∷ pairs) (λ s. s b.var ≡ tree_at all b.id)
  narrows_bind pairs b = record { only = λ s. (λ h. (h.1, h.0), λ h. (h.1, h.0)) }

-- the answers of a call under another name
module _ {E : Type 0} (all : List Term) (old new : List Bound) (Q R : Subst → Type 0) where
  pub yes_same : (r : Result Bool E) → ((s : Subst) → Q s ↔ R s) → IfOk r (λ yes. yes ≡ true → Narrows all old new Q) → IfOk r (λ yes. yes ≡ true → Narrows all old new R)
  yes_same (Ok b) same h = λ e. narrows_same all old new Q R same (h e)
  yes_same (Err x) same h = h

  pub no_same : (r : Result Bool E) → ((s : Subst) → Q s ↔ R s) → IfOk r (λ yes. yes ≡ false → Excludes all old Q) → IfOk r (λ yes. yes ≡ false → Excludes all old R)
  no_same (Ok b) same h = λ e. excludes_same all old Q R same (h e)
  no_same (Err x) same h = h

-- a node is made another exactly where its symbol is that one's, and so its list
pub node_made : (s : Subst) (f g : Sym) (ts us : List Term) (t : Term) → t ≡ node g us → Matches s (node f ts) t → (f ≡ g) × MatchesAll s ts us
node_made s f g ts us t is e = node-injective f g (map (bind s) ts) us (sym (bind-node s f ts) ∙ (e ∙ is))

pub node_is_made : (s : Subst) (f g : Sym) (ts us : List Term) (t : Term) → t ≡ node g us → f ≡ g → MatchesAll s ts us → Matches s (node f ts) t
node_is_made s f g ts us t is same e = bind-node s f ts ∙ (ap (node f) e ∙ (ap (λ h. node h us) same ∙ sym is))

pub variable_unmade : (s : Subst) (f : Sym) (ts : List Term) (x : ℕ) (t : Term) → t ≡ Leaf x → Matches s (node f ts) t → ⊥
variable_unmade s f ts x t is e = let both : bind s (node f ts) ≡ Leaf x = e ∙ is in cc

-- the terms from i on
pub matches_at : (all : List Term) (s : Subst) (ts : List declared.Tree) (ids : List Id) (i : ℕ) (t : declared.Tree) (d : Id) → i < length ts → i < length ids → t ≡ get_or ts i t
    → MatchesAll s (map term_of (drop i ts)) (map (tree_at all) (drop i ids))
    ↔ (Matches s (term_of t) (tree_at all (get_or ids i d)) × MatchesAll s (map term_of (drop (i + 1) ts)) (map (tree_at all) (drop (i + 1) ids)))
matches_at all s ts ids i t d in_ts in_ids is =
    let lefts : map (bind s) (map term_of (drop i ts)) ≡ bind s (term_of t) ∷ map (bind s) (map term_of (drop (i + 1) ts)) =
    ap (map (bind s)) (map_drop term_of ts i t in_ts) ∙ ap (λ u. bind s (term_of u) ∷ map (bind s) (map term_of (drop (i + 1) ts))) (sym is) in
    let rights : map (tree_at all) (drop i ids) ≡ tree_at all (get_or ids i d) ∷ map (tree_at all) (drop (i + 1) ids) = map_drop (tree_at all) ids i d in_ids in (
      λ e. let both : bind s (term_of t) ∷ map (bind s) (map term_of (drop (i + 1) ts)) ≡ tree_at all (get_or ids i d) ∷ map (tree_at all) (drop (i + 1) ids) = sym lefts ∙ (e ∙ rights) in (cc, cc),
      λ h. lefts ∙ (ap (λ u. u ∷ map (bind s) (map term_of (drop (i + 1) ts))) h.0 ∙ (ap (λ l. tree_at all (get_or ids i d) ∷ l) h.1 ∙ sym rights)),
    )

pub matches_past : (all : List Term) (s : Subst) (ts : List declared.Tree) (ids : List Id) (i : ℕ) → length ts ≤ i → length ids ≤ i → MatchesAll s (map term_of (drop i ts)) (map (tree_at all) (drop i ids))
matches_past all s ts ids i past_ts past_ids = ap (map (bind s)) (map_dropped term_of ts i past_ts) ∙ sym (map_dropped (tree_at all) ids i past_ids)

pub lengths_unmade : (s : Subst) (ts us : List Term) → (length ts ≡ length us → ⊥) → MatchesAll s ts us → ⊥
lengths_unmade s ts us differ e = differ (sym (length-map ts (bind s)) ∙ ap length e)

-- facts of the same kind
pub bad_made : (s : Subst) (ts us : List Term) (h : Fact Term) → h ≡ Bad us → MatchesAll s ts us ↔ (fact_under s (Bad ts) ≡ h)
bad_made s ts us h is = (λ e. ap Bad e ∙ sym is, λ e. let both : Bad (map (bind s) ts) ≡ Bad us = e ∙ is in cc)

pub mev_made : (s : Subst) (e g : ℕ) (ts us : List Term) (h : Fact Term) → h ≡ Mev g us → g ≡ e → MatchesAll s ts us ↔ (fact_under s (Mev e ts) ≡ h)
mev_made s e g ts us h is same = (
  λ k. ap (λ n. Mev n (map (bind s) ts)) (sym same) ∙ (ap (Mev g) k ∙ sym is),
  λ k. let both : Mev e (map (bind s) ts) ≡ Mev g us = k ∙ is in cc,
)

-- no term of a list has more symbols than all
pub tree_size_at : (ts : List declared.Tree) (i : ℕ) (t : declared.Tree) → i < length ts → t ≡ get_or ts i t → size (term_of t) ≤ sizes (trees (map term_of ts))
tree_size_at [] i t within is = absurd (omega arith)
tree_size_at (u ∷ ts) zero t within is = let same = ap (λ v. size (term_of v)) is in omega arith
tree_size_at (u ∷ ts) (suc i) t within is = omega (arith, tree_size_at ts i t (omega arith) is)

-- what is so of the fact at an index is so of the hypothesis at the position after it
pub hypothesis_there : {X : Type 0} (f : X → Fact Term) (hyps : List X) (index position : ℕ) (h : X) → position ≡ index + 1 → index < length hyps → h ≡ get_or hyps index h → hypothesis_at (map f hyps) position ≡ Some (f h)
hypothesis_there f hyps index position h next within is =
    let read : slice_get hyps index ≡ Some h = slice_get_read hyps (length hyps) index h refl within is in
    rw (next, add-one) (slice_get-map f hyps index ∙ ap (option_map f) read)

pub fact_there : (all : List Term) (hyps : List facts.Fact) (k : ℕ) (h : facts.Fact) → k < length hyps → h ≡ get_or hyps k h → hypothesis_at (map (fact_at all) (map fact_of hyps)) (k + 1) ≡ Some (fact_at all (fact_of h))
fact_there all hyps k h within is =
    ap (λ hs. hypothesis_at hs (k + 1)) (map-map (fact_at all) fact_of hyps) ∙ hypothesis_there (λ f. fact_at all (fact_of f)) hyps k (k + 1) h refl within is

pub hypothesis_past : (hyps : List (Fact Term)) (position : ℕ) → length hyps < position → hypothesis_at hyps position ≡ None
hypothesis_past hyps zero past = refl
hypothesis_past hyps (suc index) past = slice_get_past hyps index (omega arith)

pub some_made : (s : Subst) (e h : Fact Term) (o : Option (Fact Term)) → o ≡ Some h → (fact_under s e ≡ h) ↔ (Some (fact_under s e) ≡ o)
some_made s e h o is = (λ k. ap Some k ∙ sym is, λ k. some_same (k ∙ is))

pub none_made : (s : Subst) (e : Fact Term) (o : Option (Fact Term)) → o ≡ None → Some (fact_under s e) ≡ o → ⊥
none_made s e o is k = some_none (k ∙ is)
