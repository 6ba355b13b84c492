-- Scopes under bindings, and visits under bindings.
use Rattle.std.proofs.Common.{◌≡◌, ℕ, ◌+◌, ◌<◌, ◌≤◌, Bool, true, false, not, ◌||◌, nat_le, List, [], ◌∷◌, ◌++◌, length, map, take, get_or, refl, ap, sym, subst, ◌∙◌, arith}
use Rattle.std.specs.Prelude.{flat_map}
use Rattle.std.specs.List.{AllByRecursion, list_any}
use Rattle.std.proofs.lemmas.Bool.Decides.{nat_tests}
use Rattle.std.proofs.lemmas.List.{map-append, map_more, take_all}
use Rattle.spec_trees.specs.Tree.{Trees, Leaf, Node, none, more, bind, binds, size}
use Rattle.spec_trees.specs.Leaves.{leaves, row_leaves}
use Rattle.spec_calculus.specs.Bounds.{most_symbols}
use Rattle.spec_terms.specs.Term.{Sym, Term, Subst}
use Rattle.spec_clauses.specs.Fact.{Fact, Att, Mess, Tab, Ev, Mev, Bad, terms_of, fact_under, fact_size, total}
use Rattle.spec_clauses.specs.Diff.{Slot, Own, Bound, Side, Diff, own, own_of, sides, side_slots, slot_under, diff_variables, diff_under}
use Rattle.std.proofs.lemmas.List.Concat.{flat_map-append}
use Rattle.spec_clauses.specs.Variables.{IsBelow, AreBelow}
use Rattle.spec_clauses.proofs.Lists.{all_append, all_first, all_second}
use Rattle.spec_translation.specs.Conversion.{StandsFor, Scope}
use Rattle.spec_translation.specs.Visit.{Visit, standing_under, visit_under, is_large_term, is_large_visit}
use Rattle.pi_tree.specs.Slots.{name_of}
use Rattle.term_tree.specs.Bank.{tree_at, Names, Grows}
use Rattle.term_tree.specs.declared.bank.Id.{Id}
use Rattle.term_tree.proofs.BankLaws.{Grows_refl, Grows_trans}
use Rattle.clause_terms.specs.declared.scopes.Standing as source
use Rattle.clause_terms.specs.Scopes.{Held, scope_at, NamesScope}
use Rattle.clause_terms.specs.Slots.{held_of}
use Rattle.unified_visits.specs.Sizes.{is_over, some_over, some_over_in, some_fact_over, some_standing_over}
use Rattle.unified_visits.specs.Solving.{HasBelow}
use Rattle.unified_visits.proofs.Scopes.{NamesScope-grows}
use Rattle.unified_visits.proofs.Named.{Below, NamesScope-push}
use Rattle.unified_visits.proofs.Lists.{any_at}

-- what a standing of the source is under s
abbrev pub stood : Subst → List Term → source.Standing → StandsFor
stood s old b = record { name = name_of b.slot; term = bind s (tree_at old b.term) }

-- how far a scope has come
pub record IsStanding (old now : List Term) (s : Subst) (scope : List source.Standing) (i : ℕ) (made : List source.Standing) : Type 0 where
  pub grows : Grows old now
  pub names : NamesScope now (map held_of made) (map (stood s old) (take i scope))

pub stood_first : (old : List Term) (s : Subst) (scope : List source.Standing) → IsStanding old old s scope 0 []
stood_first old s scope = record { grows = Grows_refl old; names = record { known = tt; is = refl } }

pub stood_on : (old now next : List Term) (s : Subst) (scope : List source.Standing) (i : ℕ) (d : source.Standing) (made new : List source.Standing) (id : Id) → IsStanding old now s scope i made → i < length scope → Grows now next
    → Names next id (bind s (tree_at old (get_or scope i d).term)) → new ≡ made ++ record { slot = (get_or scope i d).slot; term = id } ∷ [] → IsStanding old next s scope (i + 1) new
stood_on old now next s scope i d made new id was within grows names e =
    let b = get_or scope i d in
    let more : map (stood s old) (take (i + 1) scope) ≡ map (stood s old) (take i scope) ++ stood s old b ∷ [] = map_more (stood s old) scope i d within in
    let pushed : map held_of new ≡ map held_of made ++ record { name = name_of b.slot; id = id } ∷ [] = ap (map held_of) e ∙ map-append held_of made (record { slot = b.slot; term = id } ∷ []) in
    let before : NamesScope next (map held_of made) (map (stood s old) (take i scope)) = NamesScope-grows now next (map held_of made) (map (stood s old) (take i scope)) grows was.names in
    record {
      grows = Grows_trans old now next was.grows grows;
      names = subst (λ (l : List Held). NamesScope next l (map (stood s old) (take (i + 1) scope))) (sym pushed)
          (subst (λ (l : Scope). NamesScope next (map held_of made ++ record { name = name_of b.slot; id = id } ∷ []) l) (sym more)
          (NamesScope-push next (map held_of made) (map (stood s old) (take i scope)) (name_of b.slot) id (bind s (tree_at old b.term)) before names));
    }

stood_is : (s : Subst) (old : List Term) (scope : List source.Standing) → map (stood s old) scope ≡ map (standing_under s) (scope_at old (map held_of scope))
stood_is s old [] = refl
stood_is s old (b ∷ scope) = let others = stood_is s old scope in λ i. stood s old b ∷ others i

pub stood_all : (old now : List Term) (s : Subst) (scope : List source.Standing) (i : ℕ) (made : List source.Standing) → IsStanding old now s scope i made → length scope ≤ i → NamesScope now (map held_of made) (map (standing_under s) (scope_at old (map held_of scope)))
stood_all old now s scope i made was past =
    subst (λ (l : Scope). NamesScope now (map held_of made) l) (ap (map (stood s old)) (take_all i scope past) ∙ stood_is s old scope) was.names

pub standing_over_at : (old : List Term) (s : Subst) (scope : List source.Standing) (i : ℕ) (d : source.Standing) (most : ℕ) → i < length scope → is_over most (bind s (tree_at old (get_or scope i d).term)) ≡ true
    → some_standing_over most (map (standing_under s) (scope_at old (map held_of scope))) ≡ true
standing_over_at old s scope i d most within e =
    subst (λ (l : Scope). some_standing_over most l ≡ true) (stood_is s old scope) (any_at (λ b. is_over most b.term) (stood s old) scope i d within e)

-- a fact with a term that is over the limit is over it
pub over_size : (most : ℕ) (t : Term) → is_over most t ≡ true → most < size t
over_size most t e = go (nat_le (size t) most) refl e where
  go : (b : Bool) → nat_le (size t) most ≡ b → not b ≡ true → most < size t
  go true h k = absurd (let same = k in cc)
  go false h k = grind (arith, nat_tests, h)

over_is : (most n : ℕ) → most < n → not (nat_le n most) ≡ true
over_is most n h = let e : nat_le n most ≡ false = grind (arith, nat_tests) in ap not e

pub or_cases : (a b : Bool) (Q : Type 0) → (a || b) ≡ true → (a ≡ true → Q) → (b ≡ true → Q) → Q
or_cases true b Q e f h = f refl
or_cases false b Q e f h = h e

over_total : (most : ℕ) (ts : List Term) → some_over most ts ≡ true → most < total size ts
over_total most [] e = absurd (let same = e in cc)
over_total most (t ∷ ts) e =
    let others = over_total most ts in
    or_cases (is_over most t) (some_over most ts) (most < size t + total size ts) e (λ h. omega (arith, over_size most t h)) (λ h. omega (arith, others h))

fact_over : (most : ℕ) (f : Fact Term) → some_over_in most f ≡ true → most < fact_size f
fact_over most (Att k t) e = omega (arith, over_total most (t ∷ []) e)
fact_over most (Mess k t u) e = omega (arith, over_total most (t ∷ u ∷ []) e)
fact_over most (Tab n ts) e = omega (arith, over_total most ts e)
fact_over most (Ev k ts) e = omega (arith, over_total most ts e)
fact_over most (Mev k ts) e = omega (arith, over_total most ts e)
fact_over most (Bad ts) e = omega (arith, over_total most ts e)

or_second : (a b : Bool) → b ≡ true → (a || b) ≡ true
or_second true b e = refl
or_second false b e = e

facts_over : (fs : List (Fact Term)) → some_fact_over most_symbols fs ≡ true → list_any (λ h. not (nat_le (fact_size h) most_symbols)) fs ≡ true
facts_over [] e = e
facts_over (f ∷ fs) e =
    let others = facts_over fs in
    or_cases (some_over_in most_symbols f) (some_fact_over most_symbols fs) (list_any (λ h. not (nat_le (fact_size h) most_symbols)) (f ∷ fs) ≡ true) e
    (λ h. ap (λ b. b || list_any (λ h. not (nat_le (fact_size h) most_symbols)) fs) (over_is most_symbols (fact_size f) (fact_over most_symbols f h)))
    (λ h. or_second (not (nat_le (fact_size f) most_symbols)) (list_any (λ h. not (nat_le (fact_size h) most_symbols)) fs) (others h))

pub scope_large : (v : Visit) → some_standing_over most_symbols v.scope ≡ true → is_large_visit v ≡ true
scope_large v e = ap (λ b. b || list_any (λ h. not (nat_le (fact_size h) most_symbols)) v.hypotheses) e

pub hypotheses_large : (v : Visit) → some_fact_over most_symbols v.hypotheses ≡ true → is_large_visit v ≡ true
hypotheses_large v e = or_second (list_any (λ b. is_large_term b.term) v.scope) (list_any (λ h. not (nat_le (fact_size h) most_symbols)) v.hypotheses) (facts_over v.hypotheses e)

-- the variables of a term as a side are the term's
mutual
  own_leaves : (t : Term) → flat_map own_of (leaves (own t)) ≡ leaves t
  own_leaves (Leaf x) = refl
  own_leaves (Node f ts) = own_row_leaves ts

  own_row_leaves : (ts : Trees ℕ Sym) → flat_map own_of (row_leaves (binds (λ x. Leaf (Own x)) ts)) ≡ row_leaves ts
  own_row_leaves none = refl
  own_row_leaves (more t ts) = flat_map-append own_of (leaves (own t)) (row_leaves (binds (λ x. Leaf (Own x)) ts)) ∙ (λ i. own_leaves t i ++ own_row_leaves ts i)

-- variables below a number are such terms, and back
pub leaves_are : (n : ℕ) (xs : List ℕ) → AllByRecursion (λ x. x < n) xs → AreBelow n (map Leaf xs)
leaves_are n [] b = tt
leaves_are n (x ∷ xs) b = ((b.0, tt), leaves_are n xs b.1)

pub leaves_were : (n : ℕ) (xs : List ℕ) → AreBelow n (map Leaf xs) → AllByRecursion (λ x. x < n) xs
leaves_were n [] b = tt
leaves_were n (x ∷ xs) b = (b.0.0, leaves_were n xs b.1)

-- terms under a substitution stay below a number
module _ (s : Subst) (n : ℕ) (below : HasBelow s n) where
  mutual
    pub bind_below : (t : Term) → IsBelow n t → IsBelow n (bind s t)
    bind_below (Leaf x) b = below x b.0
    bind_below (Node f ts) b = binds_below ts b

    binds_below : (ts : Trees ℕ Sym) → AllByRecursion (λ x. x < n) (row_leaves ts) → AllByRecursion (λ x. x < n) (row_leaves (binds s ts))
    binds_below none b = tt
    binds_below (more t ts) b =
        all_append (λ x. x < n) (leaves (bind s t)) (row_leaves (binds s ts)) (bind_below t (all_first (λ x. x < n) (leaves t) (row_leaves ts) b)) (binds_below ts (all_second (λ x. x < n) (leaves t) (row_leaves ts) b))

  terms_below : (ts : List Term) → AreBelow n ts → AreBelow n (map (bind s) ts)
  terms_below [] b = tt
  terms_below (t ∷ ts) b = (bind_below t b.0, terms_below ts b.1)

  scope_below : (scope : Scope) → AreBelow n (map (λ b. b.term) scope) → AreBelow n (map (λ b. b.term) (map (standing_under s) scope))
  scope_below [] b = tt
  scope_below (d ∷ scope) b = (bind_below d.term b.0, scope_below scope b.1)

  fact_below : (f : Fact Term) → AreBelow n (terms_of f) → AreBelow n (terms_of (fact_under s f))
  fact_below (Att k t) b = terms_below (t ∷ []) b
  fact_below (Mess k t u) b = terms_below (t ∷ u ∷ []) b
  fact_below (Tab n ts) b = terms_below ts b
  fact_below (Ev k ts) b = terms_below ts b
  fact_below (Mev k ts) b = terms_below ts b
  fact_below (Bad ts) b = terms_below ts b

  facts_below : (fs : List (Fact Term)) → AreBelow n (flat_map terms_of fs) → AreBelow n (flat_map terms_of (map (fact_under s) fs))
  facts_below [] b = tt
  facts_below (f ∷ fs) b =
      all_append (IsBelow n) (terms_of (fact_under s f)) (flat_map terms_of (map (fact_under s) fs)) (fact_below f (all_first (IsBelow n) (terms_of f) (flat_map terms_of fs) b)) (facts_below fs (all_second (IsBelow n) (terms_of f) (flat_map terms_of fs) b))

  -- the clause's variables in sides of constraints
  abbrev Low : List Slot → Type 0
  Low ks = AllByRecursion (λ x. x < n) (flat_map own_of ks)

  low_append : (ks ls : List Slot) → Low ks → Low ls → Low (ks ++ ls)
  low_append ks ls b c = subst (AllByRecursion (λ x. x < n)) (sym (flat_map-append own_of ks ls)) (all_append (λ x. x < n) (flat_map own_of ks) (flat_map own_of ls) b c)

  low_parts : (ks ls : List Slot) → Low (ks ++ ls) → Low ks × Low ls
  low_parts ks ls b =
      let parts = subst (AllByRecursion (λ x. x < n)) (flat_map-append own_of ks ls) b in
      (all_first (λ x. x < n) (flat_map own_of ks) (flat_map own_of ls) parts, all_second (λ x. x < n) (flat_map own_of ks) (flat_map own_of ls) parts)

  mutual
    side_below : (t : Side) → Low (leaves t) → Low (leaves (bind (slot_under s) t))
    side_below (Leaf (Own x)) b = subst (AllByRecursion (λ y. y < n)) (sym (own_leaves (s x))) (below x b.0)
    side_below (Leaf (Bound i)) b = tt
    side_below (Node f ts) b = side_row_below ts b

    side_row_below : (ts : Trees Slot Sym) → Low (row_leaves ts) → Low (row_leaves (binds (slot_under s) ts))
    side_row_below none b = tt
    side_row_below (more t ts) b =
        let parts = low_parts (leaves t) (row_leaves ts) b in
        low_append (leaves (bind (slot_under s) t)) (row_leaves (binds (slot_under s) ts)) (side_below t parts.0) (side_row_below ts parts.1)

  all_sides_below : (ts : List Side) → Low (side_slots ts) → Low (side_slots (map (bind (slot_under s)) ts))
  all_sides_below [] b = tt
  all_sides_below (t ∷ ts) b =
      let parts = low_parts (leaves t) (side_slots ts) b in
      low_append (leaves (bind (slot_under s) t)) (side_slots (map (bind (slot_under s)) ts)) (side_below t parts.0) (all_sides_below ts parts.1)

  diff_below : (d : Diff) → Low (side_slots (sides d)) → Low (side_slots (sides (diff_under s d)))
  diff_below d b = subst (λ ts. Low (side_slots ts)) (map-append (bind (slot_under s)) d.left d.right) (all_sides_below (sides d) b)

  diffs_below : (ds : List Diff) → AllByRecursion (λ x. x < n) (flat_map diff_variables ds) → AllByRecursion (λ x. x < n) (flat_map diff_variables (map (diff_under s) ds))
  diffs_below [] b = tt
  diffs_below (d ∷ ds) b =
      let first = diff_below d (all_first (λ x. x < n) (diff_variables d) (flat_map diff_variables ds) b) in
      let others = diffs_below ds (all_second (λ x. x < n) (diff_variables d) (flat_map diff_variables ds) b) in
      all_append (λ x. x < n) (diff_variables (diff_under s d)) (flat_map diff_variables (map (diff_under s) ds)) first others

  pub visit_below : (v : Visit) → Below n v → Below n (visit_under s v)
  visit_below v b = record {
    scope = scope_below v.scope b.scope;
    hypotheses = facts_below v.hypotheses b.hypotheses;
    messages = terms_below v.messages b.messages;
    sessions = terms_below v.sessions b.sessions;
    diffs = leaves_are n (flat_map diff_variables (map (diff_under s) v.diffs)) (diffs_below v.diffs (leaves_were n (flat_map diff_variables v.diffs) b.diffs));
  }
