-- A tree that is made in a shared bank stands behind those that are there, unless it is one of them.
use Rattle.std.proofs.Common.{◌≡◌, ℕ, suc, zero, ◌+◌, ◌<◌, ◌≤◌, Bool, true, false, true≢false, ◌||◌, cond, List, [], ◌∷◌, ◌++◌, length, map, take, slice_get, get_or, unwrap_or, Result, Ok, Err, refl, sym, ◌∙◌, ap, subst, arith}
use Rattle.std.specs.Prelude.{flat_map, IfOk, OnOk}
use Rattle.std.specs.List.{list_any}
use Rattle.std.proofs.lemmas.Bool.{or_left}
use Rattle.std.proofs.Math.Bool.{or-true}
use Rattle.std.proofs.lemmas.List.{append-nil, map_more, take_all}
use Rattle.std.proofs.lemmas.Grind.{flat_map-append}
use Rattle.spec_trees.specs.Tree.{Leaf, node, trees}
use Rattle.spec_terms.specs.Term.{Sym, Term}
use Rattle.spec_clauses.specs.Fact.{same_term}
use Rattle.spec_clauses.specs.Inclusion.{here, there, Has}
use Rattle.spec_clauses.proofs.Equality.{same_term-decides}
use Rattle.spec_node_tables.specs.Table.{walk, walk_row, place_in, number_in}
use Rattle.spec_node_tables.proofs.Numbers.{at_place, place_within}
use Rattle.term_tree.specs.Bank.{tree_at, Names, Grows, AreShared}
use Rattle.term_tree.specs.declared.bank.Id.{Id}
use Rattle.term_store.specs.SharedBank.{Finds, IsKnown, AddsNew}
use Rattle.clause_diffs.specs.declared.plain.Tree.{Tree}
use Rattle.clause_form.specs.Plain.{term_of}
use Rattle.clause_form.proofs.Copying.{IsCopied, copied_on}
use Rattle.node_table.specs.Entered.{table_of, with_term, with_terms}
use Rattle.node_table.proofs.Adding.{with_terms-append, table_of-more, number_stays, row_walk}

-- Whether a tree is there, by the test of terms.

abbrev id_at : ℕ → Id
id_at n = record { index = n }

one_further : (u : Term) (us : List Term) (t : Term) → IsKnown us t → IsKnown (u ∷ us) t
one_further u us t known = (id_at (suc known.0.index), record { known = omega (arith, known.1.known); is = known.1.is })

known_there : (all : List Term) (t : Term) → list_any (same_term t) all ≡ true → IsKnown all t
known_there [] t e = absurd (true≢false (sym e))
known_there (u ∷ us) t e = go (same_term t u) refl (λ f. known_there us t f) e where
  go : (b : Bool) → same_term t u ≡ b → (list_any (same_term t) us ≡ true → IsKnown us t) → (b || list_any (same_term t) us) ≡ true → IsKnown (u ∷ us) t
  go true s later f = (id_at 0, record { known = omega arith; is = sym ((same_term-decides t u).0 s) })
  go false s later f = one_further u us t (later f)

there_at : (all : List Term) (t : Term) (n : ℕ) → n < length all → unwrap_or (slice_get all n) (Leaf 0) ≡ t → list_any (same_term t) all ≡ true
there_at [] t n below is = absurd (omega arith)
there_at (u ∷ us) t zero below is = or_left (same_term t u) (list_any (same_term t) us) ((same_term-decides t u).1 (sym is))
there_at (u ∷ us) t (suc n) below is = ap (λ b. same_term t u || b) (there_at us t n (omega arith) is) ∙ or-true (same_term t u)

-- the bank behind a tree that was made in it
pub made_in : (old new : List Term) (t : Term) (id : Id) → Finds old new t id → AddsNew old new t → new ≡ with_term old t
made_in old new t id finds adds = go (list_any (same_term t) old) refl where
  go : (b : Bool) → list_any (same_term t) old ≡ b → new ≡ cond b old (old ++ (t ∷ []))
  go true e = let known = known_there old t e in (finds known.0 known.1).1
  go false e = adds (λ known. true≢false (sym (there_at old t known.0.index known.1.known known.1.is) ∙ e))

-- a tree that an id names stands in the bank
pub stands : (all : List Term) (id : Id) → id.index < length all → Has all (tree_at all id)
stands all id below = at all id.index below where
  at : (ts : List Term) (n : ℕ) → n < length ts → Has ts (unwrap_or (slice_get ts n) (Leaf 0))
  at [] n within = absurd (omega arith)
  at (u ∷ us) zero within = (us, here)
  at (u ∷ us) (suc n) within = let later = at us n (omega arith) in (u ∷ later.0, there later.1)

-- Where equal trees have equal ids, the number of a tree is one more than its id.
pub id_number : (all : List Term) (id : Id) → AreShared all → id.index < length all → id.index + 1 ≡ number_in all (tree_at all id)
id_number all id shared known =
    let has = stands all id known in
    let t = tree_at all id in
    let place = id_at (place_in all t) in
    let same : id ≡ place = shared id place known (place_within all t has) (sym (ap (λ o. unwrap_or o (Leaf 0)) (at_place all t has))) in
    let index : id.index ≡ place_in all t = ap (λ (i : Id). i.index) same in
    omega (arith, index)

-- Trees are put into the bank one by one.

pub record IsEntered (old now : List Term) (ids : List Id) (items : List Tree) (i : ℕ) : Type 0 where
  pub copied : IsCopied old now ids items i
  pub walked : now ≡ with_terms old (flat_map walk (map term_of (take i items)))

pub entered_on : (old now next : List Term) (ids new : List Id) (items : List Tree) (i : ℕ) (x : Tree) (id : Id) → IsEntered old now ids items i → i < length items → x ≡ get_or items i x → Grows now next
    → Names next id (term_of x) → next ≡ with_terms now (walk (term_of x)) → new ≡ ids ++ id ∷ [] → IsEntered old next new items (i + 1)
entered_on old now next ids new items i x id entered below is grows names walked e =
    let before = map term_of (take i items) in
    let more : map term_of (take (i + 1) items) ≡ before ++ term_of x ∷ [] = map_more term_of items i x below ∙ ap (λ u. before ++ term_of u ∷ []) (sym is) in
    let split : flat_map walk (before ++ term_of x ∷ []) ≡ flat_map walk before ++ walk (term_of x) = flat_map-append walk before (term_of x ∷ []) ∙ ap (λ l. flat_map walk before ++ l) (append-nil (walk (term_of x))) in
    record {
      copied = copied_on old now next ids new items i x id entered.copied below is grows names e;
      walked = walked
          ∙ (ap (λ l. with_terms l (walk (term_of x))) entered.walked
          ∙ (sym (with_terms-append old (flat_map walk before) (walk (term_of x)))
          ∙ ap (with_terms old) (sym (ap (flat_map walk) more ∙ split))));
    }

-- a symbol over trees that were all put into the bank
pub entered_node : (old now next : List Term) (ids : List Id) (items : List Tree) (ts : List Term) (i : ℕ) (f : Sym) (id : Id) → IsEntered old now ids items i → length items ≤ i → map term_of items ≡ ts
    → Finds now next (node f (map (tree_at now) ids)) id → AddsNew now next (node f (map (tree_at now) ids)) → next ≡ with_terms old (walk (node f ts))
entered_node old now next ids items ts i f id entered past are finds adds =
    let all : map term_of (take i items) ≡ ts = ap (map term_of) (take_all i items past) ∙ are in
    let named : map (tree_at now) ids ≡ ts = entered.copied.names.are ∙ all in
    let made : next ≡ with_term now (node f ts) = made_in now next (node f (map (tree_at now) ids)) id finds adds ∙ ap (λ us. with_term now (node f us)) named in
    let rows : now ≡ with_terms old (walk_row (trees ts)) = entered.walked ∙ ap (with_terms old) (ap (flat_map walk) all ∙ sym (row_walk ts)) in
    made ∙ (ap (λ l. with_term l (node f ts)) rows ∙ sym (with_terms-append old (walk_row (trees ts)) (node f ts ∷ [])))

-- what is said of a call that made a variable, or a symbol over the trees

pub variable_made : {E : Type 0} (old new : List Term) (t : Term) (x : ℕ) (r : Result Id E) → t ≡ Leaf x → IfOk r (λ id. Finds old new (Leaf x) id) → OnOk r (AddsNew old new (Leaf x)) → OnOk r (new ≡ with_terms old (walk t))
variable_made old new t x (Ok id) is finds adds = made_in old new (Leaf x) id finds adds ∙ ap (λ u. with_terms old (walk u)) (sym is)
variable_made old new t x (Err error) is finds adds = tt

pub node_made : {E : Type 0} (old now next : List Term) (ids given : List Id) (items : List Tree) (ts : List Term) (i : ℕ) (f : Sym) (t : Term) (r : Result Id E) → IsEntered old now ids items i → length items ≤ i → map term_of items ≡ ts → given ≡ ids → t ≡ node f ts
    → IfOk r (λ id. Finds now next (node f (map (tree_at now) given)) id) → OnOk r (AddsNew now next (node f (map (tree_at now) given))) → OnOk r (next ≡ with_terms old (walk t))
node_made old now next ids given items ts i f t (Ok id) entered past are same is finds adds =
    let found : Finds now next (node f (map (tree_at now) ids)) id = subst (λ js. Finds now next (node f (map (tree_at now) js)) id) same finds in
    let added : AddsNew now next (node f (map (tree_at now) ids)) = subst (λ js. AddsNew now next (node f (map (tree_at now) js))) same adds in
    entered_node old now next ids items ts i f id entered past are found added ∙ ap (λ u. with_terms old (walk u)) (sym is)
node_made old now next ids given items ts i f t (Err error) entered past are same is finds adds = tt

-- the table of terms, and then of these and one more
pub table_on : (old new earlier : List Term) (t : Term) → new ≡ with_terms old (walk t) → old ≡ table_of earlier → new ≡ table_of (earlier ++ (t ∷ []))
table_on old new earlier t walked is = walked ∙ (ap (λ l. with_terms l (walk t)) is ∙ sym (table_of-more earlier t))

-- the number that is told of a tree stays
pub number_on : (old new earlier later : List Term) (t : Term) (id : Id) (number : ℕ) → new ≡ with_terms old (walk t) → old ≡ table_of earlier → Names new id t → number ≡ number_in new (tree_at new id)
    → number ≡ number_in (table_of (earlier ++ (t ∷ later))) t
number_on old new earlier later t id number walked is names told =
    told ∙ (ap (number_in new) names.is ∙ (ap (λ l. number_in l t) (table_on old new earlier t walked is) ∙ sym (number_stays earlier later t)))
