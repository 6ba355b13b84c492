-- Names and nodes over the ids of a bank that shares equal terms: tests on ids are tests on terms.
use Rattle.std.proofs.Common.{◌≡◌, ℕ, ◌%◌, ◌<◌, Bool, true, false, ◌&&◌, nat_eq, cond, List, [], ◌∷◌, ◌++◌, length, map, get_or, Option, None, Some, option_map, option_and_then, slice_get, refl, sym, ap, ◌∙◌, subst, eqb-true, eq-eqb}
use Rattle.std.specs.Borrow.{Bor}
use Rattle.std.specs.List.{find}
use Rattle.spec_terms.specs.Term.{Term}
use Rattle.spec_clauses.specs.Fact.{same_term, same_terms}
use Rattle.spec_clauses.proofs.Equality.{tests_same, same_term-decides, same_terms-decides}
use Rattle.spec_trees.proofs.Equality.{and_true}
use Rattle.term_tree.specs.declared.bank.Id.{Id}
use Rattle.term_tree.specs.Bank.{tree_at, AreKnown, AreShared, Grows}
use Rattle.term_tree.proofs.BankLaws.{AreKnown-grows, trees_at-grow}
use Rattle.clause_diffs.specs.Diffs.{NameTerms}
use Rattle.pi_tree.specs.Values.{value_of}
use Rattle.spec_attack_runs.specs.Source.{Choice}
use Rattle.spec_attack_runs.specs.Compiling.{Named, Done, named}
use Rattle.spec_attack_runs.specs.Walking.{same_place, same_deed, same_choice}
use Rattle.fact_classes.specs.declared.classes.Classes.{Classes}
use Rattle.fact_classes.specs.Classes.{listed}
use Rattle.attack_state.specs.declared.done.Done.{Done as MadeDone}
use Rattle.attack_state.specs.declared.values.Named.{Named as MadeNamed}
use Rattle.attack_state.specs.Listing.{AreListed, passes_at}
use Rattle.attack_state.proofs.Listing.{item_listed}
use Rattle.attack_state.specs.States.{same_ids, NamesNamed, NameNamed, named_class, chosen_of, NamesDone, NameDone, node_class, done_class, names_id, is_of, FindsDone}

-- the ids that name terms still name them in a bank that grew
pub terms-grow : (a b : List Term) (ids : List Id) (ts : List Term) → Grows a b → NameTerms a ids ts → NameTerms b ids ts
terms-grow a b ids ts grows names = record { known = AreKnown-grows a b ids grows names.known; are = trees_at-grow a b ids grows names.known ∙ names.are }

pub named-grow : (a b : List Term) (items : List MadeNamed) (names : List Named) → Grows a b → NameNamed a items names → NameNamed b items names
named-grow a b [] [] grows h = tt
named-grow a b [] (n ∷ ns) grows h = h
named-grow a b (x ∷ xs) [] grows h = h
named-grow a b (x ∷ xs) (n ∷ ns) grows h =
    (record { term = terms-grow a b (x.term ∷ []) (n.term ∷ []) grows h.0.term; value = h.0.value }, named-grow a b xs ns grows h.1)

pub done-grow : (a b : List Term) (items : List MadeDone) (ds : List Done) → Grows a b → NameDone a items ds → NameDone b items ds
done-grow a b [] [] grows h = tt
done-grow a b [] (d ∷ ds) grows h = h
done-grow a b (x ∷ xs) [] grows h = h
done-grow a b (x ∷ xs) (d ∷ ds) grows h = (
  record {
    point = h.0.point;
    sessions = terms-grow a b x.sessions.items d.sessions grows h.0.sessions;
    messages = terms-grow a b x.messages.items d.messages grows h.0.messages;
    choice = h.0.choice;
    other = h.0.other;
  },
  done-grow a b xs ds grows h.1,
)

-- one more
pub named-more : (all : List Term) (items : List MadeNamed) (names : List Named) (x : MadeNamed) (n : Named) → NameNamed all items names → NamesNamed all x n → NameNamed all (items ++ x ∷ []) (names ++ n ∷ [])
named-more all [] [] x n h k = (k, tt)
named-more all [] (m ∷ ms) x n h k = absurd h
named-more all (y ∷ ys) [] x n h k = absurd h
named-more all (y ∷ ys) (m ∷ ms) x n h k = (h.0, named-more all ys ms x n h.1 k)

pub done-more : (all : List Term) (items : List MadeDone) (ds : List Done) (x : MadeDone) (d : Done) → NameDone all items ds → NamesDone all x d → NameDone all (items ++ x ∷ []) (ds ++ d ∷ [])
done-more all [] [] x d h k = (k, tt)
done-more all [] (e ∷ es) x d h k = absurd h
done-more all (y ∷ ys) [] x d h k = absurd h
done-more all (y ∷ ys) (e ∷ es) x d h k = (h.0, done-more all ys es x d h.1 k)

-- rows of ids are the same where they are equal
same_ids-self : (xs : List Id) → same_ids xs xs ≡ true
same_ids-self [] = refl
same_ids-self (x ∷ xs) = ap (λ (b : Bool). b && same_ids xs xs) (eq-eqb x.index x.index refl) ∙ same_ids-self xs

same_ids-sound : (xs ys : List Id) → same_ids xs ys ≡ true → xs ≡ ys
same_ids-sound [] [] e = refl
same_ids-sound [] (y ∷ ys) e = cc
same_ids-sound (x ∷ xs) [] e = cc
same_ids-sound (x ∷ xs) (y ∷ ys) e =
    let parts = and_true (nat_eq x.index y.index) (same_ids xs ys) e in
    let index : x.index ≡ y.index = eqb-true x.index y.index parts.0 in
    let one : x ≡ y = ap (λ (k : ℕ). record { index = k }) index in
    let rest : xs ≡ ys = same_ids-sound xs ys parts.1 in cc

-- a node over ids that is found, and the node
abbrev pub FindsNode : List Term → Option MadeDone → Option Done → Type 0
FindsNode all None found = found ≡ None
FindsNode all (Some ids) None = ⊥
FindsNode all (Some ids) (Some done) = NamesDone all ids done

module _ (all : List Term) (shared : AreShared all) where
  -- ids of the same terms are the same
  ids_alike : (xs ys : List Id) → AreKnown all xs → AreKnown all ys → map (tree_at all) xs ≡ map (tree_at all) ys → xs ≡ ys
  ids_alike [] [] h k e = refl
  ids_alike [] (y ∷ ys) h k e = cc
  ids_alike (x ∷ xs) [] h k e = cc
  ids_alike (x ∷ xs) (y ∷ ys) h k e =
      let first : tree_at all x ≡ tree_at all y = cc in
      let others : map (tree_at all) xs ≡ map (tree_at all) ys = cc in
      let one : x ≡ y = shared x y h.0 k.0 first in
      let rest : xs ≡ ys = ids_alike xs ys h.1 k.1 others in cc

  pub terms_same : (xs ys : List Id) (ts us : List Term) → NameTerms all xs ts → NameTerms all ys us → same_terms ts us ≡ same_ids xs ys
  terms_same xs ys ts us h k = tests_same (same_terms ts us) (same_ids xs ys) forth back
    where
      forth : same_terms ts us ≡ true → same_ids xs ys ≡ true
      forth e =
          let trees : ts ≡ us = (same_terms-decides ts us).0 e in
          let ids : xs ≡ ys = ids_alike xs ys h.known k.known (h.are ∙ (trees ∙ sym k.are)) in
          subst (λ (zs : List Id). same_ids xs zs ≡ true) ids (same_ids-self xs)

      back : same_ids xs ys ≡ true → same_terms ts us ≡ true
      back e =
          let ids : xs ≡ ys = same_ids-sound xs ys e in
          (same_terms-decides ts us).1 (sym h.are ∙ (ap (map (tree_at all)) ids ∙ k.are))

  -- a name of that id is the name of its term
  name_same : (x : MadeNamed) (n : Named) (term : Id) → term.index < length all → NamesNamed all x n → same_term n.term (tree_at all term) ≡ nat_eq x.term.index term.index
  name_same x n term known h = tests_same (same_term n.term (tree_at all term)) (nat_eq x.term.index term.index) forth back
    where
      is : tree_at all x.term ≡ n.term
      is = ap (λ (l : List Term). get_or l 0 n.term) h.term.are

      forth : same_term n.term (tree_at all term) ≡ true → nat_eq x.term.index term.index ≡ true
      forth e =
          let trees : n.term ≡ tree_at all term = (same_term-decides n.term (tree_at all term)).0 e in
          let ids : x.term ≡ term = shared x.term term h.term.known.0 known (is ∙ trees) in eq-eqb x.term.index term.index (ap (λ (i : Id). i.index) ids)

      back : nat_eq x.term.index term.index ≡ true → same_term n.term (tree_at all term) ≡ true
      back e =
          let index : x.term.index ≡ term.index = eqb-true x.term.index term.index e in
          let ids : x.term ≡ term = ap (λ (k : ℕ). record { index = k }) index in (same_term-decides n.term (tree_at all term)).1 (sym is ∙ ap (tree_at all) ids)

  named_step : (x : MadeNamed) (n : Named) (F : Option Named) (G : Option MadeNamed) → value_of x.value ≡ n.value → option_map (λ d. d.value) F ≡ option_map (λ ids. value_of ids.value) G → (b : Bool)
      → option_map (λ d. d.value) (cond b (Some n) F) ≡ option_map (λ ids. value_of ids.value) (cond b (Some x) G)
  named_step x n F G value others true = ap Some (sym value)
  named_step x n F G value others false = others

  pub named_found : (items : List MadeNamed) (names : List Named) (term : Id) → term.index < length all → NameNamed all items names
      → named names (tree_at all term) ≡ option_map (λ ids. value_of ids.value) (find (names_id term) items)
  named_found [] [] term known h = refl
  named_found [] (n ∷ ns) term known h = absurd h
  named_found (x ∷ xs) [] term known h = absurd h
  named_found (x ∷ xs) (n ∷ ns) term known h =
      let test = name_same x n term known h.0 in
      ap (λ (b : Bool). option_map (λ d. d.value) (cond b (Some n) (find (λ d. same_term d.term (tree_at all term)) ns))) test
      ∙ named_step x n (find (λ d. same_term d.term (tree_at all term)) ns) (find (names_id term) xs) h.0.value (named_found xs ns term known h.1) (nat_eq x.term.index term.index)

  -- the same was done, and at the same place
  pub deed_same : (x y : MadeDone) (a b : Done) → NamesDone all x a → NamesDone all y b → same_deed a b ≡ (same_ids x.messages.items y.messages.items && same_choice (chosen_of x.choice) (chosen_of y.choice))
  deed_same x y a b h k =
      ap (λ (t : Bool). t && same_choice a.choice b.choice) (terms_same x.messages.items y.messages.items a.messages b.messages h.messages k.messages)
      ∙ (ap (λ (o : Choice). same_ids x.messages.items y.messages.items && same_choice o b.choice) (sym h.choice)
      ∙ ap (λ (o : Choice). same_ids x.messages.items y.messages.items && same_choice (chosen_of x.choice) o) (sym k.choice))

  place_same : (x : MadeDone) (a node : Done) (point : ℕ) (sessions : List Id) → NamesDone all x a → node.point ≡ point → NameTerms all sessions node.sessions
      → same_place node a ≡ (nat_eq x.point point && same_ids x.sessions.items sessions)
  place_same x a node point sessions h e k = tests_same (same_place node a) (nat_eq x.point point && same_ids x.sessions.items sessions) forth back
    where
      forth : same_place node a ≡ true → (nat_eq x.point point && same_ids x.sessions.items sessions) ≡ true
      forth t =
          let parts = and_true (nat_eq node.point a.point) (same_terms node.sessions a.sessions) t in
          let points : node.point ≡ a.point = eqb-true node.point a.point parts.0 in
          let first : nat_eq x.point point ≡ true = eq-eqb x.point point (h.point ∙ (sym points ∙ e)) in
          let terms : node.sessions ≡ a.sessions = (same_terms-decides node.sessions a.sessions).0 parts.1 in
          let second : same_ids x.sessions.items sessions ≡ true = sym (terms_same x.sessions.items sessions a.sessions node.sessions h.sessions k) ∙ (same_terms-decides a.sessions node.sessions).1 (sym terms) in
          ap (λ (b : Bool). b && same_ids x.sessions.items sessions) first ∙ second

      back : (nat_eq x.point point && same_ids x.sessions.items sessions) ≡ true → same_place node a ≡ true
      back t =
          let parts = and_true (nat_eq x.point point) (same_ids x.sessions.items sessions) t in
          let points : x.point ≡ point = eqb-true x.point point parts.0 in
          let first : nat_eq node.point a.point ≡ true = eq-eqb node.point a.point (e ∙ (sym points ∙ h.point)) in
          let terms : a.sessions ≡ node.sessions = (same_terms-decides a.sessions node.sessions).0 (terms_same x.sessions.items sessions a.sessions node.sessions h.sessions k ∙ parts.1) in
          ap (λ (b : Bool). b && same_terms node.sessions a.sessions) first ∙ (same_terms-decides node.sessions a.sessions).1 (sym terms)

  done_step : (x : MadeDone) (a : Done) (F : Option MadeDone) (G : Option Done) → NamesDone all x a → FindsNode all F G → (b : Bool) → FindsNode all (cond b (Some x) F) (cond b (Some a) G)
  done_step x a F G h others true = h
  done_step x a F G h others false = others

  pub done_found : (items : List MadeDone) (ds : List Done) (node : Done) (point : ℕ) (sessions : List Id) → NameDone all items ds → node.point ≡ point → NameTerms all sessions node.sessions
      → FindsNode all (find (is_of point sessions) items) (find (same_place node) ds)
  done_found [] [] node point sessions h e k = refl
  done_found [] (d ∷ ds) node point sessions h e k = absurd h
  done_found (x ∷ xs) [] node point sessions h e k = absurd h
  done_found (x ∷ xs) (d ∷ ds) node point sessions h e k =
      let test = place_same x d node point sessions h.0 e k in
      let both = done_step x d (find (is_of point sessions) xs) (find (same_place node) ds) h.0 (done_found xs ds node point sessions h.1 e k) (nat_eq x.point point && same_ids x.sessions.items sessions) in
      subst (λ (b : Bool). FindsNode all (cond (nat_eq x.point point && same_ids x.sessions.items sessions) (Some x) (find (is_of point sessions) xs)) (cond b (Some d) (find (same_place node) ds))) (sym test) both

-- items that pass are of the class
pub named_class-same : (term : Id) (x : MadeNamed) → nat_eq x.term.index term.index ≡ true → named_class x ≡ term.index % 65521
named_class-same term x e = ap (λ (k : ℕ). k % 65521) (eqb-true x.term.index term.index e)

pub done_class-same : (point : ℕ) (sessions : List Id) (x : MadeDone) → (nat_eq x.point point && same_ids x.sessions.items sessions) ≡ true → done_class x ≡ node_class point sessions
done_class-same point sessions x e =
    let parts = and_true (nat_eq x.point point) (same_ids x.sessions.items sessions) e in
    let points : x.point ≡ point = eqb-true x.point point parts.0 in
    let rows : x.sessions.items ≡ sessions = same_ids-sound x.sessions.items sessions parts.1 in
    ap (λ (p : ℕ). node_class p x.sessions.items) points ∙ ap (node_class point) rows

-- what is found of a class among the nodes
module _ (all : List Term) (shared : AreShared all) (items : List MadeDone) (ds : List Done) (classes : Classes) (node : Done) (point : ℕ) (sessions : List Id) where
  pub done_at : NameDone all items ds → AreListed done_class items classes → node.point ≡ point → NameTerms all sessions node.sessions
      → FindsNode all (option_and_then (slice_get items) (find (passes_at (is_of point sessions) items) (listed classes (Some (node_class point sessions))))) (find (same_place node) ds)
  done_at names listing e k =
      let test : MadeDone → Bool = is_of point sessions in
      let found : find test items ≡ option_and_then (slice_get items) (find (passes_at test items) (listed classes (Some (node_class point sessions)))) =
      item_listed test done_class (node_class point sessions) (done_class-same point sessions) items ∙ ap (λ ns. option_and_then (slice_get items) (find (passes_at test items) ns)) (sym (listing (node_class point sessions))) in
      subst (λ (o : Option MadeDone). FindsNode all o (find (same_place node) ds)) found (done_found all shared items ds node point sessions names e k)

  -- the node at the number that is found, as it is borrowed
  finds : (r : Option (Bor MadeDone)) (o : Option MadeDone) (d : Option Done) → option_map (λ b. b.now) r ≡ o → FindsNode all o d → FindsDone all r d
  finds None o d e f = subst (λ (x : Option MadeDone). FindsNode all x d) (sym e) f
  finds (Some x) o d e f = borrowed d (subst (λ (y : Option MadeDone). FindsNode all y d) (sym e) f)
    where
      borrowed : (d : Option Done) → FindsNode all (Some x.now) d → FindsDone all (Some x) d
      borrowed None f = f
      borrowed (Some d) f = f

  pub done_read : (r : Option (Bor MadeDone)) → NameDone all items ds → AreListed done_class items classes → node.point ≡ point → NameTerms all sessions node.sessions
      → option_map (λ b. b.now) r ≡ option_and_then (slice_get items) (find (passes_at (is_of point sessions) items) (listed classes (Some (node_class point sessions)))) → FindsDone all r (find (same_place node) ds)
  done_read r names listing e k at = finds r (option_and_then (slice_get items) (find (passes_at (is_of point sessions) items) (listed classes (Some (node_class point sessions))))) (find (same_place node) ds) at (done_at names listing e k)

-- what is found of a class among the names
named_at : (all : List Term) → AreShared all → (items : List MadeNamed) (names : List Named) (classes : Classes) (term : Id) → term.index < length all → NameNamed all items names → AreListed named_class items classes
    → named names (tree_at all term) ≡ option_map (λ ids. value_of ids.value) (option_and_then (slice_get items) (find (passes_at (names_id term) items) (listed classes (Some (term.index % 65521)))))
named_at all shared items names classes term known h listing =
    let test : MadeNamed → Bool = names_id term in
    named_found all shared items names term known h
    ∙ ap (option_map (λ ids. value_of ids.value)) (item_listed test named_class (term.index % 65521) (named_class-same term) items ∙ ap (λ ns. option_and_then (slice_get items) (find (passes_at test items) ns)) (sym (listing (term.index % 65521))))

pub named_read : (all : List Term) → AreShared all → (items : List MadeNamed) (names : List Named) (classes : Classes) (term : Id) → term.index < length all → NameNamed all items names → AreListed named_class items classes → (first : Option ℕ)
    → first ≡ find (passes_at (names_id term) items) (listed classes (Some (term.index % 65521))) → (o : Option MadeNamed) → option_and_then (slice_get items) first ≡ o → option_map (λ ids. value_of ids.value) o ≡ named names (tree_at all term)
named_read all shared items names classes term known h listing first is o e =
    ap (option_map (λ ids. value_of ids.value)) (sym e ∙ ap (option_and_then (slice_get items)) is) ∙ sym (named_at all shared items names classes term known h listing)
