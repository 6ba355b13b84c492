-- The search for positions: where events stand at a row, and the first such row.
use Rattle.std.proofs.Common.{◌≡◌, ◌↔◌, ◌⊎◌, inl, inr, ℕ, zero, suc, ◌+◌, ◌-◌, ◌<◌, ◌≤◌, Option, Some, None, List, [], ◌∷◌, length, map, take, drop, get_or, refl, ap, sym, ◌∙◌, subst, arith}
use Rattle.std.specs.Prelude.{Result, Ok, Err, IfOk, IfSome}
use Rattle.std.proofs.lemmas.Bool.{cases_order, cases_lt}
use Rattle.std.proofs.lemmas.List.{length-map, take_rest}
use Rattle.spec_terms.specs.Term.{Term, Subst}
use Rattle.spec_terms.specs.Binding.{replaced_once}
use Rattle.spec_terms.proofs.Matches.{replaced-agrees}
use Rattle.spec_clauses.specs.Fact.{Fact, fact_under}
use Rattle.spec_clauses.specs.Subsumption.{hypothesis_at, ComesBefore}
use Rattle.unify_match.specs.declared.bound.Bound.{Bound}
use Rattle.unify_match.specs.Trail.{Extends}
use Rattle.unify_match.specs.Seen.{seen, AreBindings}
use Rattle.unify_match.proofs.Trails.{undone}
use Rattle.query_derive.specs.declared.wanted.Event.{Event}
use Rattle.query_derive.specs.Wanted.{event_fact}
use Rattle.query_derive.specs.Sought.{AreAt}
use Rattle.query_derive.specs.Narrowing.{Narrows, Excludes, ArePlaced, AreFirstPlaced}
use Rattle.query_derive.proofs.Narrowing.{hypothesis_past}
use Rattle.clause_form.proofs.Comparing.{map_drop, map_dropped}

-- one more event and its position
pub at_cons : (s : Subst) (e : Fact Term) (es hs : List (Fact Term)) (p : ℕ) (row : List ℕ) → AreAt s (e ∷ es) hs (p ∷ row) ↔ ((Some (fact_under s e) ≡ hypothesis_at hs p) × AreAt s es hs row)
at_cons s e es hs p row = (λ k. (cc, cc), λ h. let first = h.0 in let others = h.1 in λ i. first i ∷ others i)

pub at_lengths : (s : Subst) (es hs : List (Fact Term)) (row : List ℕ) → AreAt s es hs row → length es ≡ length row
at_lengths s es hs row k = sym (length-map es (λ e. Some (fact_under s e))) ∙ (ap length k ∙ length-map row (hypothesis_at hs))

-- the events and positions from the one at i on
pub at_next : (s : Subst) (es : List Event) (hs : List (Fact Term)) (row : List ℕ) (i : ℕ) (e : Event) (d : ℕ) → i < length es → i < length row → e ≡ get_or es i e
    → AreAt s (map event_fact (drop i es)) hs (drop i row) ↔ ((Some (fact_under s (event_fact e)) ≡ hypothesis_at hs (get_or row i d)) × AreAt s (map event_fact (drop (i + 1) es)) hs (drop (i + 1) row))
at_next s es hs row i e d in_es in_row is =
    let lefts : map event_fact (drop i es) ≡ event_fact e ∷ map event_fact (drop (i + 1) es) = map_drop event_fact es i e in_es ∙ ap (λ u. event_fact u ∷ map event_fact (drop (i + 1) es)) (sym is) in
    let rights : map (hypothesis_at hs) (drop i row) ≡ hypothesis_at hs (get_or row i d) ∷ map (hypothesis_at hs) (drop (i + 1) row) = map_drop (hypothesis_at hs) row i d in_row in
    let firsts : map (λ f. Some (fact_under s f)) (map event_fact (drop i es)) ≡ Some (fact_under s (event_fact e)) ∷ map (λ f. Some (fact_under s f)) (map event_fact (drop (i + 1) es)) = ap (map (λ f. Some (fact_under s f))) lefts in (
      λ k. let both : Some (fact_under s (event_fact e)) ∷ map (λ f. Some (fact_under s f)) (map event_fact (drop (i + 1) es)) ≡ hypothesis_at hs (get_or row i d) ∷ map (hypothesis_at hs) (drop (i + 1) row) = sym firsts ∙ (k ∙ rights) in (cc, cc),
      λ h. firsts ∙ (ap (λ o. o ∷ map (λ f. Some (fact_under s f)) (map event_fact (drop (i + 1) es))) h.0 ∙ (ap (λ l. hypothesis_at hs (get_or row i d) ∷ l) h.1 ∙ sym rights)),
    )

pub at_past : (s : Subst) (es : List Event) (hs : List (Fact Term)) (row : List ℕ) (i : ℕ) → length es ≤ i → length row ≤ i → AreAt s (map event_fact (drop i es)) hs (drop i row)
at_past s es hs row i past_es past_row = ap (map (λ f. Some (fact_under s f))) (map_dropped event_fact es i past_es) ∙ sym (map_dropped (hypothesis_at hs) row i past_row)

-- events that stand under bindings that are narrowed so, do under some substitution; and where that is excluded, they don't
pub placed_by : (all : List Term) (old new : List Bound) (es hs : List (Fact Term)) (row : List ℕ) → AreBindings all new → Narrows all old new (λ s. AreAt s es hs row) → ArePlaced all old es hs row
placed_by all old new es hs row bindings h =
    let s = replaced_once (seen all new) in
    let both = (h.only s).0 (replaced-agrees (seen all new) bindings.once) in record { by = s; agrees = both.0; events_at = both.1 }

pub never_placed : (all : List Term) (old : List Bound) (es hs : List (Fact Term)) (row : List ℕ) → Excludes all old (λ s. AreAt s es hs row) → ArePlaced all old es hs row → ⊥
never_placed all old es hs row never h = never h.by h.agrees h.events_at

pub never_before : (row : List ℕ) → ComesBefore row [] → ⊥
never_before [] h = h
never_before (p ∷ row) h = h

module _ (all : List Term) (old : List Bound) (hs : List (Fact Term)) where
  -- no events stand at no positions
  pub none_placed : AreBindings all old → AreFirstPlaced all old [] hs []
  none_placed bindings = record {
    placed = record { by = replaced_once (seen all old); agrees = replaced-agrees (seen all old) bindings.once; events_at = refl };
    first = λ other h. never_before other;
  }

  -- no row begins with one of the positions up to k
  pub record NoneTo (es : List (Fact Term)) (k : ℕ) : Type 0 where
    pub none : (p : ℕ) (row : List ℕ) → p < k + 1 → ArePlaced all old es hs (p ∷ row) → ⊥

  pub none_to_begin : (es : List (Fact Term)) → NoneTo es 0
  none_to_begin es = record { none = λ p row below h. no_hypothesis es p row (omega arith) h } where
    no_hypothesis : (es : List (Fact Term)) (p : ℕ) (row : List ℕ) → p ≡ 0 → ArePlaced all old es hs (p ∷ row) → ⊥
    no_hypothesis [] p row is h = let none = h.events_at in cc
    no_hypothesis (e ∷ es) zero row is h = let first = ((at_cons h.by e es hs zero row).0 h.events_at).0 in cc
    no_hypothesis (e ∷ es) (suc p) row is h = absurd (omega arith)

  pub none_to_next : (es : List (Fact Term)) (k : ℕ) → NoneTo es k → ((row : List ℕ) → ArePlaced all old es hs ((k + 1) ∷ row) → ⊥) → NoneTo es (k + 1)
  none_to_next es k was here = record { none = λ p row below h. at p row h below (cases_order p (k + 1)) } where
    at : (p : ℕ) (row : List ℕ) → ArePlaced all old es hs (p ∷ row) → p < k + 1 + 1 → (p ≡ k + 1) ⊎ ((p < k + 1) ⊎ (k + 1 < p)) → ⊥
    at p row h below (inl is) = here row (subst (λ q. ArePlaced all old es hs (q ∷ row)) is h)
    at p row h below (inr (inl less)) = was.none p row less h
    at p row h below (inr (inr more)) = absurd (omega arith)

  -- the hypothesis at a position is not what the event wants, or the others stand nowhere then
  pub none_here : (e : Fact Term) (es : List (Fact Term)) (p : ℕ) (h : Fact Term) → hypothesis_at hs p ≡ Some h → Excludes all old (λ s. fact_under s e ≡ h) → (row : List ℕ) → ArePlaced all old (e ∷ es) hs (p ∷ row) → ⊥
  none_here e es p h there never row k = let first = ((at_cons k.by e es hs p row).0 k.events_at).0 in let is : Some (fact_under k.by e) ≡ Some h = first ∙ there in never k.by k.agrees cc

  pub none_after : (new : List Bound) (e : Fact Term) (es : List (Fact Term)) (p : ℕ) (h : Fact Term) → hypothesis_at hs p ≡ Some h → Narrows all old new (λ s. fact_under s e ≡ h)
      → ((row : List ℕ) → ArePlaced all new es hs row → ⊥) → (row : List ℕ) → ArePlaced all old (e ∷ es) hs (p ∷ row) → ⊥
  none_after new e es p h there step never row k =
      let both = (at_cons k.by e es hs p row).0 k.events_at in
      let is : Some (fact_under k.by e) ≡ Some h = both.0 ∙ there in
      never row record { by = k.by; agrees = (step.only k.by).1 (k.agrees, cc); events_at = both.1 }

  -- all positions were tried
  pub none_at_all : (e : Fact Term) (es : List (Fact Term)) (k : ℕ) → length hs ≤ k → NoneTo (e ∷ es) k → (row : List ℕ) → ArePlaced all old (e ∷ es) hs row → ⊥
  none_at_all e es k past was [] h = let none = h.events_at in cc
  none_at_all e es k past was (p ∷ row) h = go (cases_lt p (k + 1)) where
    go : (p < k + 1) ⊎ (k + 1 ≤ p) → ⊥
    go (inl less) = was.none p row less h
    go (inr more) = let none = hypothesis_past hs p (omega arith) in let first = ((at_cons h.by e es hs p row).0 h.events_at).0 in cc

  -- the first position that can be taken, and the first of the others then
  pub first_placed : (new : List Bound) (e : Fact Term) (es : List (Fact Term)) (k : ℕ) (h : Fact Term) (row : List ℕ) → NoneTo (e ∷ es) k → hypothesis_at hs (k + 1) ≡ Some h
      → Narrows all old new (λ s. fact_under s e ≡ h) → AreFirstPlaced all new es hs row → AreFirstPlaced all old (e ∷ es) hs ((k + 1) ∷ row)
  first_placed new e es k h row was there step rest = record {
    placed =
        let back = (step.only rest.placed.by).0 rest.placed.agrees in
        let here : Some (fact_under rest.placed.by e) ≡ hypothesis_at hs (k + 1) = ap Some back.1 ∙ sym there in
        record { by = rest.placed.by; agrees = back.0; events_at = (at_cons rest.placed.by e es hs (k + 1) row).1 (here, rest.placed.events_at) };
    first = before;
  } where
    before : (other : List ℕ) → ArePlaced all old (e ∷ es) hs other → ComesBefore other ((k + 1) ∷ row) → ⊥
    before [] o less = less
    before (p ∷ others) o (inl less) = was.none p others less o
    before (p ∷ others) o (inr (is, less)) =
        let both = (at_cons o.by e es hs p others).0 o.events_at in
        let same : Some (fact_under o.by e) ≡ Some h = both.0 ∙ (ap (hypothesis_at hs) is ∙ there) in
        rest.first others record { by = o.by; agrees = (step.only o.by).1 (o.agrees, cc); events_at = both.1 } less

-- the first event and the others
abbrev pub others_of : List Event → List Event
others_of es = take (length es - 1) (drop 1 es)

pub first_rest : (es : List Event) (e : Event) → 1 ≤ length es → e ≡ get_or es 0 e → map event_fact es ≡ event_fact e ∷ map event_fact (others_of es)
first_rest [] e some is = absurd (omega arith)
first_rest (x ∷ es) e some is = ap (λ y. event_fact y ∷ map event_fact es) (sym is) ∙ ap (λ l. event_fact e ∷ map event_fact l) (sym (take_rest (x ∷ es) 1))

pub none_below : (es : List Event) → length es < 1 → es ≡ []
none_below [] none = refl
none_below (e ∷ es) none = absurd (omega arith)

-- bindings that are taken back to their level
pub taken_back : (start now new later : List Bound) (level : ℕ) → now ≡ start → Extends now new → later ≡ drop (length new - level) new → level ≡ length start → later ≡ start
taken_back start now new later level same extends e at =
    e ∙ (ap (λ n. drop (length new - n) new) (at ∙ ap length (sym same)) ∙ (undone now new extends ∙ same))

-- what is so of what is there
pub if_some_at : {X : Type 0} (P : X → Type 0) (o : Option X) (x : X) → o ≡ Some x → IfSome o P → P x
if_some_at P o x is h = let told : IfSome (Some x) P = subst (λ u. IfSome u P) is h in told

pub if_ok_map : {T E : Type 0} (r : Result T E) (P Q : T → Type 0) → ((v : T) → P v → Q v) → IfOk r P → IfOk r Q
if_ok_map (Ok v) P Q each h = each v h
if_ok_map (Err e) P Q each h = h

pub if_some_map : {X : Type 0} (o : Option X) (P Q : X → Type 0) → ((x : X) → P x → Q x) → IfSome o P → IfSome o Q
if_some_map None P Q each h = h
if_some_map (Some x) P Q each h = each x h
