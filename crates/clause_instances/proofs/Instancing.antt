-- Sources closed: their terms, and what is told of the instance of a given entry.
use Rattle.std.proofs.Common.{◌≡◌, ◌∙◌, ℕ, Bool, true, false, ◌&&◌, ◌||◌, not, nat_eq, List, [], ◌∷◌, ◌++◌, map, flat_map, Option, None, Some, option_map, Result, Ok, Err, IfOk, refl, ap, sym, subst}
use Rattle.std.specs.Prelude.{slice_get}
use Rattle.std.specs.List.{list_any}
use Rattle.std.specs.declared.alloc.AllocError.{AllocError}
use Rattle.std.proofs.lemmas.List.{map-append}
use Rattle.std.proofs.lemmas.List.Folds.{list_any-append}
use Rattle.spec_trees.specs.Tree.{bind}
use Rattle.spec_calculus.specs.Points.{numbered}
use Rattle.spec_calculus.proofs.Items.{of_some}
use Rattle.spec_terms.specs.Term.{Term, Subst}
use Rattle.spec_clauses.specs.Fact.{Fact, Att, Mess, Tab, Ev, Mev, Bad, Clause, terms_of, clause_terms, fact_under, clause_under, phase_of}
use Rattle.spec_clauses.specs.Norm.{distinct}
use Rattle.spec_clauses.proofs.Parts.{terms_of-map}
use Rattle.spec_translation.specs.Visit.{is_large_term}
use Rattle.spec_saturation.specs.Key.{Entry}
use Rattle.term_tree.specs.declared.bank.Id.{Id}
use Rattle.clause_form.specs.Seen.{NameTerms}
use Rattle.clause_form.proofs.Copying.{NameTerms-grows}
use Rattle.spec_attack_runs.specs.Source.{Action, Idle, Builds, Reduces, Reaches, Source, action_under, action_terms, source_under, source_variables, part_of, stage, stage_of}
use Rattle.spec_attack_runs.specs.Instance.{Pending, IsGiven, closing, next_after, kept_variables, is_large_instance}
use Rattle.spec_attack_runs.specs.Attack.{supposed}
use Rattle.clause_instances.specs.declared.instance.Instance as made
use Rattle.clause_instances.specs.Closing.{AddsClosed}
use Rattle.clause_instances.specs.Closed.{some_large, AreSupposed, messages_of, sessions_of, AreOfWay, NamesClosed, IsClosedSource}
use Rattle.clause_instances.specs.Instances.{IsActionOf, IsFoundIn}
use Rattle.clause_instances.specs.Descents.{IsGivenAt, GivesInstance, IsNotGiven, IsInstanceOf}
use Rattle.clause_form.specs.declared.plain.PlainFact.{PlainFact}
use Rattle.clause_form.specs.PlainFacts.{plain_fact_of}
use Rattle.term_tree.specs.Bank.{AreKnown, Grows}
use Rattle.term_tree.proofs.BankLaws.{AreKnown-grows, trees_at-grow}
use Rattle.clause_instances.proofs.Closes.{both_added, fact_terms, closing_same, next_same}

-- The terms of what is closed.

facts_under-terms : (s : Subst) (hs : List (Fact Term)) → flat_map terms_of (map (fact_under s) hs) ≡ map (bind s) (flat_map terms_of hs)
facts_under-terms s [] = refl
facts_under-terms s (h ∷ hs) =
    let first = terms_of-map (bind s) h in
    let others = facts_under-terms s hs in
    (λ i. first i ++ others i) ∙ sym (map-append (bind s) (terms_of h) (flat_map terms_of hs))

clause_under-terms : (s : Subst) (c : Clause Term) → clause_terms (clause_under s c) ≡ map (bind s) (clause_terms c)
clause_under-terms s c = facts_under-terms s (c.conclusion ∷ c.hypotheses)

action_under-terms : (s : Subst) (action : Action) → action_terms (action_under s action) ≡ map (bind s) (messages_of action) ++ map (bind s) (sessions_of action)
action_under-terms s Idle = refl
action_under-terms s (Builds f) = refl
action_under-terms s (Reduces d r) = refl
action_under-terms s (Reaches way) = refl

phase-kept : (s : Subst) (f : Fact Term) → phase_of (fact_under s f) ≡ phase_of f
phase-kept s (Att k t) = refl
phase-kept s (Mess k t u) = refl
phase-kept s (Tab n ts) = refl
phase-kept s (Ev e ts) = refl
phase-kept s (Mev e ts) = refl
phase-kept s (Bad ts) = refl

stage-kept : (s : Subst) (source : Source) → stage_of (source_under s source) ≡ stage_of source
stage-kept s source = go source.action where
  go : (action : Action) → stage (action_under s action) (phase_of (fact_under s source.raw.conclusion)) ≡ stage action (phase_of source.raw.conclusion)
  go Idle = phase-kept s source.raw.conclusion
  go (Builds f) = phase-kept s source.raw.conclusion
  go (Reduces d r) = phase-kept s source.raw.conclusion
  go (Reaches way) = refl

is_done : (s : Subst) (action : Action) → IsActionOf action (map (bind s) (messages_of action)) (map (bind s) (sessions_of action)) (action_under s action)
is_done s Idle = refl
is_done s (Builds f) = refl
is_done s (Reduces d r) = refl
is_done s (Reaches way) = refl

-- Whether one of the terms is over the limit of size: of a clause, and of a source.

swap : (b c : Bool) → (b && c) ≡ (c && b)
swap true true = refl
swap true false = refl
swap false true = refl
swap false false = refl

pub large_clause : (old now next : List Term) (s : Subst) (raw : Clause Term) (left right : List Id) (hyps concl : Bool) → AddsClosed old now s (supposed raw) [] left hyps → AddsClosed now next s (terms_of raw.conclusion) [] right concl
    → some_large s (clause_terms raw) ≡ not (concl && hyps)
large_clause old now next s raw left right hyps concl x y =
    let both = both_added old now next s (supposed raw) (terms_of raw.conclusion) left right hyps concl x y in
    let first = list_any is_large_term (map (bind s) (supposed raw)) in
    let second = list_any is_large_term (map (bind s) (terms_of raw.conclusion)) in
    ap (list_any is_large_term) (map-append (bind s) (terms_of raw.conclusion) (supposed raw))
    ∙ (list_any-append is_large_term (map (bind s) (terms_of raw.conclusion)) (map (bind s) (supposed raw))
    ∙ (either second first ∙ (sym (list_any-append is_large_term (map (bind s) (supposed raw)) (map (bind s) (terms_of raw.conclusion))) ∙ (both ∙ ap not (swap hyps concl))))) where
      either : (b c : Bool) → (b || c) ≡ (c || b)
      either true true = refl
      either true false = refl
      either false true = refl
      either false false = refl

-- the facts of a clause over owned trees
pub facts_listed : (facts : List PlainFact) → flat_map fact_terms facts ≡ flat_map terms_of (map plain_fact_of facts)
facts_listed [] = refl
facts_listed (f ∷ fs) = ap (λ l. fact_terms f ++ l) (facts_listed fs)

pub supposed_small : (old now next : List Term) (s : Subst) (raw : Clause Term) (left right : List Id) (hyps concl : Bool) → AddsClosed old now s (supposed raw) [] left hyps → AddsClosed now next s (terms_of raw.conclusion) [] right concl → Grows now next → AreKnown now left
    → (concl && hyps) ≡ true → AreSupposed next s raw (Some left)
supposed_small old now next s raw left right hyps concl x y grows known fine =
    (record { known = AreKnown-grows now next left grows known; are = trees_at-grow now next left grows known ∙ x.are }, large_clause old now next s raw left right hyps concl x y ∙ ap not fine)

pub supposed_large : (old now next : List Term) (s : Subst) (raw : Clause Term) (left right : List Id) (hyps concl : Bool) → AddsClosed old now s (supposed raw) [] left hyps → AddsClosed now next s (terms_of raw.conclusion) [] right concl → (concl && hyps) ≡ false
    → AreSupposed next s raw None
supposed_large old now next s raw left right hyps concl x y fails = large_clause old now next s raw left right hyps concl x y ∙ ap not fails

large_source : (s : Subst) (source : Source) → is_large_instance (source_under s source) ≡ (some_large s (clause_terms source.raw) || list_any is_large_term (map (bind s) (messages_of source.action) ++ map (bind s) (sessions_of source.action)))
large_source s source =
    let first = clause_under-terms s source.raw in
    let second = action_under-terms s source.action in
    ap (list_any is_large_term) (λ i. first i ++ second i) ∙ list_any-append is_large_term (map (bind s) (clause_terms source.raw)) (map (bind s) (messages_of source.action) ++ map (bind s) (sessions_of source.action))

pub large_first : (all : List Term) (s : Subst) (source : Source) → AreSupposed all s source.raw None → is_large_instance (source_under s source) ≡ true
large_first all s source large = large_source s source ∙ (λ i. large i || list_any is_large_term (map (bind s) (messages_of source.action) ++ map (bind s) (sessions_of source.action)))

pub large_second : (all : List Term) (s : Subst) (source : Source) → AreOfWay all s source.action None → is_large_instance (source_under s source) ≡ true
large_second all s source large = large_source s source ∙ go (some_large s (clause_terms source.raw)) large where
  go : (b : Bool) {c : Bool} → c ≡ true → (b || c) ≡ true
  go true e = refl
  go false e = e

small_both : (s : Subst) (source : Source) → some_large s (clause_terms source.raw) ≡ false → list_any is_large_term (map (bind s) (messages_of source.action) ++ map (bind s) (sessions_of source.action)) ≡ false → is_large_instance (source_under s source) ≡ false
small_both s source first second = large_source s source ∙ (λ i. first i || second i)

-- the ids of all three lists
pub closed_whole : (mid next : List Term) (s : Subst) (source : Source) (index : ℕ) (ids : made.Instance) → Grows mid next → AreSupposed mid s source.raw (Some ids.supposed) → AreOfWay next s source.action (Some (ids.messages, ids.sessions)) → ids.source ≡ index → NamesClosed next s source index ids
closed_whole mid next s source index ids grows supposed_are way_is e = record {
  source_is = e;
  supposed_named = NameTerms-grows mid next ids.supposed (map (bind s) (supposed source.raw)) grows supposed_are.0;
  messages_named = way_is.0;
  sessions_named = way_is.1;
  small = small_both s source supposed_are.1 way_is.2;
}

-- The instance of a given entry.

pub of_mapped : {X Y : Type 0} (f : X → Y) (o : Option X) (y : Y) → Some y ≡ option_map f o → (x : X) × (o ≡ Some x) × (y ≡ f x)
of_mapped f None y e = absurd (cc)
of_mapped f (Some x) y e = (x, refl, of_some y (f x) e)

pub none_mapped : {X Y : Type 0} (f : X → Y) (o : Option X) → None ≡ option_map f o → o ≡ None
none_mapped f None e = refl
none_mapped f (Some x) e = absurd (cc)

given_source : (sources : List Source) (log : List Entry) (p : Pending) (n number : ℕ) (instance : Source) (m : ℕ) → IsGivenAt log p number → (x : IsGiven sources log p n instance m) → numbered sources number ≡ Some x.source
given_source sources log p n number instance m g x =
    let same = of_some x.entry g.entry (sym x.at ∙ g.at) in
    ap (numbered sources) (sym g.number_is ∙ ap (λ (e : Entry). e.key.number) (sym same)) ∙ x.source_at

pub no_source : (sources : List Source) (log : List Entry) (p : Pending) (n number : ℕ) → IsGivenAt log p number → numbered sources number ≡ None → IsNotGiven sources log p n
no_source sources log p n number g none instance m x = let clash : None ≡ Some x.source = sym none ∙ given_source sources log p n number instance m g x in cc

-- by these variables, in the order of first occurrence
pub record AreOfSource (source : Source) (variables : List ℕ) : Type 0 where
  pub part : Clause Term
  pub part_at : part_of source ≡ Some part
  pub variables_are : distinct nat_eq variables ≡ distinct nat_eq (kept_variables part ++ source_variables source)

pub of_source : (source : Source) (variables : List ℕ) → Some (distinct nat_eq variables) ≡ option_map (λ part. distinct nat_eq (kept_variables part ++ source_variables source)) (part_of source) → AreOfSource source variables
of_source source variables e =
    let there = of_mapped (λ (part : Clause Term). distinct nat_eq (kept_variables part ++ source_variables source)) (part_of source) (distinct nat_eq variables) e in
    record { part = there.0; part_at = there.1; variables_are = there.2 }

too_large : (sources : List Source) (log : List Entry) (p : Pending) (n number : ℕ) (source : Source) (variables : List ℕ) → IsGivenAt log p number → numbered sources number ≡ Some source → AreOfSource source variables
    → is_large_instance (source_under (closing p.terms n variables) source) ≡ true → IsNotGiven sources log p n
too_large sources log p n number source variables g at of large instance m x =
    let same = of_some x.source source (sym (given_source sources log p n number instance m g x) ∙ at) in
    let parts = of_some x.part of.part (sym x.part_at ∙ (ap part_of same ∙ of.part_at)) in
    let by : closing p.terms n (kept_variables x.part ++ source_variables x.source) ≡ closing p.terms n variables =
    (λ i. closing p.terms n (kept_variables (parts i) ++ source_variables (same i))) ∙ closing_same p.terms n (kept_variables of.part ++ source_variables source) variables (sym of.variables_are) in
    let whole : instance ≡ source_under (closing p.terms n variables) source = x.is_instance ∙ (λ i. source_under (by i) (same i)) in
    let clash : false ≡ true = sym x.small ∙ (ap is_large_instance whole ∙ large) in cc

gives_instance : (all : List Term) (sources : List Source) (log : List Entry) (p : Pending) (n number index : ℕ) (source : Source) (variables : List ℕ) (ids : made.Instance) (m : ℕ) → IsGivenAt log p number → numbered sources number ≡ Some source
    → slice_get sources index ≡ Some source → AreOfSource source variables → NamesClosed all (closing p.terms n variables) source index ids → m ≡ next_after p.terms n variables → GivesInstance all sources log p n ids m
gives_instance all sources log p n number index source variables ids m g at here of names next =
    let s = closing p.terms n variables in
    let xs = kept_variables of.part ++ source_variables source in
    record {
      instance = source_under s source;
      named = record {
        source = source;
        at = ap (slice_get sources) names.source_is ∙ here;
        stage = stage-kept s source;
        supposed_named = subst (λ (ts : List Term). NameTerms all ids.supposed ts) (sym (facts_under-terms s source.raw.hypotheses)) names.supposed_named;
        messages = map (bind s) (messages_of source.action);
        messages_named = names.messages_named;
        sessions = map (bind s) (sessions_of source.action);
        sessions_named = names.sessions_named;
        action = is_done s source.action;
      };
      given = record {
        entry = g.entry;
        source = source;
        part = of.part;
        at = g.at;
        given = g.given;
        source_at = ap (numbered sources) g.number_is ∙ at;
        part_at = of.part_at;
        is_instance = ap (λ (r : Subst). source_under r source) (closing_same p.terms n variables xs of.variables_are);
        next = next ∙ next_same p.terms n variables xs of.variables_are;
        small = names.small;
      };
    }

pub known_found : (all : List Term) (s : Subst) (source : Source) (index : ℕ) (r : Result (Option made.Instance) AllocError) → IfOk r (λ found. IsClosedSource all s source index found) → IfOk r (λ found. IsFoundIn all found)
known_found all s source index (Ok None) large = tt
known_found all s source index (Ok (Some ids)) names = record { supposed = names.supposed_named.known; messages = names.messages_named.known; sessions = names.sessions_named.known }
known_found all s source index (Err x) closed = tt

pub instance_found : (all : List Term) (sources : List Source) (log : List Entry) (p : Pending) (n number index : ℕ) (source : Source) (variables : List ℕ) (m : ℕ) (r : Result (Option made.Instance) AllocError) → IsGivenAt log p number → numbered sources number ≡ Some source → slice_get sources index ≡ Some source
    → AreOfSource source variables → m ≡ next_after p.terms n variables → IfOk r (λ found. IsClosedSource all (closing p.terms n variables) source index found) → IfOk r (λ found. IsInstanceOf all sources log p n found m)
instance_found all sources log p n number index source variables m (Ok None) g at here of next large = too_large sources log p n number source variables g at of large
instance_found all sources log p n number index source variables m (Ok (Some ids)) g at here of next names = gives_instance all sources log p n number index source variables ids m g at here of names next
instance_found all sources log p n number index source variables m (Err x) g at here of next closed = tt
