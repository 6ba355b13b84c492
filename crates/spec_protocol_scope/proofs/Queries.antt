-- What holds of each query that the rules of scope give.
use Rattle.std.proofs.Common.{◌≡◌, ℕ, suc, ◌+◌, ◌-◌, ◌≤◌, Bool, true, false, nat_le, List, [], ◌∷◌, length, slice_get, Some, Ok, refl, ap, subst, ◌∙◌, sym, arith, if◌then◌else◌}
use Rattle.std.specs.List.{AllByRecursion, flat_map}
use Rattle.std.specs.Str.{bytes_eq}
use Rattle.std.proofs.lemmas.Bool.{leb-true}
use Rattle.spec_trees.specs.Tree.{trees, sizes}
use Rattle.spec_calculus.specs.Bounds.{most_alternatives, most_events, most_queries, most_written_symbols}
use Rattle.spec_calculus.specs.Syntax as calculus
use Rattle.spec_calculus.specs.Syntax.{Name, Made, Variable, Term, Process, EventTerm, Secret, SecretNew}
use Rattle.spec_calculus.specs.Points.{numbered, nodes, is_restriction, greatest_phase}
use Rattle.spec_calculus.specs.Plain.{IsPlainQuery}
use Rattle.spec_calculus.proofs.Items.{each-append, each-weaker}
use Rattle.spec_well_formed.specs.Signature.{Signature}
use Rattle.spec_well_formed.specs.Leaves.{leaves}
use Rattle.spec_well_formed.specs.Queries.{IsDeclaredFree, IsFreeOrVariable, event_leaves, correspondence_leaves, IsRestrictionAt, HasLeavesFor}
use Rattle.spec_well_formed.specs.Terms.{IsTermOver, IsKnown, IsEventOver}
use Rattle.spec_well_formed.specs.Limits.{IsSmallEvent, IsSmallAlternative, IsSmallQuery}
use Rattle.spec_well_formed.specs.WellFormed.{IsQueryOver}
use Rattle.spec_protocol_grammar.specs.Sketch.{AtomSketch, AlternativeSketch, QuerySketch, AttackerNew, Attacker, Correspondence, DeclarationSketch, Free, Fun, Data, Reduc, Event, Table, Query, Definition}
use Rattle.spec_protocol_scope.specs.Answers.{Unknown, AmbiguousNew}
use Rattle.spec_protocol_scope.specs.Names.{signature_with, Scope, look}
use Rattle.spec_protocol_scope.specs.Terms as terms
use Rattle.spec_protocol_scope.specs.Terms.{InEvent, count}
use Rattle.spec_protocol_scope.specs.Phases.{asked_phase}
use Rattle.spec_protocol_scope.specs.Queries as rules
use Rattle.spec_protocol_scope.proofs.Stepped.{stepped, faulty, kept, found_one}
use Rattle.spec_protocol_scope.proofs.Solid.{AreSolid, IsSolidAlternative, IsSolidQuery, IsSolidDeclaration}
use Rattle.spec_protocol_scope.proofs.Terms.{row_holds}
use Rattle.spec_protocol_scope.proofs.Numbering.{Leads, leads-append, leads_numbered}
use Rattle.spec_protocol_scope.proofs.Leaves.{Leading, LeadingRow, leading}
use Rattle.spec_protocol_scope.proofs.Known.{rows_known}
use Rattle.spec_protocol_scope.proofs.Patterns.{term_below}
use Rattle.spec_protocol_scope.proofs.Events.{event_over}
use Rattle.spec_protocol_scope.proofs.Phases.{phase_asked}

-- the first of the points of a word is a restriction
record Restricts (first : ℕ) (ps : List Process) (point : ℕ) : Type 0 where
  index : ℕ
  is : point ≡ first + index
  node : Process
  stands : slice_get ps index ≡ Some node
  restricts : is_restriction node ≡ true

restricts_later : (first : ℕ) (p : Process) (ps : List Process) (point : ℕ) → Restricts (first + 1) ps point → Restricts first (p ∷ ps) point
restricts_later first p ps point r = record { index = suc r.index; is = omega (arith, r.is); node = r.node; stands = r.stands; restricts = r.restricts }

first_point : (word : List ℕ) (ps : List Process) (first point : ℕ) (others : List ℕ) → rules.points_of word first ps ≡ point ∷ others → Restricts first ps point
first_point word [] first point others e = absurd (let same = e in cc)
first_point word (calculus.New made next ∷ ps) first point others e = by (bytes_eq made word) (λ h. first_point word ps (first + 1) point others h) e
  where
    by : (b : Bool) → (rules.points_of word (first + 1) ps ≡ point ∷ others → Restricts (first + 1) ps point)
        → (if b then first ∷ rules.points_of word (first + 1) ps else rules.points_of word (first + 1) ps) ≡ point ∷ others → Restricts first (calculus.New made next ∷ ps) point
    by true later e = let same : first ≡ point = (let s = e in cc) in record { index = 0; is = omega (arith, same); node = calculus.New made next; stands = refl; restricts = refl }
    by false later e = restricts_later first (calculus.New made next) ps point (later e)
first_point word (calculus.Nil ∷ ps) first point others e = restricts_later first _ ps point (first_point word ps (first + 1) point others e)
first_point word (calculus.Output c m next ∷ ps) first point others e = restricts_later first _ ps point (first_point word ps (first + 1) point others e)
first_point word (calculus.Input c p next ∷ ps) first point others e = restricts_later first _ ps point (first_point word ps (first + 1) point others e)
first_point word (calculus.Parallel p q ∷ ps) first point others e = restricts_later first _ ps point (first_point word ps (first + 1) point others e)
first_point word (calculus.Replication p ∷ ps) first point others e = restricts_later first _ ps point (first_point word ps (first + 1) point others e)
first_point word (calculus.Let p x next otherwise ∷ ps) first point others e = restricts_later first _ ps point (first_point word ps (first + 1) point others e)
first_point word (calculus.Event x next ∷ ps) first point others e = restricts_later first _ ps point (first_point word ps (first + 1) point others e)
first_point word (calculus.Phase n next ∷ ps) first point others e = restricts_later first _ ps point (first_point word ps (first + 1) point others e)
first_point word (calculus.Insert t ms next ∷ ps) first point others e = restricts_later first _ ps point (first_point word ps (first + 1) point others e)
first_point word (calculus.Get t qs x next otherwise ∷ ps) first point others e = restricts_later first _ ps point (first_point word ps (first + 1) point others e)

at_restriction : (main : Process) (point : ℕ) → Restricts 1 (nodes main) point → IsRestrictionAt main point
at_restriction main point r =
    let e : point ≡ suc r.index = omega (arith, r.is) in
    record { node = r.node; stands = ap (numbered (nodes main)) e ∙ r.stands; restricts = r.restricts }

-- a query as it should be; it asks of phase 0 where the file is plain, and so the process
pub record Asked (Plain : Type 0) (signature : Signature) (main : Process) (q : calculus.Query) : Type 0 where
  pub has_leaves : HasLeavesFor signature main q
  pub over : IsQueryOver signature q
  pub small : IsSmallQuery q
  pub plain : Plain → greatest_phase main ≡ 0 → IsPlainQuery q

only_point : (main : Process) (x : ℕ) (points : List ℕ) → ((point : ℕ) (others : List ℕ) → points ≡ point ∷ others → IsRestrictionAt main point) → (point : ℕ) → rules.only_point x points ≡ Ok point → IsRestrictionAt main point
only_point main x [] at point e = absurd (faulty Unknown x point e)
only_point main x (first ∷ []) at point e = subst (IsRestrictionAt main) (found_one first point e) (at first [] refl)
only_point main x (first ∷ further ∷ points) at point e = absurd (faulty AmbiguousNew x point e)

-- with nothing bound, what is known is a declared free name
known_free : (signature : Signature) (x : Name) → IsKnown signature [] x → IsDeclaredFree signature x
known_free signature (calculus.Free n) h = h
known_free signature (Made p) h = let within = h.1 in omega arith
known_free signature (Variable i) h = let within = h.1 in omega arith

free_term : (signature : Signature) (t : Term) → IsTermOver signature (IsKnown signature []) t → IsTermOver signature (IsDeclaredFree signature) t
free_term signature t h = record { known = each-weaker _ _ (known_free signature) (leaves t) h.known; arities = h.arities; few = h.few }

each-flat_map : {X A : Type 0} (P : A → Type 0) (f : X → List A) (xs : List X) → AllByRecursion (λ x. AllByRecursion P (f x)) xs → AllByRecursion P (flat_map f xs)
each-flat_map P f [] h = tt
each-flat_map P f (x ∷ xs) h = each-append P (f x) (flat_map f xs) h.0 (each-flat_map P f xs h.1)

module _ (Plain : Type 0) (s : Scope) where
  abbrev signature : Signature
  signature = signature_with s.names

  -- an event, with the variables before and behind it
  record AskedEvent (v : List ℕ) (read : EventTerm × List ℕ) : Type 0 where
    over : IsEventOver signature (IsFreeOrVariable signature) read.0
    leads : Leads (length v) (event_leaves read.0) (length read.1)
    small : IsSmallEvent read.0

  event_leads : (v : List ℕ) (a : AtomSketch) → AreSolid a.arguments → (read : EventTerm × List ℕ) → terms.event s InEvent v a ≡ Ok read → Leads (length v) (event_leaves read.0) (length read.1)
  event_leads v a solid read e =
      let b = stepped (terms.event_named a.first (count a.arguments) (look s a.first)) _ read e in
      let c = stepped (terms.terms s InEvent v a.arguments) _ read b.later in
      let r = row_holds s InEvent Leading LeadingRow (leading s InEvent tt) a.arguments solid v c.value c.first in
      subst (λ (x : EventTerm × List ℕ). Leads (length v) (event_leaves x.0) (length x.1)) (found_one (record { event = b.value; arguments = c.value.0 }, c.value.1) read c.later) r.row

  asked_event : (v : List ℕ) (a : AtomSketch) → AreSolid a.arguments → (read : EventTerm × List ℕ) → rules.asked_event s v a ≡ Ok read → AskedEvent v read
  asked_event v a solid read e =
      let b = stepped (terms.event s InEvent v a) _ read e in
      let k = kept (nat_le (1 + sizes (trees b.value.0.arguments)) most_written_symbols) a.first b.value read b.later in
      subst (AskedEvent v) (sym k.1) (record {
        over = event_over s InEvent tt v a solid b.value b.first;
        leads = event_leads v a solid b.value b.first;
        small = leb-true (1 + sizes (trees b.value.0.arguments)) most_written_symbols k.0;
      })

  -- events in a row, of so many sketches
  record AskedEvents (v : List ℕ) (many : ℕ) (read : List EventTerm × List ℕ) : Type 0 where
    over : AllByRecursion (IsEventOver signature (IsFreeOrVariable signature)) read.0
    leads : Leads (length v) (flat_map event_leaves read.0) (length read.1)
    small : AllByRecursion IsSmallEvent read.0
    counts : length read.0 ≡ many

  asked_events : (as' : List AtomSketch) → AllByRecursion (λ a. AreSolid a.arguments) as' → (v : List ℕ) (read : List EventTerm × List ℕ) → rules.asked_events s v as' ≡ Ok read → AskedEvents v (length as') read
  asked_events [] solid v read e = subst (AskedEvents v 0) (found_one ([], v) read e) (record { over = tt; leads = refl; small = tt; counts = refl })
  asked_events (a ∷ as') solid v read e =
      let b = stepped (rules.asked_event s v a) _ read e in
      let c = stepped (rules.asked_events s b.value.1 as') _ read b.later in
      let one = asked_event v a solid.0 b.value b.first in
      let others = asked_events as' solid.1 b.value.1 c.value c.first in
      subst (AskedEvents v (length (a ∷ as'))) (found_one (b.value.0 ∷ c.value.0, c.value.1) read c.later) (record {
        over = (one.over, others.over);
        leads = leads-append (event_leaves b.value.0) (flat_map event_leaves c.value.0) (length v) (length b.value.1) (length c.value.1) one.leads others.leads;
        small = (one.small, others.small);
        counts = ap suc others.counts;
      })

  -- alternatives in a row, of so many sketches
  record AskedAlternatives (v : List ℕ) (many : ℕ) (read : List (List EventTerm) × List ℕ) : Type 0 where
    over : AllByRecursion (AllByRecursion (IsEventOver signature (IsFreeOrVariable signature))) read.0
    leads : Leads (length v) (flat_map (flat_map event_leaves) read.0) (length read.1)
    small : AllByRecursion IsSmallAlternative read.0
    counts : length read.0 ≡ many

  record AskedAlternative (v : List ℕ) (read : List EventTerm × List ℕ) : Type 0 where
    over : AllByRecursion (IsEventOver signature (IsFreeOrVariable signature)) read.0
    leads : Leads (length v) (flat_map event_leaves read.0) (length read.1)
    small : IsSmallAlternative read.0

  alternative : (a : AlternativeSketch) → IsSolidAlternative a → (v : List ℕ) (read : List EventTerm × List ℕ) → rules.alternative s v a ≡ Ok read → AskedAlternative v read
  alternative a solid v read e =
      let b = stepped (rules.asked_events s v (a.atom ∷ a.others)) _ read e in
      let k = kept (nat_le (1 + length a.others) most_events) (a.atom.first - 1) b.value read b.later in
      let r = asked_events (a.atom ∷ a.others) solid v b.value b.first in
      let few : 1 + length a.others ≤ most_events = leb-true (1 + length a.others) most_events k.0 in
      subst (AskedAlternative v) (sym k.1) (record { over = r.over; leads = r.leads; small = ((let c = r.counts in omega arith), r.small) })

  alternatives : (as' : List AlternativeSketch) → AllByRecursion IsSolidAlternative as' → (v : List ℕ) (read : List (List EventTerm) × List ℕ) → rules.alternatives s v as' ≡ Ok read → AskedAlternatives v (length as') read
  alternatives [] solid v read e = subst (AskedAlternatives v 0) (found_one ([], v) read e) (record { over = tt; leads = refl; small = tt; counts = refl })
  alternatives (a ∷ as') solid v read e =
      let b = stepped (rules.alternative s v a) _ read e in
      let c = stepped (rules.alternatives s b.value.1 as') _ read b.later in
      let one = alternative a solid.0 v b.value b.first in
      let others = alternatives as' solid.1 b.value.1 c.value c.first in
      subst (AskedAlternatives v (length (a ∷ as'))) (found_one (b.value.0 ∷ c.value.0, c.value.1) read c.later) (record {
        over = (one.over, others.over);
        leads = leads-append (flat_map event_leaves b.value.0) (flat_map (flat_map event_leaves) c.value.0) (length v) (length b.value.1) (length c.value.1) one.leads others.leads;
        small = (one.small, others.small);
        counts = ap suc others.counts;
      })

  -- the leaves of events over free names and variables
  event_free : (e : EventTerm) → IsEventOver signature (IsFreeOrVariable signature) e → AllByRecursion (IsFreeOrVariable signature) (event_leaves e)
  event_free e h = rows_known signature (IsFreeOrVariable signature) e.arguments h.arguments

  correspondence : (main : Process) (left : EventTerm × List ℕ) (read : List (List EventTerm) × List ℕ) (many : ℕ) → AskedEvent [] left → AskedAlternatives left.1 many read → many ≤ 16 → Asked Plain signature main (calculus.Correspondence left.0 read.0)
  correspondence main left read many l r few = record {
    has_leaves = (
      each-append _ (event_leaves left.0) (flat_map (flat_map event_leaves) read.0) (event_free left.0 l.over)
          (each-flat_map _ (flat_map event_leaves) read.0 (each-weaker _ _ (λ es h. each-flat_map _ event_leaves es (each-weaker _ _ event_free es h)) read.0 r.over)),
      leads_numbered (correspondence_leaves left.0 read.0) 0 (length read.1) (leads-append (event_leaves left.0) (flat_map (flat_map event_leaves) read.0) 0 (length left.1) (length read.1) l.leads r.leads),
    );
    over = (l.over, r.over);
    small = (l.small, (let c = r.counts in omega arith), r.small);
    plain = λ p none. tt;
  }

  question : (main : Process) (n : ℕ) (q : QuerySketch) → IsSolidQuery Plain q → (asked : calculus.Query) → rules.question s main n q ≡ Ok asked → Asked Plain signature main asked
  question main n (AttackerNew attacker x o) solid asked e =
      let a = stepped (rules.only_point x (rules.points_of (s.text x) 1 (nodes main))) _ asked e in
      let b = stepped (asked_phase s.text main o) _ asked a.later in
      let at = only_point main x (rules.points_of (s.text x) 1 (nodes main)) (λ point others h. at_restriction main point (first_point (s.text x) (nodes main) 1 point others h)) a.value a.first in
      let phase = phase_asked Plain s.text main o solid b.value b.first in
      subst (Asked Plain signature main) (found_one (SecretNew a.value b.value) asked b.later) (record { has_leaves = (at, phase.up); over = tt; small = tt; plain = phase.plain })
  question main n (Attacker attacker t o) solid asked e =
      let a = stepped (terms.process_term s [] t) _ asked e in
      let b = stepped (asked_phase s.text main o) _ asked a.later in
      let over = free_term signature a.value (term_below s [] tt t solid.0 a.value a.first) in
      let phase = phase_asked Plain s.text main o solid.1 b.value b.first in
      subst (Asked Plain signature main) (found_one (Secret a.value b.value) asked b.later) (record { has_leaves = (over.known, phase.up); over = over; small = over.few; plain = phase.plain })
  question main n (Correspondence word a as') solid asked e =
      let b = stepped (rules.asked_event s [] a) _ asked e in
      let c = stepped (rules.alternatives s b.value.1 as') _ asked b.later in
      let k = kept (nat_le (length as') most_alternatives) n (calculus.Correspondence b.value.0 c.value.0) asked c.later in
      subst (Asked Plain signature main) (sym k.1)
      (correspondence main b.value c.value (length as') (asked_event [] a solid.0 b.value b.first) (alternatives as' solid.1 b.value.1 c.value c.first) (leb-true (length as') most_alternatives k.0))

  -- queries behind so many others
  pub record AllAsked (main : Process) (before : ℕ) (qs : List calculus.Query) : Type 0 where
    pub each : AllByRecursion (Asked Plain signature main) qs
    pub few : before + length qs ≤ most_queries

  pub queries : (IsName : ℕ → Type 0) (main : Process) (ds : List DeclarationSketch) → AllByRecursion (IsSolidDeclaration IsName Plain) ds → (before : ℕ) → before ≤ most_queries → (qs : List calculus.Query) → rules.queries s main before ds ≡ Ok qs → AllAsked main before qs
  queries IsName main [] solid before few qs e = subst (AllAsked main before) (found_one [] qs e) (record { each = tt; few = omega arith })
  queries IsName main (Query n q ∷ ds) solid before few qs e =
      let a = stepped (rules.one_query s main n q before) _ qs e in
      let b = stepped (rules.queries s main (before + 1) ds) _ qs a.later in
      let c = stepped (rules.question s main n q) _ a.value a.first in
      let k = kept (nat_le (before + 1) most_queries) n c.value a.value c.later in
      let others = queries IsName main ds solid.1 (before + 1) (leb-true (before + 1) most_queries k.0) b.value b.first in
      subst (AllAsked main before) (found_one (a.value ∷ b.value) qs b.later)
      (record { each = (subst (Asked Plain signature main) (sym k.1) (question main n q solid.0 c.value c.first), others.each); few = let f = others.few in omega arith })
  queries IsName main (Free n public x xs ∷ ds) solid before few qs e = queries IsName main ds solid.1 before few qs e
  queries IsName main (Fun n public x a ∷ ds) solid before few qs e = queries IsName main ds solid.1 before few qs e
  queries IsName main (Data n x a ∷ ds) solid before few qs e = queries IsName main ds solid.1 before few qs e
  queries IsName main (Reduc n r rs ∷ ds) solid before few qs e = queries IsName main ds solid.1 before few qs e
  queries IsName main (Event n x a ∷ ds) solid before few qs e = queries IsName main ds solid.1 before few qs e
  queries IsName main (Table n x a ∷ ds) solid before few qs e = queries IsName main ds solid.1 before few qs e
  queries IsName main (Definition n x body ∷ ds) solid before few qs e = queries IsName main ds solid.1 before few qs e
