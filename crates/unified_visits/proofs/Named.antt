-- Visits of a bank that grows, and visits made from visits.
use Rattle.std.proofs.Common.{◌≡◌, ℕ, ◌+◌, ◌<◌, ◌≤◌, Ok, Err, Result, List, [], ◌∷◌, ◌++◌, length, map, refl, ap, sym, subst, ◌∙◌, arith}
use Rattle.std.specs.Prelude.{flat_map, IfOk}
use Rattle.std.proofs.lemmas.List.{map-append, length-append}
use Rattle.spec_trees.specs.Tree.{Leaf, node, trees}
use Rattle.spec_calculus.specs.Syntax.{Name, Made}
use Rattle.spec_terms.specs.Term.{Point, Sym, Term}
use Rattle.spec_clauses.specs.Fact.{terms_of}
use Rattle.spec_clauses.specs.Diff.{Diff, diff_variables, numbered_diff}
use Rattle.spec_clauses.specs.Variables.{leaves, row_leaves, IsBelow, AreBelow}
use Rattle.spec_clauses.proofs.Lists.{all_append, all_first, all_second, all_weaker}
use Rattle.spec_translation.specs.Conversion.{Scope, name_term}
use Rattle.spec_translation.specs.Visit.{Visit, visit_terms, after_copy, after_phase, after_new}
use Rattle.term_tree.specs.Bank.{tree_at, Names, Grows}
use Rattle.term_tree.specs.declared.bank.Id.{Id}
use Rattle.clause_diffs.specs.Diffs.{DiffOf, diffs_at}
use Rattle.clause_diffs.proofs.Naming.{AreDiffsIn-grows, diffs_at-grow}
use Rattle.clause_form.specs.Seen.{fact_at, NameTerms, NameFacts}
use Rattle.clause_form.proofs.Copying.{NameTerms-grows, NameTerms-push, NameFacts-grows}
use Rattle.clause_terms.specs.Scopes.{Held, scope_at, IsScopeIn, NamesScope}
use Rattle.unified_visits.specs.declared.visit.Visit as source
use Rattle.unified_visits.specs.Room.{most_next}
use Rattle.unified_visits.specs.Visits.{visit_at, IsVisitIn, NamesVisit, ShowDiffs}
use Rattle.unified_visits.proofs.Scopes.{NamesScope-grows}

-- what holds of an answer, by what holds of it
pub if_ok : {X E : Type 0} (r : Result X E) (P Q : X → Type 0) → ((x : X) → P x → Q x) → IfOk r P → IfOk r Q
if_ok (Ok x) P Q gives h = gives x h
if_ok (Err e) P Q gives h = h

-- variables below a number are below a greater one
pub below_more : (n m : ℕ) → n ≤ m → (t : Term) → IsBelow n t → IsBelow m t
below_more n m up t b = all_weaker (λ x. x < n) (λ x. x < m) (λ x h. omega (arith, h, up)) (leaves t) b

pub all_below_more : (n m : ℕ) → n ≤ m → (ts : List Term) → AreBelow n ts → AreBelow m ts
all_below_more n m up ts b = all_weaker (IsBelow n) (IsBelow m) (below_more n m up) ts b

-- the variables of its constraints
abbrev constrained : Visit → List Term
constrained v = map Leaf (flat_map diff_variables v.diffs)

-- all variables of a visit are below a number
pub record Below (n : ℕ) (v : Visit) : Type 0 where
  pub scope : AreBelow n (map (λ b. b.term) v.scope)
  pub hypotheses : AreBelow n (flat_map terms_of v.hypotheses)
  pub messages : AreBelow n v.messages
  pub sessions : AreBelow n v.sessions
  pub diffs : AreBelow n (constrained v)

pub parted : (n : ℕ) (v : Visit) → AreBelow n (visit_terms v) → Below n v
parted n v b =
    let scope : List Term = map (λ b. b.term) v.scope in
    let hypotheses = flat_map terms_of v.hypotheses in
    let others = v.sessions ++ constrained v in
    let known = all_second (IsBelow n) scope (hypotheses ++ (v.messages ++ others)) b in
    let past = all_second (IsBelow n) hypotheses (v.messages ++ others) known in
    let last = all_second (IsBelow n) v.messages others past in
    record {
      scope = all_first (IsBelow n) scope (hypotheses ++ (v.messages ++ others)) b;
      hypotheses = all_first (IsBelow n) hypotheses (v.messages ++ others) known;
      messages = all_first (IsBelow n) v.messages others past;
      sessions = all_first (IsBelow n) v.sessions (constrained v) last;
      diffs = all_second (IsBelow n) v.sessions (constrained v) last;
    }

pub joined : (n : ℕ) (v : Visit) → Below n v → AreBelow n (visit_terms v)
joined n v b =
    let hypotheses = flat_map terms_of v.hypotheses in
    let others = v.sessions ++ constrained v in
    all_append (IsBelow n) (map (λ b. b.term) v.scope) (hypotheses ++ (v.messages ++ others)) b.scope
    (all_append (IsBelow n) hypotheses (v.messages ++ others) b.hypotheses (all_append (IsBelow n) v.messages others b.messages (all_append (IsBelow n) v.sessions (constrained v) b.sessions b.diffs)))

pub below_visit_more : (n m : ℕ) (v : Visit) → n ≤ m → Below n v → Below m v
below_visit_more n m v up b = record {
  scope = all_below_more n m up (map (λ b. b.term) v.scope) b.scope;
  hypotheses = all_below_more n m up (flat_map terms_of v.hypotheses) b.hypotheses;
  messages = all_below_more n m up v.messages b.messages;
  sessions = all_below_more n m up v.sessions b.sessions;
  diffs = all_below_more n m up (constrained v) b.diffs;
}

-- constraints in a bank that grew
pub ShowDiffs-grows : (old now : List Term) (ds : List (DiffOf Id)) (trees : List Diff) → Grows old now → ShowDiffs old ds trees → ShowDiffs now ds trees
ShowDiffs-grows old now ds trees grows show = record { known = AreDiffsIn-grows old now ds grows show.known; are = ap (map numbered_diff) (diffs_at-grow old now ds grows show.known) ∙ show.are }

-- a visit whose parts are named is
pub visit_named : (all : List Term) (made : source.Visit) (v : Visit) → NamesScope all made.scope v.scope → NameFacts all made.hypotheses v.hypotheses → NameTerms all made.messages v.messages → NameTerms all made.sessions v.sessions
    → ShowDiffs all made.diffs v.diffs → made.phase ≡ v.phase → Below made.next v → made.next ≤ most_next + length made.sessions → NamesVisit all made v
visit_named all made v scope hypotheses messages sessions diffs phase below room =
    let is : visit_at all made ≡ v = λ i. record { scope = scope.is i; hypotheses = hypotheses.are i; diffs = diffs.are i; messages = messages.are i; sessions = sessions.are i; phase = phase i } in
    record {
      known = record {
        scope = scope.known;
        hypotheses = hypotheses.known;
        diffs = diffs.known;
        messages = messages.known;
        sessions = sessions.known;
        below = subst (λ (w : Visit). AreBelow made.next (visit_terms w)) (sym is) (joined made.next v below);
        room = room;
      };
      is = is;
    }

-- the parts of a visit in a bank that grew
module _ (old now : List Term) (v : source.Visit) (grows : Grows old now) (known : IsVisitIn old v) where
  pub scope_later : NamesScope now v.scope (visit_at old v).scope
  scope_later = NamesScope-grows old now v.scope (scope_at old v.scope) grows record { known = known.scope; is = refl }

  pub hypotheses_later : NameFacts now v.hypotheses (visit_at old v).hypotheses
  hypotheses_later = NameFacts-grows old now v.hypotheses (map (fact_at old) v.hypotheses) grows record { known = known.hypotheses; are = refl }

  pub messages_later : NameTerms now v.messages (visit_at old v).messages
  messages_later = NameTerms-grows old now v.messages (map (tree_at old) v.messages) grows record { known = known.messages; are = refl }

  pub sessions_later : NameTerms now v.sessions (visit_at old v).sessions
  sessions_later = NameTerms-grows old now v.sessions (map (tree_at old) v.sessions) grows record { known = known.sessions; are = refl }

  pub diffs_later : ShowDiffs now v.diffs (visit_at old v).diffs
  diffs_later = ShowDiffs-grows old now v.diffs (map numbered_diff (diffs_at old v.diffs)) grows record { known = known.diffs; are = refl }

  pub below_parts : Below v.next (visit_at old v)
  below_parts = parted v.next (visit_at old v) known.below

  pub visit_later : NamesVisit now v (visit_at old v)
  visit_later = visit_named now v (visit_at old v) scope_later hypotheses_later messages_later sessions_later diffs_later refl below_parts known.room

pub NamesVisit-grows : (old now : List Term) (v : source.Visit) (tree : Visit) → Grows old now → NamesVisit old v tree → NamesVisit now v tree
NamesVisit-grows old now v tree grows names = subst (λ (w : Visit). NamesVisit now v w) names.is (visit_later old now v grows names.known)

-- in another phase
pub phased : (all : List Term) (v made : source.Visit) (phase : ℕ) → IsVisitIn all v → made ≡ record v { phase = phase } → NamesVisit all made (after_phase (visit_at all v) phase)
phased all v made phase known e =
    let whole : source.Visit = record v { phase = phase } in
    subst (λ (m : source.Visit). NamesVisit all m (after_phase (visit_at all v) phase)) (sym e) record {
      known = record { scope = known.scope; hypotheses = known.hypotheses; diffs = known.diffs; messages = known.messages; sessions = known.sessions; below = known.below; room = known.room };
      is = refl;
    }

-- below a replication
pub copied : (old now : List Term) (v : source.Visit) (session : Id) (next : ℕ) → Grows old now → IsVisitIn old v → Names now session (Leaf v.next) → next ≡ v.next + 1
    → NamesVisit now (record v { sessions = v.sessions ++ session ∷ []; next = next }) (after_copy (visit_at old v) v.next)
copied old now v session next grows known names e =
    let up : v.next ≤ next = omega (arith, e) in
    let below = below_visit_more v.next next (visit_at old v) up (below_parts old now v grows known) in
    visit_named now (record v { sessions = v.sessions ++ session ∷ []; next = next }) (after_copy (visit_at old v) v.next) (scope_later old now v grows known) (hypotheses_later old now v grows known) (messages_later old now v grows known)
    (NameTerms-push now v.sessions (visit_at old v).sessions session (Leaf v.next) (sessions_later old now v grows known) names) (diffs_later old now v grows known) refl
    record {
      scope = below.scope;
      hypotheses = below.hypotheses;
      messages = below.messages;
      sessions = all_append (IsBelow next) (visit_at old v).sessions (Leaf v.next ∷ []) below.sessions ((omega (arith, e), tt), tt);
      diffs = below.diffs;
    }
    (omega (arith, e, known.room, length-append v.sessions (session ∷ [])))

-- one more name in a scope
pub NamesScope-push : (all : List Term) (scope : List Held) (terms : Scope) (x : Name) (id : Id) (t : Term) → NamesScope all scope terms → Names all id t → NamesScope all (scope ++ record { name = x; id = id } ∷ []) (terms ++ record { name = x; term = t } ∷ [])
NamesScope-push all scope terms x id t names more = record {
  known = known scope names.known;
  is = map-append (λ h. record { name = h.name; term = tree_at all h.id }) scope (record { name = x; id = id } ∷ []) ∙ (λ i. names.is i ++ record { name = x; term = more.is i } ∷ []);
} where
  known : (hs : List Held) → IsScopeIn all hs → IsScopeIn all (hs ++ record { name = x; id = id } ∷ [])
  known [] k = (more.known, tt)
  known (h ∷ hs) k = (k.0, known hs k.1)

-- variables of an application are those of its arguments
pub node_below : (n : ℕ) (f : Sym) (ts : List Term) → AreBelow n ts → IsBelow n (node f ts)
node_below n f [] b = tt
node_below n f (t ∷ ts) b = all_append (λ x. x < n) (leaves t) (row_leaves (trees ts)) b.0 (node_below n f ts b.1)

name_below : (n point : ℕ) (messages sessions : List Term) → AreBelow n messages → AreBelow n sessions → IsBelow n (name_term point messages sessions)
name_below n point messages sessions b c = node_below n (Point point) (messages ++ sessions) (all_append (IsBelow n) messages sessions b c)

-- below a restriction
pub restricted : (old now : List Term) (v : source.Visit) (term : Id) (point : ℕ) → Grows old now → IsVisitIn old v → Names now term (name_term point (visit_at old v).messages (visit_at old v).sessions)
    → NamesVisit now (record v { scope = v.scope ++ record { name = Made point; id = term } ∷ [] }) (after_new (visit_at old v) point)
restricted old now v term point grows known names =
    let below = below_parts old now v grows known in
    let t = name_term point (visit_at old v).messages (visit_at old v).sessions in
    visit_named now (record v { scope = v.scope ++ record { name = Made point; id = term } ∷ [] }) (after_new (visit_at old v) point)
    (NamesScope-push now v.scope (visit_at old v).scope (Made point) term t (scope_later old now v grows known) names)
    (hypotheses_later old now v grows known) (messages_later old now v grows known) (sessions_later old now v grows known) (diffs_later old now v grows known) refl
    record {
      scope = subst (λ (l : List Term). AreBelow v.next l) (sym (map-append (λ b. b.term) (visit_at old v).scope (record { name = Made point; term = t } ∷ [])))
          (all_append (IsBelow v.next) (map (λ b. b.term) (visit_at old v).scope) (t ∷ []) below.scope (name_below v.next point (visit_at old v).messages (visit_at old v).sessions below.messages below.sessions, tt));
      hypotheses = below.hypotheses;
      messages = below.messages;
      sessions = below.sessions;
      diffs = below.diffs;
    }
    known.room
