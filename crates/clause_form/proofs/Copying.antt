-- Facts and clauses keep their trees as the bank grows, and are copied one by one.
use Rattle.std.proofs.Common.{◌≡◌, ℕ, ◌+◌, ◌<◌, ◌≤◌, List, [], ◌∷◌, ◌++◌, length, map, take, get_or, refl, ap, sym, ◌∙◌, subst}
use Rattle.std.proofs.lemmas.List.{map-append, map_more, take_more, take_all}
use Rattle.spec_terms.specs.Term.{Term}
use Rattle.spec_clauses.specs.Diff.{Diff}
use Rattle.spec_clauses.specs.Fact.{Fact, Att, Mess, Tab, Ev, Mev, Bad, Clause}
use Rattle.spec_clauses.specs.Shown.{diff_shown}
use Rattle.term_tree.specs.Bank.{tree_at, Names, Grows}
use Rattle.term_tree.specs.declared.bank.Id.{Id}
use Rattle.term_tree.proofs.BankLaws.{Grows_trans, AreKnown-grows, trees_at-grow}
use Rattle.clause_diffs.specs.Diffs.{DiffOf, diff_at, NamesDiff, NameDiffs}
pub use Rattle.clause_diffs.proofs.Naming.{NameTerms-grows, NameTerms-push}
use Rattle.clause_diffs.proofs.Naming.{AreDiffsIn-grows, diffs_at-grow, NameDiffs-grows, NameDiffs-push}
use Rattle.clause_diffs.specs.declared.plain.Tree as declared
use Rattle.clause_form.specs.declared.plain.PlainFact.{PlainFact}
use Rattle.clause_form.specs.declared.facts.Fact as facts
use Rattle.clause_form.specs.Facts.{fact_of}
use Rattle.clause_diffs.specs.Plain.{term_of}
use Rattle.clause_form.specs.PlainFacts.{plain_fact_of}
use Rattle.clause_form.specs.Seen.{fact_at, clause_at, IsFactIn, AreFactsIn, IsClauseIn, AreClausesIn, NameTerms, NamesFact, NameFacts, NamesClause, NameClauses, IdClause}
use Rattle.clause_form.proofs.Flattening.{AreFactsIn-append, clause_with}

pub fact_at-grows : (a b : List Term) (f : Fact Id) → Grows a b → IsFactIn a f → fact_at b f ≡ fact_at a f
fact_at-grows a b (Att k t) grows known = let e = trees_at-grow a b (t ∷ []) grows known in cc
fact_at-grows a b (Mess k t u) grows known = let e = trees_at-grow a b (t ∷ u ∷ []) grows known in cc
fact_at-grows a b (Tab n ts) grows known = ap (Tab n) (trees_at-grow a b ts grows known)
fact_at-grows a b (Ev k ts) grows known = ap (Ev k) (trees_at-grow a b ts grows known)
fact_at-grows a b (Mev k ts) grows known = ap (Mev k) (trees_at-grow a b ts grows known)
fact_at-grows a b (Bad ts) grows known = ap Bad (trees_at-grow a b ts grows known)

pub IsFactIn-grows : (a b : List Term) (f : Fact Id) → Grows a b → IsFactIn a f → IsFactIn b f
IsFactIn-grows a b (Att k t) grows known = AreKnown-grows a b (t ∷ []) grows known
IsFactIn-grows a b (Mess k t u) grows known = AreKnown-grows a b (t ∷ u ∷ []) grows known
IsFactIn-grows a b (Tab n ts) grows known = AreKnown-grows a b ts grows known
IsFactIn-grows a b (Ev k ts) grows known = AreKnown-grows a b ts grows known
IsFactIn-grows a b (Mev k ts) grows known = AreKnown-grows a b ts grows known
IsFactIn-grows a b (Bad ts) grows known = AreKnown-grows a b ts grows known

pub NamesFact-grows : (a b : List Term) (f : Fact Id) (t : Fact Term) → Grows a b → NamesFact a f t → NamesFact b f t
NamesFact-grows a b f t grows names = record { known = IsFactIn-grows a b f grows names.known; is = fact_at-grows a b f grows names.known ∙ names.is }

pub AreFactsIn-grows : (a b : List Term) (fs : List (Fact Id)) → Grows a b → AreFactsIn a fs → AreFactsIn b fs
AreFactsIn-grows a b [] grows known = tt
AreFactsIn-grows a b (f ∷ fs) grows known = (IsFactIn-grows a b f grows known.0, AreFactsIn-grows a b fs grows known.1)

pub facts_at-grow : (a b : List Term) (fs : List (Fact Id)) → Grows a b → AreFactsIn a fs → map (fact_at b) fs ≡ map (fact_at a) fs
facts_at-grow a b [] grows known = refl
facts_at-grow a b (f ∷ fs) grows known = cc (fact_at-grows a b f grows known.0, facts_at-grow a b fs grows known.1)

pub NameFacts-grows : (a b : List Term) (fs : List (Fact Id)) (ts : List (Fact Term)) → Grows a b → NameFacts a fs ts → NameFacts b fs ts
NameFacts-grows a b fs ts grows names = record { known = AreFactsIn-grows a b fs grows names.known; are = facts_at-grow a b fs grows names.known ∙ names.are }

IsClauseIn-grows : (a b : List Term) (c : IdClause) → Grows a b → IsClauseIn a c → IsClauseIn b c
IsClauseIn-grows a b c grows known = record {
  hypotheses = AreFactsIn-grows a b c.hypotheses grows known.hypotheses;
  diffs = AreDiffsIn-grows a b c.diffs grows known.diffs;
  conclusion = IsFactIn-grows a b c.conclusion grows known.conclusion;
}

clause_at-grows : (a b : List Term) (c : IdClause) → Grows a b → IsClauseIn a c → clause_at b c ≡ clause_at a c
clause_at-grows a b c grows known =
    let hyps = facts_at-grow a b c.hypotheses grows known.hypotheses in
    let diffs = diffs_at-grow a b c.diffs grows known.diffs in
    let concl = fact_at-grows a b c.conclusion grows known.conclusion in
    λ i. record { hypotheses = hyps i; diffs = diffs i; conclusion = concl i }

pub NamesClause-grows : (a b : List Term) (c : IdClause) (t : Clause Term) → Grows a b → NamesClause a c t → NamesClause b c t
NamesClause-grows a b c t grows names = record { known = IsClauseIn-grows a b c grows names.known; is = clause_at-grows a b c grows names.known ∙ names.is }

AreClausesIn-grows : (a b : List Term) (cs : List IdClause) → Grows a b → AreClausesIn a cs → AreClausesIn b cs
AreClausesIn-grows a b [] grows known = tt
AreClausesIn-grows a b (c ∷ cs) grows known = (IsClauseIn-grows a b c grows known.0, AreClausesIn-grows a b cs grows known.1)

clauses_at-grow : (a b : List Term) (cs : List IdClause) → Grows a b → AreClausesIn a cs → map (clause_at b) cs ≡ map (clause_at a) cs
clauses_at-grow a b [] grows known = refl
clauses_at-grow a b (c ∷ cs) grows known = cc (clause_at-grows a b c grows known.0, clauses_at-grow a b cs grows known.1)

pub NameClauses-grow : (a b : List Term) (cs : List IdClause) (ts : List (Clause Term)) → Grows a b → NameClauses a cs ts → NameClauses b cs ts
NameClauses-grow a b cs ts grows names = record { known = AreClausesIn-grows a b cs grows names.known; are = clauses_at-grow a b cs grows names.known ∙ names.are }

-- one more fact after those that are named
pub NameFacts-push : (all : List Term) (fs : List (Fact Id)) (ts : List (Fact Term)) (f : Fact Id) (t : Fact Term) → NameFacts all fs ts → NamesFact all f t → NameFacts all (fs ++ f ∷ []) (ts ++ t ∷ [])
NameFacts-push all fs ts f t names more = record {
  known = AreFactsIn-append all fs (f ∷ []) names.known (more.known, tt);
  are = map-append (fact_at all) fs (f ∷ []) ∙ (ap (λ l. l ++ fact_at all f ∷ []) names.are ∙ ap (λ u. ts ++ u ∷ []) more.is);
}

-- how far trees, and facts over trees, are copied
pub record IsCopied (old now : List Term) (ids : List Id) (trees : List declared.Tree) (i : ℕ) : Type 0 where
  pub grows : Grows old now
  pub names : NameTerms now ids (map term_of (take i trees))

pub copied_on : (old now next : List Term) (ids new : List Id) (trees : List declared.Tree) (i : ℕ) (t : declared.Tree) (id : Id) → IsCopied old now ids trees i → i < length trees → t ≡ get_or trees i t → Grows now next
    → Names next id (term_of t) → new ≡ ids ++ id ∷ [] → IsCopied old next new trees (i + 1)
copied_on old now next ids new trees i t id was within is grows names e =
    let more : map term_of (take (i + 1) trees) ≡ map term_of (take i trees) ++ term_of t ∷ [] = map_more term_of trees i t within ∙ ap (λ u. map term_of (take i trees) ++ term_of u ∷ []) (sym is) in
    record {
      grows = Grows_trans old now next was.grows grows;
      names = subst (λ (l : List Id). NameTerms next l (map term_of (take (i + 1) trees))) (sym e)
          (subst (λ (l : List Term). NameTerms next (ids ++ id ∷ []) l) (sym more) (NameTerms-push next ids (map term_of (take i trees)) id (term_of t) (NameTerms-grows now next ids (map term_of (take i trees)) grows was.names) names));
    }

pub record AreCopied (old now : List Term) (fs : List facts.Fact) (plain : List PlainFact) (i : ℕ) : Type 0 where
  pub grows : Grows old now
  pub names : NameFacts now (map fact_of fs) (map plain_fact_of (take i plain))

pub facts_copied_on : (old now next : List Term) (fs new : List facts.Fact) (plain : List PlainFact) (i : ℕ) (p : PlainFact) (f : facts.Fact) → AreCopied old now fs plain i → i < length plain → p ≡ get_or plain i p → Grows now next
    → NamesFact next (fact_of f) (plain_fact_of p) → new ≡ fs ++ f ∷ [] → AreCopied old next new plain (i + 1)
facts_copied_on old now next fs new plain i p f was within is grows names e =
    let more : map plain_fact_of (take (i + 1) plain) ≡ map plain_fact_of (take i plain) ++ plain_fact_of p ∷ [] = map_more plain_fact_of plain i p within ∙ ap (λ u. map plain_fact_of (take i plain) ++ plain_fact_of u ∷ []) (sym is) in
    let made : map fact_of new ≡ map fact_of fs ++ fact_of f ∷ [] = ap (map fact_of) e ∙ map-append fact_of fs (f ∷ []) in
    record {
      grows = Grows_trans old now next was.grows grows;
      names = subst (λ (l : List (Fact Id)). NameFacts next l (map plain_fact_of (take (i + 1) plain))) (sym made)
          (subst (λ (l : List (Fact Term)). NameFacts next (map fact_of fs ++ fact_of f ∷ []) l) (sym more)
          (NameFacts-push next (map fact_of fs) (map plain_fact_of (take i plain)) (fact_of f) (plain_fact_of p) (NameFacts-grows now next (map fact_of fs) (map plain_fact_of (take i plain)) grows was.names) names));
    }

-- a constraint over trees, and over ids, from its parts
pub diff_read : (all : List Term) (d : DiffOf Id) (first : ℕ) (left right : List Term) → left ≡ map (tree_at all) d.left → right ≡ map (tree_at all) d.right → first ≡ d.first → diff_shown record { first = first; left = left; right = right } ≡ diff_at all d
diff_read all d first left right is_left is_right is = λ i. diff_shown record { first = is i; left = is_left i; right = is_right i }

pub diff_named : (now next : List Term) (first seen : ℕ) (left right : List Id) (lefts rights ls rs : List Term) (d : Diff) → Grows now next → NameTerms now left lefts → NameTerms next right rights → first ≡ seen → lefts ≡ ls → rights ≡ rs
    → diff_shown record { first = seen; left = ls; right = rs } ≡ d → NamesDiff next record { first = first; left = left; right = right } d
diff_named now next first seen left right lefts rights ls rs d grows left_named right_named first_is lefts_are rights_are is =
    let later = NameTerms-grows now next left lefts grows left_named in
    let left_is = later.are ∙ lefts_are in
    let right_is = right_named.are ∙ rights_are in
    record {
      known = record { left = later.known; right = right_named.known };
      is = (λ i. diff_shown record { first = first_is i; left = left_is i; right = right_is i }) ∙ is;
    }

-- how far constraints are copied
pub record AreDiffsCopied (old now : List Term) (ds : List (DiffOf Id)) (plain : List Diff) (i : ℕ) : Type 0 where
  pub grows : Grows old now
  pub names : NameDiffs now ds (take i plain)

pub diffs_copied_on : (old now next : List Term) (ds new : List (DiffOf Id)) (plain : List Diff) (i : ℕ) (p : Diff) (d : DiffOf Id) → AreDiffsCopied old now ds plain i → i < length plain → p ≡ get_or plain i p → Grows now next
    → NamesDiff next d p → new ≡ ds ++ d ∷ [] → AreDiffsCopied old next new plain (i + 1)
diffs_copied_on old now next ds new plain i p d was within is grows names e =
    let more : take (i + 1) plain ≡ take i plain ++ p ∷ [] = take_more plain i p within ∙ ap (λ q. take i plain ++ q ∷ []) (sym is) in
    record {
      grows = Grows_trans old now next was.grows grows;
      names = subst (λ (l : List (DiffOf Id)). NameDiffs next l (take (i + 1) plain)) (sym e)
          (subst (λ (l : List Diff). NameDiffs next (ds ++ d ∷ []) l) (sym more) (NameDiffs-push next ds (take i plain) d p (NameDiffs-grows now next ds (take i plain) grows was.names) names));
    }

pub diffs_copied_all : (old now : List Term) (ds : List (DiffOf Id)) (plain : List Diff) (i : ℕ) → AreDiffsCopied old now ds plain i → length plain ≤ i → NameDiffs now ds plain
diffs_copied_all old now ds plain i was past = subst (λ (l : List Diff). NameDiffs now ds l) (take_all i plain past) was.names

-- what names the parts of a clause, one after the other, names the clause
pub clause_named : (first second next : List Term) (hyps : List (Fact Id)) (diffs : List (DiffOf Id)) (concl : Fact Id) (facts : List (Fact Term)) (constraints : List Diff) (plain : Clause Term) → Grows first second → Grows second next → NameFacts first hyps facts
    → facts ≡ plain.hypotheses → NameDiffs second diffs constraints → constraints ≡ plain.diffs → NamesFact next concl plain.conclusion → NamesClause next (clause_with hyps diffs concl) plain
clause_named first second next hyps diffs concl facts constraints plain to_second to_next hyps_named facts_are diffs_named constraints_are concl_named =
    let supposed = NameFacts-grows first next hyps facts (Grows_trans first second next to_second to_next) hyps_named in
    let constrained = NameDiffs-grows second next diffs constraints to_next diffs_named in
    let hyps_are = supposed.are ∙ facts_are in
    let diffs_are = constrained.are ∙ constraints_are in
    record {
      known = record { hypotheses = supposed.known; diffs = constrained.known; conclusion = concl_named.known };
      is = λ i. record { hypotheses = hyps_are i; diffs = diffs_are i; conclusion = concl_named.is i };
    }
