-- Clauses of which each id names a tree: one that was read, and one more behind others.
use Rattle.std.proofs.Common.{◌≡◌, ◌<◌, List, [], ◌∷◌, ◌++◌, length, map, refl, ap, sym, ◌∙◌, subst}
use Rattle.std.specs.List.{AllByRecursion}
use Rattle.std.proofs.lemmas.List.{map-append}
use Rattle.std.proofs.lemmas.Simd.{map-map}
use Rattle.spec_terms.specs.Term.{Term}
use Rattle.spec_clauses.specs.Fact as horn
use Rattle.term_tree.specs.Bank.{AreKnown, tree_at}
use Rattle.term_tree.specs.declared.bank.Id.{Id}
use Rattle.clause_diffs.specs.Diffs.{DiffOf, diff_at, diffs_at, IsDiffIn, AreDiffsIn}
use Rattle.spec_clauses.specs.Diff.{Diff}
use Rattle.spec_certificate_text.specs.Sides.{SidesOf, spelled_diff, meant_diff}
use Rattle.spec_certificate_text.proofs.Sides.{diff_spelled}
use Rattle.clause_form.specs.declared.facts.Fact.{Fact}
use Rattle.clause_form.specs.Facts.{fact_of}
use Rattle.clause_form.specs.Seen.{fact_at, clause_at, IsFactIn, AreFactsIn, IsClauseIn, AreClausesIn, IdClause}
use Rattle.clause_norms.proofs.Norms.{NameClauses-push}
use Rattle.fact_reader.specs.declared.terms.ReadFact.{ReadFact}
use Rattle.fact_reader.specs.Over.{terms_in}

-- ids that each name a tree, and facts
pub known_ids : (all : List Term) (ids : List Id) → AllByRecursion (λ (id : Id). id.index < length all) ids → AreKnown all ids
known_ids all [] known = tt
known_ids all (id ∷ ids) known = (known.0, known_ids all ids known.1)

-- the terms that were read, of which each id names a tree, where what was read is this
pub ids_read : (all : List Term) (read is : ReadFact Id) → read ≡ is → AllByRecursion (λ (id : Id). id.index < length all) (terms_in read) → AreKnown all (terms_in is)
ids_read all read is same known = known_ids all (terms_in is) (subst (λ (r : ReadFact Id). AllByRecursion (λ (id : Id). id.index < length all) (terms_in r)) same known)

facts_known : (all : List Term) (fs : List Fact) → AllByRecursion (λ (f : Fact). IsFactIn all (fact_of f)) fs → AreFactsIn all (map fact_of fs)
facts_known all [] known = tt
facts_known all (f ∷ fs) known = (known.0, facts_known all fs known.1)

-- a constraint of sides that were read is what its own sides mean

abbrev shown : List Term → List Id → List Id → SidesOf Term
shown all left right = record { left = map (tree_at all) left; right = map (tree_at all) right }

pub sides_back : (all : List Term) (left right : List Id) → spelled_diff (meant_diff (shown all left right)) ≡ shown all left right
sides_back all left right = diff_spelled (shown all left right)

pub diff_back : (all : List Term) (left right : List Id) → meant_diff (spelled_diff (meant_diff (shown all left right))) ≡ meant_diff (shown all left right)
diff_back all left right = ap meant_diff (sides_back all left right)

abbrev IsDiffRead : List Term → DiffOf Id → Type 0
IsDiffRead all d = IsDiffIn all d × (meant_diff (spelled_diff (diff_at all d)) ≡ diff_at all d)

diffs_back : (all : List Term) (ds : List (DiffOf Id)) → AllByRecursion (IsDiffRead all) ds → map meant_diff (map (λ (d : DiffOf Id). spelled_diff (diff_at all d)) ds) ≡ diffs_at all ds
diffs_back all [] read = refl
diffs_back all (d ∷ ds) read = let one = read.0.1 in let later = diffs_back all ds read.1 in λ i. one i ∷ later i

diffs_known : (all : List Term) (ds : List (DiffOf Id)) → AllByRecursion (IsDiffRead all) ds → AreDiffsIn all ds
diffs_known all [] read = tt
diffs_known all (d ∷ ds) read = (read.0.0, diffs_known all ds read.1)

-- the clause of facts and constraints that were read
abbrev clause_read : List Fact → List (DiffOf Id) → Fact → IdClause
clause_read hyps diffs concl = record { hypotheses = map fact_of hyps; diffs = diffs; conclusion = fact_of concl }

abbrev clause_with : List (horn.Fact Term) → List Diff → horn.Fact Term → horn.Clause Term
clause_with hyps diffs concl = record { hypotheses = hyps; diffs = diffs; conclusion = concl }

pub clause_seen : (all : List Term) (hyps : List Fact) (ds : List (DiffOf Id)) (concl : Fact) → AllByRecursion (IsDiffRead all) ds
    → clause_with (map (λ (f : Fact). fact_at all (fact_of f)) hyps) (map meant_diff (map (λ (d : DiffOf Id). spelled_diff (diff_at all d)) ds)) (fact_at all (fact_of concl)) ≡ clause_at all (clause_read hyps ds concl)
clause_seen all hyps ds concl read =
    let first = sym (map-map (fact_at all) fact_of hyps) in
    let second = diffs_back all ds read in
    λ i. clause_with (first i) (second i) (fact_at all (fact_of concl))

pub clause_known : (all : List Term) (hyps : List Fact) (ds : List (DiffOf Id)) (concl : Fact) → AllByRecursion (IsDiffRead all) ds → AllByRecursion (λ (f : Fact). IsFactIn all (fact_of f)) hyps → IsFactIn all (fact_of concl) → IsClauseIn all (clause_read hyps ds concl)
clause_known all hyps ds concl read some one = record { hypotheses = facts_known all hyps some; diffs = diffs_known all ds read; conclusion = one }

pub clauses_on : (all : List Term) (cs longer : List IdClause) (c : IdClause) → longer ≡ cs ++ c ∷ [] → map (clause_at all) longer ≡ map (clause_at all) cs ++ clause_at all c ∷ []
clauses_on all cs longer c is = ap (map (clause_at all)) is ∙ map-append (clause_at all) cs (c ∷ [])

pub clauses_known_on : (all : List Term) (cs longer : List IdClause) (c : IdClause) → longer ≡ cs ++ c ∷ [] → AreClausesIn all cs → IsClauseIn all c → AreClausesIn all longer
clauses_known_on all cs longer c is known one =
    subst (λ (l : List IdClause). AreClausesIn all l) (sym is)
    (NameClauses-push all cs (map (clause_at all) cs) c (clause_at all c) record { known = known; are = refl } record { known = one; is = refl }).known
