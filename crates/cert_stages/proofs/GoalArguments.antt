-- The goal of a query has as many arguments as `bad` has for the query.
use Rattle.std.proofs.Common.{◌≡◌, ◌∙◌, List, [], ◌∷◌, length, get_or, refl, ap, sym, subst, arith}
use Rattle.std.proofs.lemmas.List.{length-map}
use Rattle.spec_calculus.specs.Syntax.{Variable, Query, Secret, SecretNew, Correspondence, Protocol}
use Rattle.spec_terms.specs.Term.{Term}
use Rattle.spec_clauses.specs.Fact.{Fact, Att, Mess, Tab, Ev, Mev, Bad, Clause, map_fact}
use Rattle.spec_clauses.specs.Inclusion.{here, Has}
use Rattle.spec_translation.specs.Goal.{goal_raw, query_leaf, event_variables}
use Rattle.spec_translation.specs.Translation.{goal_clauses}
use Rattle.spec_translation.proofs.Placement.{norms-outline}
use Rattle.spec_certificates.specs.Certificate.{bad_arguments}
use Rattle.term_tree.specs.Bank.{tree_at}
use Rattle.clause_form.specs.Seen.{clause_at, NameClauses, IdClause}
use Rattle.cert_stages.specs.Arguments.{arguments_of}

-- they depend on no terms
pub mapped_arguments : {X Y : Type 0} (v : X → Y) (f : Fact X) → arguments_of (map_fact v f) ≡ arguments_of f
mapped_arguments v (Att k t) = refl
mapped_arguments v (Mess k t u) = refl
mapped_arguments v (Tab n ts) = refl
mapped_arguments v (Ev e ts) = refl
mapped_arguments v (Mev e ts) = refl
mapped_arguments v (Bad ts) = length-map ts v

raw_arguments : (P : Protocol) (q : Query) → arguments_of (goal_raw P q).conclusion ≡ bad_arguments q
raw_arguments P (Secret message phase) = refl
raw_arguments P (SecretNew point phase) = refl
raw_arguments P (Correspondence left alternatives) = length-map (event_variables left) (λ i. query_leaf (Variable i))

pub goal_arguments : (P : Protocol) (q : Query) (goal : Clause Term) → goal_clauses P q ≡ goal ∷ [] → arguments_of goal.conclusion ≡ bad_arguments q
goal_arguments P q goal is =
    let listed : Has (goal_clauses P q) goal = subst (λ l. Has l goal) (sym is) ([], here) in
    let same = norms-outline (goal_raw P q) goal listed in
    sym (mapped_arguments (λ t. tt) goal.conclusion) ∙ (ap arguments_of same ∙ (mapped_arguments (λ t. tt) (goal_raw P q).conclusion ∙ raw_arguments P q))

-- the clause over a bank that names the goal has so many
pub named_arguments : (all : List Term) (made : List IdClause) (P : Protocol) (q : Query) (c : IdClause) → NameClauses all made (goal_clauses P q) → length made ≡ 1 → c ≡ get_or made 0 c → arguments_of c.conclusion ≡ bad_arguments q
named_arguments all [] P q c names one is = absurd (omega (arith, one))
named_arguments all (d ∷ []) P q c names one is =
    ap (λ x. arguments_of x.conclusion) is ∙ (sym (mapped_arguments (tree_at all) d.conclusion) ∙ goal_arguments P q (clause_at all d) (sym names.are))
named_arguments all (d ∷ e ∷ es) P q c names one is = absurd (omega (arith, one))
