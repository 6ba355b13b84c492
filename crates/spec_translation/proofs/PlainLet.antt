-- A `let` of a term with a variable for its pattern binds the variable to the term, and changes nothing else of the visit.
use Rattle.std.proofs.Common.{◌≡◌, ◌∙◌, ℕ, suc, ◌+◌, ◌-◌, ◌<◌, false, Some, List, [], ◌∷◌, ◌++◌, map, refl, sym, arith, ne_eqb}
use Rattle.std.proofs.lemmas.List.{map-append}
use Rattle.spec_trees.specs.Tree.{Leaf, bind}
use Rattle.spec_trees.proofs.Substitution.{bind-Leaf}
use Rattle.spec_calculus.specs.Syntax.{Variable, Bind, Process, Nil, Let, Protocol}
use Rattle.spec_calculus.specs.Syntax as calculus
use Rattle.spec_calculus.specs.Points.{point_after}
use Rattle.spec_terms.specs.Term.{Term}
use Rattle.spec_terms.specs.Binding.{only}
use Rattle.spec_terms.proofs.Replace.{only-self, only-other, after_only}
use Rattle.spec_clauses.specs.Fact.{map_fact}
use Rattle.spec_clauses.specs.Diff.{Diff, diff_under}
use Rattle.spec_clauses.proofs.Diffs.{diff_under-Leaf}
use Rattle.spec_clauses.proofs.Facts.{map_facts-id}
use Rattle.spec_translation.specs.Conversion.{Scope, term_in, Fresh}
use Rattle.spec_translation.specs.Visit.{Visit, bound, standing_under, visit_under, visit_terms, is_large_visit, evaluates_large}
use Rattle.spec_translation.specs.Choice.{ChoiceGoesOn}
use Rattle.spec_translation.specs.Course.{Outcome, Then}
use Rattle.spec_translation.specs.Visited.{Visited}
use Rattle.spec_translation.proofs.Visits.{below_agree, visit_agree}
use Rattle.spec_translation.proofs.Existence.{above_terms}

-- a visit under the substitution of each variable by itself
terms_under-Leaf : (ts : List Term) → map (bind Leaf) ts ≡ ts
terms_under-Leaf [] = refl
terms_under-Leaf (t ∷ ts) = let first = bind-Leaf t in let others = terms_under-Leaf ts in λ i. first i ∷ others i

scope_under-Leaf : (scope : Scope) → map (standing_under Leaf) scope ≡ scope
scope_under-Leaf [] = refl
scope_under-Leaf (b ∷ bs) = let first = bind-Leaf b.term in let others = scope_under-Leaf bs in λ i. record { name = b.name; term = first i } ∷ others i

diffs_under-Leaf : (ds : List Diff) → map (diff_under Leaf) ds ≡ ds
diffs_under-Leaf [] = refl
diffs_under-Leaf (d ∷ ds) = let first = diff_under-Leaf d in let others = diffs_under-Leaf ds in λ i. first i ∷ others i

pub visit_under-Leaf : (v : Visit) → visit_under Leaf v ≡ v
visit_under-Leaf v =
    let scopes = scope_under-Leaf v.scope in
    let facts = (λ i. map (map_fact (λ x. bind-Leaf x i)) v.hypotheses) ∙ map_facts-id v.hypotheses in
    let diffs = diffs_under-Leaf v.diffs in
    let messages = terms_under-Leaf v.messages in
    let sessions = terms_under-Leaf v.sessions in
    λ i. record { scope = scopes i; hypotheses = facts i; diffs = diffs i; messages = messages i; sessions = sessions i; phase = v.phase }

-- The most general unifier replaces the pattern's new variable by the term.
pub plain_let_binds : (P : Protocol) (v : Visit) (i : ℕ) (term : calculus.Term) → ChoiceGoesOn P v (Leaf (Bind i)) (Leaf term) (Some (bound v i (term_in P v.scope term)))
plain_let_binds P v i term =
    let t = term_in P v.scope term in
    let (n, below) = above_terms (t ∷ visit_terms v) in
    let z = n + (i - 0) in
    let s = only z t in
    let at : Fresh = record { base = n; first = 0 } in
    let apart : (x : ℕ) → x < n → s x ≡ Leaf x = λ x l. only-other z t x (ne_eqb z x (λ e. omega arith)) in
    let kept : bind s t ≡ t = below_agree s Leaf n apart t below.0 ∙ bind-Leaf t in
    let self = only-self z t in
    let visits = visit_agree s Leaf n apart v below.1 ∙ visit_under-Leaf v in
    let scopes : map (standing_under s) (v.scope ++ record { name = Variable i; term = Leaf z } ∷ []) ≡ v.scope ++ record { name = Variable i; term = t } ∷ [] =
    map-append (standing_under s) v.scope (record { name = Variable i; term = Leaf z } ∷ []) ∙ (λ k. (visits k).scope ++ record { name = Variable i; term = self k } ∷ []) in
    record {
      base = n;
      at = at;
      is_new = below.1;
      is_apart = (below.0, tt);
      is_fresh = record { is_new = below.1; from_first = (omega arith, tt) };
      goes_on = (
        s,
        record { accepted = (refl, kept ∙ sym self); most = λ r e. (r, after_only r z t (sym e.1)) },
        sym (λ k. record { scope = scopes k; hypotheses = (visits k).hypotheses; diffs = (visits k).diffs; messages = (visits k).messages; sessions = (visits k).sessions; phase = v.phase }),
      );
    }

-- So the process below is visited with the variable bound, and then nothing else.
pub plain_let_visited : (P : Protocol) (v : Visit) (i : ℕ) (term : calculus.Term) (next : Process) (point left : ℕ) (out : Outcome)
    → evaluates_large P v (Let (Leaf (Bind i)) (Leaf term) next Nil) ≡ false → is_large_visit (bound v i (term_in P v.scope term)) ≡ false
    → Then (Visited P next (point + 1) (bound v i (term_in P v.scope term))) (Visited P Nil (point_after (point + 1) next) v) left out
    → Visited P (Let (Leaf (Bind i)) (Leaf term) next Nil) point v (suc left) out
plain_let_visited P v i term next point left out evaluated fits below =
    let w = bound v i (term_in P v.scope term) in
    rw evaluated (Some w ∷ [], (Some w, [], plain_let_binds P v i term, refl, refl), rw fits below)
