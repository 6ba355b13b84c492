-- A thread that takes an entry is followed by the visit below its `get`; one that takes none by the visit of the else branch.
use Rattle.std.proofs.Common.{◌≡◌, ◌∙◌, ℕ, suc, ◌+◌, true, nat_eq, Some, None, List, [], ◌∷◌, ◌++◌, map, length, refl, ap, sym, subst}
use Rattle.std.specs.Prelude.{flat_map, option_map}
use Rattle.std.proofs.lemmas.Bool.{eqb-true}
use Rattle.std.proofs.lemmas.List.{map-append}
use Rattle.spec_trees.specs.Tree.{bind, trees}
use Rattle.spec_calculus.specs.Syntax.{Pattern, Condition, Process, Get, Protocol}
use Rattle.spec_calculus.specs.Syntax as calculus
use Rattle.spec_calculus.specs.Points.{point_after}
use Rattle.spec_calculus.specs.Values.{Value, Environment, value_of}
use Rattle.spec_calculus.specs.Matching.{matched, matched_row, IsLinear}
use Rattle.spec_calculus.specs.Tables.{Held, row_pattern, row_value, meets, if_met, row_matched, matched_entry}
use Rattle.spec_calculus.proofs.Equality.{same_value-sound}
use Rattle.spec_calculus.proofs.Items.{of_some, of_cond, of_then, of_map}
use Rattle.spec_terms.specs.Term.{Term, Subst}
use Rattle.spec_clauses.specs.Fact.{Fact, Tab, Clause, fact_under}
use Rattle.spec_clauses.specs.Flat.{flat}
use Rattle.spec_translation.specs.Conversion.{hole_term, pattern_term}
use Rattle.spec_translation.specs.Visit.{Visit, visit_under, after_entry}
use Rattle.spec_translation.specs.Choice.{left_of, right_of, entry_choice}
use Rattle.spec_translation.proofs.Fresh.{row_under}
use Rattle.spec_abstraction.specs.Trace.{Past}
use Rattle.spec_abstraction.specs.Naming.{Naming, atom_term, abstracted, Carried, abstracted_visit, held_fact}
use Rattle.spec_abstraction.proofs.Conclusions.{AttackerHas, Derived, both_derived}
use Rattle.spec_abstraction.proofs.Following.{flats_with, term_there, pattern_values, visit_there, scope_there, pattern_there, phase_goes_on, Follows}
use Rattle.spec_abstraction.proofs.Choosing.{choice_follows}

-- what a `get` takes: an entry of its table that matches, with bindings that meet the condition
pub record IsFetched (environment : Environment) (table : ℕ) (patterns : List Pattern) (condition : Condition) (held : Held) (bs : Environment) : Type 0 where
  pub of_table : held.table ≡ table
  pub matches : matched environment (row_pattern patterns) (row_value held.arguments) ≡ Some bs
  pub meets_it : meets (environment ++ bs) condition ≡ true

pub fetched : (environment : Environment) (table : ℕ) (patterns : List Pattern) (condition : Condition) (held : Held) (bs : Environment) → matched_entry environment table patterns condition held ≡ Some bs → IsFetched environment table patterns condition held bs
fetched environment table patterns condition held bs e =
    let (cs, found, met) = of_then (if_met environment condition) (row_matched environment table patterns held) bs e in
    let (same_table, matches) = of_cond (nat_eq held.table table) (matched environment (row_pattern patterns) (row_value held.arguments)) cs found in
    let (meets_it, is) = of_cond (meets (environment ++ cs) condition) (Some cs) bs met in
    let same : cs ≡ bs = of_some cs bs is in
    record {
      of_table = eqb-true held.table table same_table;
      matches = matches ∙ ap Some same;
      meets_it = subst (λ ds. meets (environment ++ ds) condition ≡ true) same meets_it;
    }

-- an entry that matches has as many terms as there are patterns
row_counted : (environment : Environment) (patterns : List Pattern) (vs : List Value) (bs : Environment) → matched_row environment (trees patterns) (trees vs) ≡ Some bs → length patterns ≡ length vs
row_counted environment [] [] bs e = refl
row_counted environment [] (v ∷ vs) bs e = cc
row_counted environment (p ∷ ps) [] bs e = cc
row_counted environment (p ∷ ps) (v ∷ vs) bs e =
    let (first, found, rest) = of_then (λ first. option_map (λ others. first ++ others) (matched_row environment (trees ps) (trees vs))) (matched environment p v) bs e in
    let (others, behind, is) = of_map (λ others. first ++ others) (matched_row environment (trees ps) (trees vs)) bs rest in
    ap suc (row_counted environment ps vs others behind)

pub fetched_counted : (environment : Environment) (table : ℕ) (patterns : List Pattern) (condition : Condition) (held : Held) (bs : Environment) → IsFetched environment table patterns condition held bs → length patterns ≡ length held.arguments
fetched_counted environment table patterns condition held bs f = row_counted environment patterns held.arguments bs f.matches

module _ (P : Protocol) (names : Naming) where
  -- the two terms of a condition that is met become one
  condition_there : (by : Subst) (v : Visit) (environment : Environment) (past : Past) (carried : Carried) → visit_under by v ≡ abstracted_visit P names environment past carried → (condition : Condition) → meets environment condition ≡ true → map (bind by) (left_of P v.scope condition) ≡ map (bind by) (right_of P v.scope condition)
  condition_there by v environment past carried closed None met = refl
  condition_there by v environment past carried closed (Some (left, right)) met =
      let there = λ (t : calculus.Term). term_there P names by v environment past carried closed t in
      let values = same_value-sound (value_of environment left) (value_of environment right) met in
      let same = there left ∙ (ap (abstracted P names) values ∙ sym (there right)) in λ i. same i ∷ []

  module _ (all : List (Clause Term)) (has : AttackerHas P all) (events : List (Fact Term)) (now : ℕ) (next : Process) (point : ℕ) (environment : Environment) (past : Past) (table : ℕ) (patterns : List Pattern) (condition : Condition) (otherwise : Process) where
    -- the thread takes the entry
    pub fetch_follows : (held : Held) (bs : Environment) → IsLinear (row_pattern patterns) → matched_entry environment table patterns condition held ≡ Some bs → Derived P all events (held_fact P names held ∷ []) → Follows P names all has events now (Get table patterns condition next otherwise) point environment past → Follows P names all has events now next (point + 1) (environment ++ bs) (record past { messages = past.messages ++ held.arguments })
    fetch_follows held bs linear e entered f =
        let goes = f.has_visit.2 in
        let at = goes.at in
        let v = f.visit in
        let pattern = row_pattern patterns in
        let value = row_value held.arguments in
        let taken = fetched environment table patterns condition held bs e in
        let by = pattern_values P names f.by at bs in
        let same = visit_there P names f.by at bs v environment past f.carried f.closed pattern goes.is_fresh value linear taken.matches in
        let scopes = scope_there P names f.by at bs v environment past f.carried f.closed pattern goes.is_fresh value linear taken.matches in
        let whole = pattern_there P names f.by at bs v environment past f.carried f.closed pattern goes.is_fresh value linear taken.matches in
        let terms = map (pattern_term P v.scope at) patterns in
        let values = map (abstracted P names) held.arguments in
        let there : map (bind by) terms ≡ values = row_under P (hole_term P v.scope at) (atom_term names) by patterns held.arguments whole in
        let fact = held_fact P names held in
        let facts = map-append (fact_under by) v.hypotheses (Tab table terms ∷ []) ∙ (λ i. (same i).hypotheses ++ Tab (sym taken.of_table i) (there i) ∷ []) in
        let messages = map-append (bind by) v.messages terms ∙ ((λ i. (same i).messages ++ there i) ∙ sym (map-append (abstracted P names) past.messages held.arguments)) in
        let carried : Carried = record { facts = f.carried.facts ++ fact ∷ []; diffs = f.carried.diffs; phase = f.carried.phase } in
        let past_after : Past = record past { messages = past.messages ++ held.arguments } in
        let w = after_entry P v table patterns at in
        let closed : visit_under by w ≡ abstracted_visit P names (environment ++ bs) past_after carried = λ i. record { scope = scopes i; hypotheses = facts i; diffs = (same i).diffs; messages = messages i; sessions = (same i).sessions; phase = (same i).phase } in
        let derived = subst (Derived P all events) (sym (flats_with f.carried.facts fact)) (both_derived P all events (flat_map flat f.carried.facts) (flat fact) f.derived entered) in
        choice_follows P names all has events now next point (entry_choice P v table patterns condition at) f.has_visit.1 by (environment ++ bs) past_after carried goes.goes_on f.has_visit.3
        (condition_there by w (environment ++ bs) past_after carried closed condition taken.meets_it, refl) closed f.in_phase f.met derived

    -- the else branch
    pub miss_follows : Follows P names all has events now (Get table patterns condition next otherwise) point environment past → Follows P names all has events now otherwise (point_after (point + 1) next) environment past
    miss_follows f = record { visit = f.visit; by = f.by; carried = f.carried; has_visit = f.has_visit.4; closed = f.closed; in_phase = phase_goes_on otherwise f.carried.phase now f.in_phase; met = f.met; derived = f.derived }
