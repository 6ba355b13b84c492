-- A thread that takes a value of a `let` is followed by the visit of that choice; one that takes none by the visit of the else branch.
use Rattle.std.proofs.Common.{◌≡◌, ◌∙◌, ℕ, ◌+◌, Bool, true, false, cond, Option, Some, None, List, [], ◌∷◌, ◌++◌, map, refl, ap, sym, subst, IfSome, arith}
use Rattle.std.specs.Prelude.{flat_map}
use Rattle.std.specs.List.{AllByRecursion, find}
use Rattle.spec_trees.specs.Tree.{Leaf}
use Rattle.spec_trees.specs.Leaves.{leaves}
use Rattle.spec_calculus.specs.Syntax.{Pattern, Expression, Ruled, Process, Let, Protocol}
use Rattle.spec_calculus.specs.Points.{point_after}
use Rattle.spec_calculus.specs.Values.{Value, Environment}
use Rattle.spec_calculus.specs.Matching.{matched, IsLinear, rules_of}
use Rattle.spec_calculus.specs.Choices.{choices, label_of, same_label, choice_at, ruled_value, value_at}
use Rattle.spec_calculus.specs.Choices as choosing
use Rattle.spec_calculus.proofs.Items.{of_some, of_then, each-holds}
use Rattle.spec_calculus.proofs.Choices.{IsOver, choices_over}
use Rattle.spec_well_formed.specs.Rules.{IsProperRule}
use Rattle.spec_terms.specs.Term.{Term, Subst}
use Rattle.spec_clauses.specs.Fact.{Fact, Clause}
use Rattle.spec_clauses.specs.Diff.{IsMetBy}
use Rattle.spec_clauses.specs.Kept.{AreMetBy}
use Rattle.spec_clauses.specs.Flat.{flat}
use Rattle.spec_clauses.specs.Variables.{IsBelow}
use Rattle.spec_clauses.proofs.Lists.{all_append, all_first, all_second}
use Rattle.spec_translation.specs.Conversion.{term_in, Fresh}
use Rattle.spec_translation.specs.Visit.{Visit, visit_under, IsFresh}
use Rattle.spec_translation.specs.Choice.{Choice, choice_under, IsUnified, with_pattern, ruled_choice, GoesOn, ChoiceGoesOn, EachGoesOn}
use Rattle.spec_translation.specs.Otherwise.{choice_diffs, otherwise_visit}
use Rattle.spec_translation.proofs.Otherwise.{otherwise_visit-under}
use Rattle.spec_translation.proofs.Visits.{visit_under-visit_under, visit_agree, terms_agree, below_agree}
use Rattle.spec_abstraction.specs.Trace.{Past}
use Rattle.spec_abstraction.specs.Naming.{Naming, abstracted_binding, Carried, abstracted_visit}
use Rattle.spec_abstraction.specs.Taken.{HasVisit}
use Rattle.spec_abstraction.proofs.Conclusions.{AttackerHas, Derived}
use Rattle.spec_abstraction.proofs.Following.{term_there, pattern_values, pattern_values_below, visit_there, scope_there, pattern_there, phase_goes_on, Follows}
use Rattle.spec_abstraction.proofs.Applied.{Agree, AnyTerm, reach}

module _ (P : Protocol) (names : Naming) (all : List (Clause Term)) (has : AttackerHas P all) (events : List (Fact Term)) (now : ℕ) (next : Process) (point : ℕ) where
  -- A choice that is accepted of what the thread has goes on, and its visit follows the thread.
  pub choice_follows : (choice : Choice) (out : Option Visit) (by : Subst) (environment : Environment) (past : Past) (carried : Carried) → GoesOn choice out → IfSome out (λ w. HasVisit all P next (point + 1) w) → IsUnified (choice_under by choice) → visit_under by choice.visit ≡ abstracted_visit P names environment past carried → carried.phase ≡ now → AreMetBy Leaf carried.diffs → Derived P all events (flat_map flat carried.facts) → Follows P names all has events now next (point + 1) environment past
  choice_follows choice None by environment past carried goes held accepted closed at_now met derived = absurd (goes by accepted)
  choice_follows choice (Some w) by environment past carried goes held accepted closed at_now met derived =
      let s = goes.0 in
      let factor = goes.1.most by accepted in
      let q = factor.0 in
      let same : visit_under q w ≡ visit_under by choice.visit =
      ap (visit_under q) goes.2 ∙ (visit_under-visit_under q s choice.visit ∙ (λ i. visit_under (λ x. factor.1 x i) choice.visit)) in
      record { visit = w; by = q; carried = carried; has_visit = held; closed = same ∙ closed; in_phase = phase_goes_on next carried.phase now at_now; met = met; derived = derived }

  module _ (environment : Environment) (past : Past) (pattern : Pattern) (value : Value) (bs : Environment) (linear : IsLinear pattern) (match : matched environment pattern value ≡ Some bs) where
    -- what a pattern makes of a visit
    pattern_visit : (v : Visit) (by : Subst) (carried : Carried) (at : Fresh) (closed : visit_under by v ≡ abstracted_visit P names environment past carried) (fresh : IsFresh v pattern at) → visit_under (pattern_values P names by at bs) (with_pattern v pattern at) ≡ abstracted_visit P names (environment ++ bs) past carried
    pattern_visit v by carried at closed fresh =
        let same = visit_there P names by at bs v environment past carried closed pattern fresh value linear match in
        let scopes = scope_there P names by at bs v environment past carried closed pattern fresh value linear match in
        λ i. record { scope = scopes i; hypotheses = (same i).hypotheses; diffs = (same i).diffs; messages = (same i).messages; sessions = (same i).sessions; phase = (same i).phase }

    -- by the rules of a choice that all apply
    ruled_follows : (ruled : Ruled) (v : Visit) (by : Subst) (carried : Carried) (out : Option Visit) → IsOver AnyTerm IsProperRule ruled → ruled_value environment ruled ≡ Some value → visit_under by v ≡ abstracted_visit P names environment past carried → carried.phase ≡ now → AreMetBy Leaf carried.diffs → Derived P all events (flat_map flat carried.facts) → ChoiceGoesOn P v pattern ruled out → IfSome out (λ w. HasVisit all P next (point + 1) w) → Follows P names all has events now next (point + 1) (environment ++ bs) past
    ruled_follows ruled v by carried out over gives closed at_now met derived goes held =
        let base = goes.base in
        let at = goes.at in
        let stays = λ (t : Subst) (a : Agree base t by). (let same : visit_under t v ≡ abstracted_visit P names environment past carried = visit_agree t by base a v goes.is_new ∙ closed in same) in
        let reads = λ (t : Subst) (a : Agree base t by). term_there P names t v environment past carried (stays t a) in
        let reached = reach P names environment (term_in P v.scope) base by reads base by (omega arith) (λ x l. refl) ruled value over gives in
        let rv = reached.to in
        let moved = stays rv reached.kept in
        let pv = pattern_values P names rv at bs in
        let same = pattern_values_below P names rv at bs in
        let target = pattern_there P names rv at bs v environment past carried moved pattern goes.is_fresh value linear match in
        let c = ruled_choice P v pattern ruled base at in
        let arguments = terms_agree pv rv at.base same c.arguments (all_first (IsBelow at.base) c.arguments c.sides goes.is_apart.1) in
        let sides = terms_agree pv rv at.base same c.sides (all_second (IsBelow at.base) c.arguments c.sides goes.is_apart.1) in
        let made = below_agree pv rv at.base same c.value goes.is_apart.0 in
        choice_follows c out pv (environment ++ bs) past carried goes.goes_on held
        (arguments ∙ (reached.unified rv (λ x l. refl) ∙ sym sides), made ∙ (reached.gives rv (λ x l. refl) ∙ sym target))
        (pattern_visit v rv carried at moved goes.is_fresh) at_now met derived

    -- by the first choice that passes a test, as that of a label does
    found_follows : (test : choosing.Choice → Bool) (cs : List choosing.Choice) (c : choosing.Choice) (outs : List (Option Visit)) (v : Visit) (by : Subst) (carried : Carried) → find test cs ≡ Some c → AllByRecursion (λ d. IsOver AnyTerm IsProperRule d.ruled) cs → ruled_value environment c.ruled ≡ Some value → visit_under by v ≡ abstracted_visit P names environment past carried → carried.phase ≡ now → AreMetBy Leaf carried.diffs → Derived P all events (flat_map flat carried.facts) → EachGoesOn P v pattern (map (λ d. d.ruled) cs) outs → AllByRecursion (λ out. IfSome out (λ w. HasVisit all P next (point + 1) w)) outs → Follows P names all has events now next (point + 1) (environment ++ bs) past
    found_follows test [] c outs v by carried e over gives closed at_now met derived goes held = cc
    found_follows test (d ∷ cs) c outs v by carried e over gives closed at_now met derived goes held =
        go (test d) e (λ k. found_follows test cs c goes.1 v by carried k over.1 gives closed at_now met derived goes.3 held_all.1)
      where
        held_all : AllByRecursion (λ out. IfSome out (λ w. HasVisit all P next (point + 1) w)) (goes.0 ∷ goes.1)
        held_all = subst (AllByRecursion (λ out. IfSome out (λ w. HasVisit all P next (point + 1) w))) goes.4 held

        go : (b : Bool) → cond b (Some d) (find test cs) ≡ Some c → (find test cs ≡ Some c → Follows P names all has events now next (point + 1) (environment ++ bs) past) → Follows P names all has events now next (point + 1) (environment ++ bs) past
        go true k others =
            let same : d ≡ c = of_some d c k in
            ruled_follows d.ruled v by carried goes.0 over.0 (ap (λ (x : choosing.Choice). ruled_value environment x.ruled) same ∙ gives) closed at_now met derived goes.2 held_all.0
        go false k others = others k

    -- The thread takes the value with the label.
    pub take_follows : (expression : Expression) (otherwise : Process) (label : List ℕ) → ((d : ℕ) → AllByRecursion IsProperRule (rules_of P d)) → value_at P environment expression label ≡ Some value → Follows P names all has events now (Let pattern expression next otherwise) point environment past → Follows P names all has events now next (point + 1) (environment ++ bs) past
    take_follows expression otherwise label proper e f =
        let (c, found, gives) = of_then (λ c. ruled_value environment c.ruled) (choice_at P expression label) value e in
        let over = choices_over AnyTerm IsProperRule P proper expression (each-holds AnyTerm (λ t. tt) (leaves expression)) in
        found_follows (λ d. same_label (label_of d.rules) label) (choices P expression) c f.has_visit.0 f.visit f.by f.carried found over gives f.closed f.in_phase f.met f.derived f.has_visit.1 f.has_visit.2

  -- the else branch, where its constraints are met
  pub fail_follows : (environment : Environment) (past : Past) (pattern : Pattern) (expression : Expression) (otherwise : Process) → AreMetBy Leaf (choice_diffs P (map (abstracted_binding P names) environment) pattern expression) → Follows P names all has events now (Let pattern expression next otherwise) point environment past → Follows P names all has events now otherwise (point_after (point + 1) next) environment past
  fail_follows environment past pattern expression otherwise met f =
      let scope = map (abstracted_binding P names) environment in
      let new = choice_diffs P scope pattern expression in
      let made = otherwise_visit-under P f.by f.visit pattern expression ∙ (λ i. otherwise_visit P (f.closed i) pattern expression) in
      record {
        visit = otherwise_visit P f.visit pattern expression;
        by = f.by;
        carried = record { facts = f.carried.facts; diffs = f.carried.diffs ++ new; phase = f.carried.phase };
        has_visit = f.has_visit.3;
        closed = made;
        in_phase = phase_goes_on otherwise f.carried.phase now f.in_phase;
        met = all_append (IsMetBy Leaf) f.carried.diffs new f.met met;
        derived = f.derived;
      }
