-- The sources of a translation stand beside its clauses: each clause is the norm of its source's part, in order.
use Rattle.std.proofs.Common.{◌≡◌, ◌∙◌, ap, refl, sym, subst, ℕ, zero, suc, ◌+◌, nat_eq, List, [], ◌∷◌, ◌++◌, map, get_or, cond, Option, None, Some, option_and_then, option_map, is_some, slice_get, filter_map, arith}
use Rattle.std.specs.Prelude.{flat_map}
use Rattle.std.specs.List.{AllByRecursion, cons_option, enumerate_from}
use Rattle.std.proofs.lemmas.List.{map-append}
use Rattle.spec_calculus.specs.Syntax.{Rule, Destructor, Declared, Protocol}
use Rattle.spec_calculus.specs.Points.{numbered, greatest_phase}
use Rattle.spec_calculus.proofs.Items.{each-enumerated, each-numbered, if_some-is}
use Rattle.spec_calculus.proofs.Points.{numbered-add-one}
use Rattle.spec_terms.specs.Term.{Term}
use Rattle.spec_clauses.specs.Diff.{diff_variables}
use Rattle.spec_clauses.specs.Fact.{Clause, facts_of, clause_under}
use Rattle.spec_clauses.specs.Flat.{flat_parts}
use Rattle.spec_clauses.specs.Variables.{leaves, fact_variables, clause_variables, constrained_variables}
use Rattle.spec_clauses.specs.Norm.{norm, norms, distinct, place_of}
use Rattle.spec_clauses.specs.Renaming.{renaming}
use Rattle.spec_clauses.proofs.Lists.{all_first, all_second, all-from_flat_map}
use Rattle.spec_clauses.proofs.Distinct.{at_places}
use Rattle.spec_clauses.proofs.Flat.{flat_parts-renamed}
use Rattle.spec_clauses.proofs.ClauseRenaming.{IsClauseLedBack}
use Rattle.spec_clauses.proofs.NormRenaming.{norm-renamed}
use Rattle.spec_translation.specs.Attacker.{name_known, fresh_known, constructor_applied, rule_applied, message_heard, message_sent, kept_known, done_in, done_after, attacker_raw}
use Rattle.spec_translation.specs.Translation.{attacker_clauses}
use Rattle.spec_attack_runs.specs.Source.{Action, Builds, Reduces, Source, action_terms, source_variables, numbered_source, part_source, sources_of, clause_of}
use Rattle.spec_attack_runs.specs.Gathered.{Deed, idle, rule_deeds, deeds_in, deeds_after, attacker_deeds, attacker_sources}
use Rattle.spec_attack_runs.proofs.OneList.{Back, flat_parts-back}
use Rattle.spec_attack_runs.proofs.OneDescent.{numbered-map}

-- The clause of the numbered source of a part is the norm of the part.
module _ (action : Action) (raw : Clause Term) where
  part_clause : (k : ℕ) (c : Clause Term) → numbered (flat_parts raw) k ≡ Some c → clause_of (numbered_source (record { raw = raw; part = k; action = action })) ≡ norm c
  part_clause k c at =
      let source : Source = record { raw = raw; part = k; action = action } in
      let xs = source_variables source in
      let others = constrained_variables raw ++ flat_map leaves (action_terms action) in
      let q : ℕ → ℕ = λ i. get_or (distinct nat_eq xs) i 0 in
      let r : ℕ → ℕ = λ x. place_of x (distinct nat_eq xs) in
      let back : AllByRecursion (Back q r) xs = at_places xs in
      let behind = all_second (Back q r) (clause_variables raw) others back in
      let raw_back : IsClauseLedBack q r raw = record {
        facts = all-from_flat_map (Back q r) fact_variables (facts_of raw) (all_first (Back q r) (clause_variables raw) others back);
        diffs = all-from_flat_map (Back q r) diff_variables raw.diffs (all_first (Back q r) (constrained_variables raw) (flat_map leaves (action_terms action)) behind);
      } in
      let part_at : numbered (flat_parts (clause_under (renaming r) raw)) k ≡ Some (clause_under (renaming r) c) =
      ap (λ (cs : List (Clause Term)). numbered cs k) (flat_parts-renamed r raw) ∙ (numbered-map (clause_under (renaming r)) (flat_parts raw) k ∙ ap (option_map (clause_under (renaming r))) at) in
      let part_back = if_some-is (IsClauseLedBack q r) (numbered (flat_parts raw) k) c (each-numbered (IsClauseLedBack q r) (flat_parts raw) k (flat_parts-back q r raw raw_back)) at in
      ap (option_and_then norm) part_at ∙ norm-renamed q r c part_back

  one_clause : (k : ℕ) (c : Clause Term) (o : Option (Clause Term)) → norm c ≡ o → numbered (flat_parts raw) k ≡ Some c → (ss : List Source) (cs : List (Clause Term)) → map clause_of ss ≡ map Some cs
      → map clause_of (cons_option (cond (is_some o) (Some (numbered_source (record { raw = raw; part = k; action = action }))) None) ss) ≡ map Some (cons_option o cs)
  one_clause k c None e at ss cs h = h
  one_clause k c (Some d) e at ss cs h = let first = part_clause k c at ∙ e in λ i. first i ∷ h i

  each_clause : (es : List (ℕ × Clause Term)) → AllByRecursion (λ e. numbered (flat_parts raw) e.0 ≡ Some e.1) es
      → map clause_of (filter_map (part_source action raw) es) ≡ map Some (filter_map norm (map (λ e. e.1) es))
  each_clause [] a = refl
  each_clause (e ∷ es) a =
      one_clause e.0 e.1 (norm e.1) refl a.0 (filter_map (part_source action raw) es) (filter_map norm (map (λ e. e.1) es)) (each_clause es a.1)

  numbered_each : AllByRecursion (λ (e : ℕ × Clause Term). numbered (flat_parts raw) e.0 ≡ Some e.1) (enumerate_from 1 (flat_parts raw))
  numbered_each = each-enumerated (λ (e : ℕ × Clause Term). numbered (flat_parts raw) e.0 ≡ Some e.1) 1 (flat_parts raw) there where
    there : (i : ℕ) (c : Clause Term) → slice_get (flat_parts raw) i ≡ Some c → numbered (flat_parts raw) (1 + i) ≡ Some c
    there i c at = let next : i + 1 ≡ 1 + i = omega arith in subst (λ (n : ℕ). numbered (flat_parts raw) n ≡ Some c) next (numbered-add-one (flat_parts raw) i ∙ at)

numberless : {A : Type 0} (n : ℕ) (xs : List A) → map (λ (e : ℕ × A). e.1) (enumerate_from n xs) ≡ xs
numberless n [] = refl
numberless n (x ∷ xs) = ap (λ ys. x ∷ ys) (numberless (n + 1) xs)

-- the clauses of a raw clause's sources are its norms
pub raw_clauses : (action : Action) (raw : Clause Term) → map clause_of (sources_of action raw) ≡ map Some (norms raw)
raw_clauses action raw =
    each_clause action raw (enumerate_from 1 (flat_parts raw)) (numbered_each action raw)
    ∙ ap (λ (cs : List (Clause Term)). map Some (filter_map norm cs)) (numberless 1 (flat_parts raw))

-- and those of more sources
pub joined : (ss ts : List Source) (cs ds : List (Clause Term)) → map clause_of ss ≡ map Some cs → map clause_of ts ≡ map Some ds → map clause_of (ss ++ ts) ≡ map Some (cs ++ ds)
joined ss ts cs ds h k = map-append clause_of ss ts ∙ ((λ i. h i ++ k i) ∙ sym (map-append Some cs ds))

deeds_clauses : (deeds : List Deed) → map clause_of (flat_map (λ (deed : Deed). sources_of deed.0 deed.1) deeds) ≡ map Some (flat_map norms (map (λ (deed : Deed). deed.1) deeds))
deeds_clauses [] = refl
deeds_clauses (deed ∷ deeds) =
    joined (sources_of deed.0 deed.1) (flat_map (λ (deed : Deed). sources_of deed.0 deed.1) deeds) (norms deed.1) (flat_map norms (map (λ (deed : Deed). deed.1) deeds))
    (raw_clauses deed.0 deed.1) (deeds_clauses deeds)

-- The attacker's raw clauses are those of what he does.
abbrev raws : List Deed → List (Clause Term)
raws deeds = map (λ (deed : Deed). deed.1) deeds

raws_append : (ds es : List Deed) → raws (ds ++ es) ≡ raws ds ++ raws es
raws_append ds es = map-append (λ (deed : Deed). deed.1) ds es

idle_raws : (cs : List (Clause Term)) → raws (map idle cs) ≡ cs
idle_raws [] = refl
idle_raws (c ∷ cs) = ap (λ ds. c ∷ ds) (idle_raws cs)

module _ (P : Protocol) (phase : ℕ) where
  abbrev building : ℕ × Declared → Option Deed
  building declared = option_map (λ raw. (Builds declared.0, raw)) (constructor_applied phase declared)

  built_once : (number : ℕ) (o : Option (Clause Term)) (ds : List Deed) → raws (cons_option (option_map (λ raw. (Builds number, raw)) o) ds) ≡ cons_option o (raws ds)
  built_once number None ds = refl
  built_once number (Some c) ds = refl

  built_raws : (es : List (ℕ × Declared)) → raws (filter_map building es) ≡ filter_map (constructor_applied phase) es
  built_raws [] = refl
  built_raws (e ∷ es) = built_once e.0 (constructor_applied phase e) (filter_map building es) ∙ ap (cons_option (constructor_applied phase e)) (built_raws es)

  rules_raws : (d n : ℕ) (rules : List Rule) → raws (map (λ (rule : ℕ × Rule). (Reduces d rule.0, rule_applied P phase rule.1)) (enumerate_from n rules)) ≡ map (rule_applied P phase) rules
  rules_raws d n [] = refl
  rules_raws d n (rule ∷ rules) = ap (λ cs. rule_applied P phase rule ∷ cs) (rules_raws d (n + 1) rules)

  reduced_raws : (n : ℕ) (destructors : List Destructor) → raws (flat_map (rule_deeds P phase) (enumerate_from n destructors)) ≡ flat_map (λ destructor. map (rule_applied P phase) destructor.rules) destructors
  reduced_raws n [] = refl
  reduced_raws n (d ∷ ds) =
      raws_append (rule_deeds P phase (n, d)) (flat_map (rule_deeds P phase) (enumerate_from (n + 1) ds))
      ∙ (λ i. rules_raws n 1 d.rules i ++ reduced_raws (n + 1) ds i)

  in_raws : raws (deeds_in P phase) ≡ done_in P phase
  in_raws =
      let built = filter_map building (enumerate_from 1 P.constructors) in
      let reduced = flat_map (rule_deeds P phase) (enumerate_from 1 P.destructors) in
      let heard : List Deed = idle (message_heard phase) ∷ idle (message_sent phase) ∷ [] in
      raws_append built (reduced ++ heard)
      ∙ ((λ i. built_raws (enumerate_from 1 P.constructors) i ++ raws_append reduced heard i)
      ∙ (λ i. filter_map (constructor_applied phase) (enumerate_from 1 P.constructors) ++ (reduced_raws 1 P.destructors i ++ raws heard)))

after_raws : (P : Protocol) (phase count : ℕ) → raws (deeds_after P phase count) ≡ done_after P phase count
after_raws P phase zero = refl
after_raws P phase (suc count) =
    let others = raws_append (deeds_in P (phase + 1)) (deeds_after P (phase + 1) count) ∙ (λ i. in_raws P (phase + 1) i ++ after_raws P (phase + 1) count i) in
    ap (λ cs. raws (idle (kept_known phase) ∷ []) ++ cs) others

attacker_raws : (P : Protocol) → raws (attacker_deeds P) ≡ attacker_raw P
attacker_raws P =
    let names = filter_map name_known (enumerate_from 1 P.frees) in
    let first = deeds_in P 0 in
    let later = deeds_after P 0 (greatest_phase P.main) in
    raws_append (map idle names) (idle fresh_known ∷ (first ++ later))
    ∙ (λ i. idle_raws names i ++ (fresh_known ∷ (raws_append first later ∙ (λ j. in_raws P 0 j ++ after_raws P 0 (greatest_phase P.main) j)) i))

pub attacker_beside : (P : Protocol) → map clause_of (attacker_sources P) ≡ map Some (attacker_clauses P)
attacker_beside P = deeds_clauses (attacker_deeds P) ∙ ap (λ (cs : List (Clause Term)). map Some (flat_map norms cs)) (attacker_raws P)
