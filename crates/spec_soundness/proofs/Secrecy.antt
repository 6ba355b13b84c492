-- Secrets are kept: where a closed list has no solved clause with conclusion `bad`, no run makes the secret known up to the phase.
use Rattle.std.proofs.Common.{◌≡◌, ◌∙◌, ℕ, ◌+◌, ◌≤◌, true, false, List, [], ◌∷◌, ◌++◌, map, length, refl, ap, sym, subst, length-append, arith}
use Rattle.std.specs.List.{AllByRecursion}
use Rattle.std.proofs.lemmas.List.{append-nil}
use Rattle.spec_trees.specs.Tree.{Leaf, bind, node, some_leaf}
use Rattle.spec_trees.specs.Leaves.{leaves}
use Rattle.spec_trees.proofs.Rows.{bind-node}
use Rattle.spec_trees.proofs.Substitution.{bind-Leaf}
use Rattle.spec_calculus.specs.Syntax.{Name, Made, Variable, Secret, SecretNew, Protocol}
use Rattle.spec_calculus.specs.Syntax as calculus
use Rattle.spec_calculus.specs.Points.{greatest_phase}
use Rattle.spec_calculus.specs.Values.{MadeName, value_of}
use Rattle.spec_calculus.specs.Matching.{rules_of}
use Rattle.spec_calculus.specs.Secrecy.{Holds}
use Rattle.spec_calculus.proofs.Items.{each-contains}
use Rattle.spec_well_formed.specs.Rules.{IsProperRule}
use Rattle.spec_well_formed.specs.Processes.{HasLinearPatterns}
use Rattle.spec_well_formed.specs.Signature.{signature_of}
use Rattle.spec_well_formed.specs.Queries.{IsDeclaredFree}
use Rattle.spec_terms.specs.Term.{Point, Term}
use Rattle.spec_clauses.specs.Fact.{Fact, Att, Bad, Clause}
use Rattle.spec_clauses.specs.Flat.{flat, flat_under}
use Rattle.spec_clauses.specs.Inclusion.{here, Has}
use Rattle.spec_clauses.proofs.Inclusion.{all_has}
use Rattle.spec_derivations.specs.Derivation.{Instance, Derive}
use Rattle.spec_derivations.specs.Laws.{Suffice}
use Rattle.spec_translation.specs.Conversion.{name_term, leaf_term}
use Rattle.spec_translation.specs.Attacker.{variables_from}
use Rattle.spec_translation.specs.Goal.{query_leaf, query_term, goal_raw, arguments_at}
use Rattle.spec_translation.specs.Translation.{Clauses, IsTranslation}
use Rattle.spec_translation.specs.Satisfied.{is_bad}
use Rattle.spec_translation.proofs.Conversions.{converted-same}
use Rattle.spec_certificates.specs.Shown.{EachSatisfied}
use Rattle.spec_abstraction.specs.Trace.{past_count, trace_of}
use Rattle.spec_abstraction.specs.Naming.{Naming, abstracted, made_term, event_facts, naming}
use Rattle.spec_abstraction.specs.Taken.{IsTaken}
use Rattle.spec_abstraction.proofs.Holding.{translations_hold_all}
use Rattle.spec_abstraction.proofs.Listed.{concluded}
use Rattle.spec_abstraction.proofs.Values.{abstracted-value}
use Rattle.spec_abstraction.proofs.Conclusions.{nth, nth_fills}
use Rattle.spec_abstraction.proofs.Runs.{runs_are_derived}
use Rattle.spec_abstraction.proofs.Older.{runs_are_named}
use Rattle.spec_abstraction.proofs.Entries.{is_foreign, runs_have_entries, found_entry}
use Rattle.spec_soundness.proofs.Roots.{bad_root, concludes_bad}

lengths : {X Y : Type 0} (f : X → Y) (xs : List X) → length (map f xs) ≡ length xs
lengths f [] = refl
lengths f (x ∷ xs) = let h = lengths f xs in omega (arith, h)

-- a message of free names is the same term in the query as in a run
free_leaves : (P : Protocol) (xs : List Name) → AllByRecursion (IsDeclaredFree (signature_of P)) xs → AllByRecursion (λ x. leaf_term [] x ≡ query_leaf x) xs
free_leaves P [] a = tt
free_leaves P (calculus.Free n ∷ xs) a = (refl, free_leaves P xs a.1)
free_leaves P (Made p ∷ xs) a = absurd a.0
free_leaves P (Variable n ∷ xs) a = absurd a.0

pub secret_term : (P : Protocol) (names : Naming) (message : calculus.Term) → AllByRecursion (IsDeclaredFree (signature_of P)) (leaves message) → abstracted P names (value_of [] message) ≡ query_term P message
secret_term P names message free =
    abstracted-value P names [] message ∙ converted-same P (leaf_term []) query_leaf message (free_leaves P (leaves message) free)

module _ (all rules : List (Clause Term)) (suffice : Suffice all rules) where
  -- where `bad` is derived, one of the rules concludes it, with premises that they derive
  pub record ShownBad (events : List (Fact Term)) (ts : List Term) : Type 0 where
    pub clause : Clause Term
    pub premises : List (Fact Term)
    pub listed : Has rules clause
    pub concludes : is_bad clause.conclusion ≡ true
    pub instance : Instance clause premises (Bad ts)
    pub derived : Derive rules events premises

  pub shown_bad : (events : List (Fact Term)) (ts : List Term) → Derive all events (Bad ts ∷ []) → ShownBad events ts
  shown_bad events ts d =
      let r = bad_root (Has rules) events ts refl (suffice events (Bad ts ∷ []) d) in
      record {
        clause = r.clause;
        premises = r.premises;
        listed = r.is_rule;
        concludes = concludes_bad r.clause r.premises ts r.instance;
        instance = r.instance;
        derived = r.derived;
      }

module _ (P : Protocol) (all rules : List (Clause Term)) (suffice : Suffice all rules) (proper : (d : ℕ) → AllByRecursion IsProperRule (rules_of P d)) (linear : HasLinearPatterns P.main) where
  -- the goal of a message: what the attacker has of it shows `bad`
  message_shows : (message : calculus.Term) (phase : ℕ) (events : List (Fact Term)) → IsTaken all (goal_raw P (Secret message phase)) → Derive all events (flat (Att phase (query_term P message))) → Derive all events (Bad [] ∷ [])
  message_shows message phase events taken d =
      let hypotheses : flat_under Leaf (Att phase (query_term P message) ∷ []) ≡ flat (Att phase (query_term P message)) = append-nil (flat (Att phase (bind Leaf (query_term P message)))) ∙ ap (λ t. flat (Att phase t)) (bind-Leaf (query_term P message)) in
      concluded events all (goal_raw P (Secret message phase)) (flat (Att phase (query_term P message))) (Bad []) refl taken
      (record { by = Leaf; premises_are = sym hypotheses; met = tt; concludes = ([], here) }) d

  pub messages_are_kept : (message : calculus.Term) (phase : ℕ) → AllByRecursion (IsDeclaredFree (signature_of P)) (leaves message) → phase ≤ greatest_phase P.main → IsTranslation P (Secret message phase) (Clauses all) → EachSatisfied P (Secret message phase) rules → Holds P (Secret message phase)
  messages_are_kept message phase free asked is satisfied steps c reached (known, before) =
      let made = (trace_of P steps).made in
      let names = naming P made in
      let derived = runs_are_derived P (Secret message phase) all is proper linear steps c reached in
      let events = event_facts P names c.events in
      let has = each-contains (λ v. Derive all events (flat (Att phase (abstracted P names v)))) c.known (value_of [] message) (derived.known phase before asked) known in
      let there = subst (λ t. Derive all events (flat (Att phase t))) (secret_term P names message free) has in
      let goal = (translations_hold_all P (Secret message phase) all is).goal in
      let shown = shown_bad all rules suffice events [] (message_shows message phase events goal there) in
      satisfied shown.clause shown.listed shown.concludes

  -- the goal of a restriction: a name of it that the attacker has shows `bad`
  name_shows : (point phase : ℕ) (ts : List Term) (events : List (Fact Term)) → arguments_at P point ≡ length ts → IsTaken all (goal_raw P (SecretNew point phase)) → Derive all events (flat (Att phase (node (Point point) ts))) → Derive all events (Bad [] ∷ [])
  name_shows point phase ts events count taken d =
      let vars = variables_from 0 (arguments_at P point) in
      let terms : map (bind (nth ts)) vars ≡ ts = ap (λ n. map (bind (nth ts)) (variables_from 0 n)) count ∙ nth_fills ts 0 ts (λ x. ap (nth ts) (let e : 0 + x ≡ x = omega arith in e)) in
      let hypotheses : flat_under (nth ts) (Att phase (node (Point point) vars) ∷ []) ≡ flat (Att phase (node (Point point) ts)) =
      append-nil (flat (Att phase (bind (nth ts) (node (Point point) vars)))) ∙ ap (λ t. flat (Att phase t)) (bind-node (nth ts) (Point point) vars ∙ ap (node (Point point)) terms) in
      concluded events all (goal_raw P (SecretNew point phase)) (flat (Att phase (node (Point point) ts))) (Bad []) refl taken
      (record { by = nth ts; premises_are = sym hypotheses; met = tt; concludes = ([], here) }) d

  pub names_are_kept : (point phase : ℕ) → phase ≤ greatest_phase P.main → IsTranslation P (SecretNew point phase) (Clauses all) → EachSatisfied P (SecretNew point phase) rules → Holds P (SecretNew point phase)
  names_are_kept point phase asked is satisfied steps c reached ((number, known), before) =
      let made = (trace_of P steps).made in
      let names = naming P made in
      let named = runs_are_named P steps c reached in
      let derived = runs_are_derived P (SecretNew point phase) all is proper linear steps c reached in
      let events = event_facts P names c.events in
      let has = each-contains (λ v. Derive all events (flat (Att phase (abstracted P names v)))) c.known (Leaf (MadeName point number)) (derived.known phase before asked) known in
      let lacks = each-contains (λ v. some_leaf (is_foreign made) v ≡ false) c.known (Leaf (MadeName point number)) (runs_have_entries P steps c reached).known known in
      let (e, entered, at, numbered_so) = found_entry point number made lacks in
      let term : names point number ≡ made_term P names e = (λ i. names (sym at i) (sym numbered_so i)) ∙ all_has (λ e. names e.point e.number ≡ made_term P names e) made e named entered in
      let count : arguments_at P e.point ≡ past_count e.past = all_has (λ e. arguments_at P e.point ≡ past_count e.past) made e derived.counted entered in
      let messages : List Term = map (abstracted P names) e.past.messages in
      let sessions : List Term = map Leaf e.past.sessions in
      let size : length (messages ++ sessions) ≡ past_count e.past = length-append messages sessions ∙ (λ i. lengths {Y = Term} (abstracted P names) e.past.messages i + lengths {Y = Term} Leaf e.past.sessions i) in
      let whole : arguments_at P point ≡ length (messages ++ sessions) = ap (arguments_at P) (sym at) ∙ (count ∙ sym size) in
      let there : Derive all events (flat (Att phase (node (Point point) (messages ++ sessions)))) =
      subst (λ t. Derive all events (flat (Att phase t))) (term ∙ ap (λ p. name_term p messages sessions) at) has in
      let goal = (translations_hold_all P (SecretNew point phase) all is).goal in
      let shown = shown_bad all rules suffice events [] (name_shows point phase (messages ++ sessions) events whole goal there) in
      satisfied shown.clause shown.listed shown.concludes
