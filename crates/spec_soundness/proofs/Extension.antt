-- The instance of a query that events of a run make: what stands at the places of the leaves of their terms is one environment, in which
-- the events have their values.
use Rattle.std.proofs.Common.{false, ◌≡◌, ◌∙◌, true, List, [], ◌∷◌, ◌++◌, refl, ap, sym, subst}
use Rattle.std.specs.List.{AllByRecursion}
use Rattle.spec_trees.specs.Tree.{trees, bind, some_leaves}
use Rattle.spec_trees.proofs.Rows.{trees-injective, binds-trees}
use Rattle.spec_trees.proofs.Occurrence.{some_leaves-never}
use Rattle.spec_calculus.specs.Syntax.{Name, Free, Made, Variable, EventTerm, Protocol}
use Rattle.spec_calculus.specs.Values.{Binding, Environment, value_of_bound, value_of_name, values_of}
use Rattle.spec_calculus.specs.Matching.{places_row}
use Rattle.spec_calculus.specs.Runs.{Performed}
use Rattle.spec_calculus.specs.Secrecy.{instance, AllPerformed}
use Rattle.spec_calculus.specs.Standing.{EnvironmentLacks}
use Rattle.spec_calculus.proofs.Lacking.{row_lacks, values_lack}
use Rattle.spec_well_formed.specs.Leaves.{row_leaves}
use Rattle.spec_terms.specs.Term.{Term, Subst}
use Rattle.spec_clauses.specs.Inclusion.{Has}
use Rattle.spec_clauses.proofs.Inclusion.{Contains-from_Has}
use Rattle.spec_clauses.proofs.Lists.{all_append, all_weaker}
use Rattle.spec_translation.specs.Conversion.{converted_row}
use Rattle.spec_translation.specs.Goal.{query_leaf}
use Rattle.spec_translation.proofs.Conversions.{converted_row-same}
use Rattle.spec_abstraction.specs.Trace.{MadeAt}
use Rattle.spec_abstraction.specs.Naming.{atom_term, abstracted, naming}
use Rattle.spec_abstraction.specs.OneToOne.{is_foreign, IsOneToOne}
use Rattle.spec_abstraction.proofs.Values.{converted_row-of_binds}
use Rattle.spec_abstraction.proofs.Backwards.{is_bound, bound_first, bound_second, rows_same, IsBack, places_row_back, places_row_bound, found_back, back_lacks}

-- what the leaves of a query stand for under one substitution after another
abbrev pub leaf_under : Subst → Subst → Name → Term
leaf_under r s x = bind r (bind s (query_leaf x))

module _ (P : Protocol) (made : List MadeAt) (one : IsOneToOne P (naming P made) made) (r s : Subst) where
  -- a leaf is bound to a value of the run with the leaf's term
  abbrev pub IsAnswered : Binding → Type 0
  IsAnswered = IsBack P made one (leaf_under r s)

  found : (environment : Environment) → AllByRecursion IsAnswered environment → (x : Name) → is_bound environment x ≡ true → abstracted P (naming P made) (value_of_bound environment x) ≡ leaf_under r s x
  found = found_back P made one (leaf_under r s)

  leaf_back : (environment : Environment) → AllByRecursion IsAnswered environment → (x : Name) → is_bound environment x ≡ true → abstracted P (naming P made) (value_of_name environment x) ≡ leaf_under r s x
  leaf_back environment a (Free n) h = refl
  leaf_back environment a (Made p) h = found environment a (Made p) h
  leaf_back environment a (Variable i) h = found environment a (Variable i) h

  -- the event's terms are those of the performed one's values
  pub record Answers (e : EventTerm) (performed : Performed) : Type 0 where
    pub event : e.event ≡ performed.event
    pub row : converted_row P (leaf_under r s) (trees e.arguments) ≡ converted_row P (atom_term (naming P made)) (trees performed.arguments)
    pub lacks : some_leaves (is_foreign made) (trees performed.arguments) ≡ false

  -- so where the environment binds its leaves, it has these values
  pub event_back : (environment : Environment) → AllByRecursion IsAnswered environment → (e : EventTerm) (performed : Performed) → Answers e performed → AllByRecursion (λ x. is_bound environment x ≡ true) (row_leaves (trees e.arguments)) → instance environment e ≡ performed
  event_back environment a e performed answers bound =
      let names = atom_term (naming P made) in
      let lacks : EnvironmentLacks (is_foreign made) environment = back_lacks P made one (leaf_under r s) environment a in
      let values = row_lacks (is_foreign made) (values_of environment e.arguments)
      (values_lack (is_foreign made) (λ x. false) (λ n h. refl) refl environment lacks e.arguments (some_leaves-never (λ x. false) (λ x. refl) (trees e.arguments))) in
      let terms : converted_row P names (trees (values_of environment e.arguments)) ≡ converted_row P (leaf_under r s) (trees e.arguments) =
      ap (converted_row P names) (sym (binds-trees (value_of_name environment) e.arguments))
      ∙ (converted_row-of_binds P names (value_of_name environment) (trees e.arguments)
      ∙ converted_row-same P (λ x. abstracted P (naming P made) (value_of_name environment x)) (leaf_under r s) (trees e.arguments)
      (all_weaker (λ x. is_bound environment x ≡ true) (λ x. abstracted P (naming P made) (value_of_name environment x) ≡ leaf_under r s x) (leaf_back environment a) (row_leaves (trees e.arguments)) bound)) in
      let same : values_of environment e.arguments ≡ performed.arguments = trees-injective (values_of environment e.arguments) performed.arguments
      (rows_same P made one (trees (values_of environment e.arguments)) (trees performed.arguments) values answers.lacks (terms ∙ answers.row)) in
      let event = answers.event in
      λ i. record { event = event i; arguments = same i }

  -- The bindings of events that were performed.
  module _ (events : List Performed) where
    abbrev pub IsFound : EventTerm → Type 0
    IsFound e = (performed : Performed) × Has events performed × Answers e performed

    abbrev pub bindings_of : (es : List EventTerm) → AllByRecursion IsFound es → Environment
    bindings_of [] a = []
    bindings_of (e ∷ es) a = places_row (trees e.arguments) (trees a.0.0.arguments) ++ bindings_of es a.1

    pub bindings_back : (es : List EventTerm) (a : AllByRecursion IsFound es) → AllByRecursion IsAnswered (bindings_of es a)
    bindings_back [] a = tt
    bindings_back (e ∷ es) a =
        all_append IsAnswered (places_row (trees e.arguments) (trees a.0.0.arguments)) (bindings_of es a.1)
        (places_row_back P made one (leaf_under r s) (trees e.arguments) (trees a.0.0.arguments) a.0.2.row a.0.2.lacks) (bindings_back es a.1)

    pub all_performed : (environment : Environment) → AllByRecursion IsAnswered environment → (es : List EventTerm) (a : AllByRecursion IsFound es) → ((x : Name) → is_bound (bindings_of es a) x ≡ true → is_bound environment x ≡ true) → AllPerformed environment es events
    all_performed environment back [] a within = tt
    all_performed environment back (e ∷ es) a within =
        let (performed, has, answers) = a.0 in
        let first = places_row (trees e.arguments) (trees performed.arguments) in
        let bound = all_weaker (λ x. is_bound first x ≡ true) (λ x. is_bound environment x ≡ true) (λ x h. within x (bound_first first (bindings_of es a.1) x h)) (row_leaves (trees e.arguments)) (places_row_bound P made one (leaf_under r s) (trees e.arguments) (trees performed.arguments) answers.row) in
        let same = event_back environment back e performed answers bound in
        (Contains-from_Has events (instance environment e) (subst (Has events) (sym same) has), all_performed environment back es a.1 (λ x h. within x (bound_second first (bindings_of es a.1) x h)))
