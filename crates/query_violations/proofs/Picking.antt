-- The events of an alternative may be looked for in any order.
use Rattle.std.proofs.Common.{◌≡◌, Bool, true, false, cond, ◌&&◌, nat_eq, List, [], ◌∷◌, ◌++◌, Some, is_some, Contains, refl, sym, ap, ◌∙◌, subst, append_assoc}
use Rattle.std.specs.List.{AllByRecursion, list_any}
use Rattle.spec_trees.specs.Tree.{trees}
use Rattle.spec_trees.proofs.Equality.{and_true}
use Rattle.spec_calculus.specs.Syntax.{Name, Free, Made, Variable, EventTerm}
use Rattle.spec_calculus.specs.Values.{Value, Binding, Environment, same_values, bound_to, value_of_name, values_of}
use Rattle.spec_calculus.specs.Matching.{places_row}
use Rattle.spec_calculus.specs.Runs.{Performed}
use Rattle.spec_calculus.specs.Secrecy.{instance}
use Rattle.spec_calculus.proofs.Items.{each-weaker}
use Rattle.spec_calculus.proofs.Rules.{same_values-sound, same_name-refl, bound_right}
use Rattle.pi_configurations.proofs.Members.{any-contains, any-of}
use Rattle.query_violations.proofs.Deciding.{Within, both_true, within-places, fits-instance, fits-stays, value-stays, found-sound, found-complete}
use Rattle.query_violations.specs.Correspondences.{bound_by, fits, all_found, IsConsistent}

-- each name that an environment mentions is bound in it
mentioned : (s : Environment) → AllByRecursion (λ b. is_some (bound_to s b.name) ≡ true) s
mentioned [] = tt
mentioned (b ∷ s) = (
  ap (λ same. is_some (cond same (Some b.value) (bound_to s b.name))) (same_name-refl b.name),
  each-weaker (λ c. is_some (bound_to s c.name) ≡ true) (λ c. is_some (bound_to (b ∷ s) c.name) ≡ true) (λ c h. bound_right (value_of_name s) (b ∷ []) s c.name h) s (mentioned s),
)

both-weaker : (P Q R : Binding → Type 0) → ((b : Binding) → P b → Q b → R b) → (bs : Environment) → AllByRecursion P bs → AllByRecursion Q bs → AllByRecursion R bs
both-weaker P Q R weaker [] h k = tt
both-weaker P Q R weaker (b ∷ bs) h k = (weaker b h.0 k.0, both-weaker P Q R weaker bs h.1 k.1)

-- what is bound stays so under an extension
name-stays : (s later : Environment) (x : Name) → is_some (bound_to s x) ≡ true → value_of_name (s ++ later) x ≡ value_of_name s x
name-stays s later (Free n) h = refl
name-stays s later (Made p) h = value-stays s later (Made p) h
name-stays s later (Variable i) h = value-stays s later (Variable i) h

within-extended : (s later : Environment) → IsConsistent s → Within (s ++ later) s
within-extended s later h =
    both-weaker (λ b. b.value ≡ value_of_name s b.name) (λ b. is_some (bound_to s b.name) ≡ true) (λ b. b.value ≡ value_of_name (s ++ later) b.name)
    (λ b is bound. is ∙ sym (name-stays s later b.name bound)) s h (mentioned s)

-- what fits leaves an environment consistent
fits-consistent : (s : Environment) (t : EventTerm) (p : Performed) → IsConsistent s → fits s t p ≡ true → IsConsistent (bound_by s t p)
fits-consistent s t p h fit =
    let both = and_true (nat_eq t.event p.event) (same_values (values_of (bound_by s t p) t.arguments) p.arguments) fit in
    let arguments : values_of (bound_by s t p) t.arguments ≡ p.arguments = same_values-sound (values_of (bound_by s t p) t.arguments) p.arguments both.1 in
    subst (λ (vs : List Value). Within (bound_by s t p) (s ++ places_row (trees t.arguments) (trees vs))) arguments
    (within-places (bound_by s t p) s t.arguments (within-extended s (places_row (trees t.arguments) (trees p.arguments)) h))

-- the environment given by an equation
pub beside-consistent : (s extended : Environment) (t : EventTerm) (p : Performed) → extended ≡ bound_by s t p → IsConsistent s → fits s t p ≡ true → IsConsistent extended
beside-consistent s extended t p is h fit = subst IsConsistent (sym is) (fits-consistent s t p h fit)

each-without : (P : EventTerm → Type 0) (front back : List EventTerm) (t : EventTerm) → AllByRecursion P (front ++ t ∷ back) → P t × AllByRecursion P (front ++ back)
each-without P [] back t h = h
each-without P (e ∷ front) back t h = let rest = each-without P front back t h.1 in (rest.0, (h.0, rest.1))

each-with : (P : EventTerm → Type 0) (front back : List EventTerm) (t : EventTerm) → P t → AllByRecursion P (front ++ back) → AllByRecursion P (front ++ t ∷ back)
each-with P [] back t here h = (here, h)
each-with P (e ∷ front) back t here h = (h.0, each-with P front back t here h.1)

same_truth : (a b : Bool) → (a ≡ true → b ≡ true) → (b ≡ true → a ≡ true) → a ≡ b
same_truth true b h k = sym (h refl)
same_truth false true h k = k refl
same_truth false false h k = refl

-- any of the events may be looked for first
module _ (front back : List EventTerm) (t : EventTerm) (s : Environment) (performed : List Performed) (consistent : IsConsistent s) where
  abbrev there : Performed → Bool
  there p = fits s t p && all_found (front ++ back) (bound_by s t p) performed

  pick-complete : all_found (front ++ t ∷ back) s performed ≡ true → list_any there performed ≡ true
  pick-complete h =
      let extended = found-sound (front ++ t ∷ back) s performed h in
      let e : Environment = s ++ extended.0 in
      let within : Within e s = within-extended s extended.0 consistent in
      let all = each-without (λ u. Contains performed (instance e u)) front back t extended.1 in
      any-of there performed (instance e t) all.0
      (both_true (fits s t (instance e t)) (all_found (front ++ back) (bound_by s t (instance e t)) performed) (fits-instance e s t within)
      (found-complete (front ++ back) e (bound_by s t (instance e t)) performed (within-places e s t.arguments within) all.1))

  pick-sound : list_any there performed ≡ true → all_found (front ++ t ∷ back) s performed ≡ true
  pick-sound h =
      let found = any-contains there performed h in
      let both = and_true (fits s t found.0) (all_found (front ++ back) (bound_by s t found.0) performed) found.2 in
      let rest = found-sound (front ++ back) (bound_by s t found.0) performed both.1 in
      let e : Environment = bound_by s t found.0 ++ rest.0 in
      let here : Contains performed (instance e t) = subst (λ (q : Performed). Contains performed q) (sym (fits-stays s rest.0 t found.0 both.0)) found.1 in
      let all = each-with (λ u. Contains performed (instance e u)) front back t here rest.1 in
      let joined : e ≡ s ++ (places_row (trees t.arguments) (trees found.0.arguments) ++ rest.0) = append_assoc s (places_row (trees t.arguments) (trees found.0.arguments)) rest.0 in
      let within : Within e s = subst (λ (f : Environment). Within f s) (sym joined) (within-extended s (places_row (trees t.arguments) (trees found.0.arguments) ++ rest.0) consistent) in
      found-complete (front ++ t ∷ back) e s performed within all

pub picked : (front back : List EventTerm) (t : EventTerm) (s : Environment) (performed : List Performed) → IsConsistent s → all_found (front ++ t ∷ back) s performed ≡ list_any (λ p. fits s t p && all_found (front ++ back) (bound_by s t p) performed) performed
picked front back t s performed consistent =
    same_truth (all_found (front ++ t ∷ back) s performed) (list_any (λ p. fits s t p && all_found (front ++ back) (bound_by s t p) performed) performed)
    (pick-complete front back t s performed consistent) (pick-sound front back t s performed consistent)
