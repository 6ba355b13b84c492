-- Choices of a `let` at visits that differ in names of variables alone go on alike.
use Rattle.std.proofs.Common.{◌≡◌, ◌∙◌, ℕ, ◌+◌, ◌-◌, Bool, Option, Some, None, List, [], ◌∷◌, ◌++◌, map, refl, ap, sym, subst, arith}
use Rattle.std.specs.List.{AllByRecursion, list_any}
use Rattle.std.proofs.lemmas.List.{map-append}
use Rattle.spec_trees.specs.Tree.{Leaf, bind, after}
use Rattle.spec_trees.proofs.Substitution.{bind-bind}
use Rattle.spec_calculus.specs.Syntax.{Name, Made, Variable, Pattern, Expression, Ruled, Condition, Protocol}
use Rattle.spec_calculus.specs.Syntax as calculus
use Rattle.spec_calculus.specs.Choices.{choices}
use Rattle.spec_calculus.specs.Tables.{row_pattern}
use Rattle.spec_terms.specs.Term.{Subst}
use Rattle.spec_clauses.specs.Variables.{leaves, IsBelow, AreBelow}
use Rattle.spec_clauses.proofs.Lists.{all_first, all_second}
use Rattle.spec_translation.specs.Conversion.{free_term, term_in, rule_leaf, rule_term, Fresh, pattern_term, pattern_scope}
use Rattle.spec_translation.specs.Visit.{Visit, standing_under, visit_under, visit_terms, is_large_term, IsFresh, after_entry}
use Rattle.spec_translation.specs.Applied.{ruled_term, ruled_arguments, ruled_sides}
use Rattle.spec_translation.specs.Choice.{Choice, choice_under, IsUnified, ruled_choice, ruled_terms, GoesOn, ChoiceGoesOn, EachGoesOn, AllGoOn, left_of, right_of, entry_choice, has_large_side, EntryGoesOn}
use Rattle.spec_translation.proofs.Conversions.{converted-bind, converted-same, term_in-under, left_of-under, right_of-under}
use Rattle.spec_translation.proofs.Visits.{terms_under-terms_under, visit_under-visit_under, below_agree, terms_agree, visit_agree, large_terms-back, IsLedBack, AreAlike}
use Rattle.spec_translation.proofs.Applied.{ruled_term_moved, ruled_arguments_moved, ruled_sides_moved}
use Rattle.spec_translation.proofs.Fresh.{mixed, mixed_below, mixed_from, extended, extended_below, visit_extended, scope_extended, pattern_term_moved, after_entry-under}

-- substitutions in a row
pub choice_under-choice_under : (s t : Subst) (c : Choice) → choice_under s (choice_under t c) ≡ choice_under (after s t) c
choice_under-choice_under s t c =
    let arguments = terms_under-terms_under s t c.arguments in
    let sides = terms_under-terms_under s t c.sides in
    let value = bind-bind s t c.value in
    let target = bind-bind s t c.target in
    let visits = visit_under-visit_under s t c.visit in
    λ i. record { arguments = arguments i; sides = sides i; value = value i; target = target i; visit = visits i }

-- both ways end, or both go on, at visits that are alike
abbrev pub GoAlike : Option Visit → Option Visit → Type 0
GoAlike None None = Unit {0}
GoAlike None (Some w) = ⊥
GoAlike (Some v) None = ⊥
GoAlike (Some v) (Some w) = AreAlike v w

abbrev pub AllGoAlike : List (Option Visit) → List (Option Visit) → Type 0
AllGoAlike [] [] = Unit {0}
AllGoAlike [] (p ∷ ps) = ⊥
AllGoAlike (o ∷ os) [] = ⊥
AllGoAlike (o ∷ os) (p ∷ ps) = GoAlike o p × AllGoAlike os ps

-- what is accepted of a choice is accepted, with what leads back before it, of its instance
accepted_there : (c d : Choice) (r t : Subst) → choice_under t d ≡ c → IsUnified (choice_under r c) → IsUnified (choice_under (after r t) d)
accepted_there c d r t e h = subst IsUnified (sym (sym (choice_under-choice_under r t d) ∙ ap (choice_under r) e)) h

-- the visit of one way is an instance of the other's
instance_there : (c d : Choice) (r q t g : Subst) → choice_under t d ≡ c → ((x : ℕ) → after g q x ≡ after r t x) → visit_under g (visit_under q d.visit) ≡ visit_under r c.visit
instance_there c d r q t g e same =
    visit_under-visit_under g q d.visit ∙ ((λ i. visit_under (λ x. same x i) d.visit) ∙ (sym (visit_under-visit_under r t d.visit) ∙ (λ i. visit_under r (e i).visit)))

-- Choices that are instances of each other go on alike.
pub choices_go_alike : (c d : Choice) (s t : Subst) → choice_under s c ≡ d → choice_under t d ≡ c → (o p : Option Visit) → GoesOn c o → GoesOn d p → GoAlike o p
choices_go_alike c d s t there again None None a b = tt
choices_go_alike c d s t there again None (Some w) a b = a (after b.0 s) (accepted_there d c b.0 s there b.1.accepted)
choices_go_alike c d s t there again (Some v) None a b = b (after a.0 t) (accepted_there c d a.0 t again a.1.accepted)
choices_go_alike c d s t there again (Some v) (Some w) a b =
    let r = a.0 in
    let q = b.0 in
    let forth = a.1.most (after q s) (accepted_there d c q s there b.1.accepted) in
    let home = b.1.most (after r t) (accepted_there c d r t again a.1.accepted) in
    record {
      by = forth.0;
      back = home.0;
      there = ap (visit_under forth.0) a.2 ∙ (instance_there d c q r s forth.0 there forth.1 ∙ sym b.2);
      again = ap (visit_under home.0) b.2 ∙ (instance_there c d r q t home.0 again home.1 ∙ sym a.2);
    }

-- Variables of rules are moved from one base to another.
module _ (P : Protocol) (s : Subst) (base other : ℕ) where
  -- s below the base, and from it on the variables at the other base
  abbrev pub rule_moving : Subst
  rule_moving = mixed base s (λ d. Leaf (other + d))

  rule_leaf_moved : (d : ℕ) (x : Name) → bind rule_moving (rule_leaf (base + d) x) ≡ rule_leaf (other + d) x
  rule_leaf_moved d (calculus.Free n) = refl
  rule_leaf_moved d (Made p) = refl
  rule_leaf_moved d (Variable n) =
      let here : (base + d) + (n - 1) ≡ base + (d + (n - 1)) = omega arith in
      let there : other + (d + (n - 1)) ≡ (other + d) + (n - 1) = omega arith in
      ap rule_moving here ∙ (mixed_from base s (λ d. Leaf (other + d)) (d + (n - 1)) ∙ ap Leaf there)

  all_leaves_moved : (d : ℕ) (xs : List Name) → AllByRecursion (λ x. bind rule_moving (rule_leaf (base + d) x) ≡ rule_leaf (other + d) x) xs
  all_leaves_moved d [] = tt
  all_leaves_moved d (x ∷ xs) = (rule_leaf_moved d x, all_leaves_moved d xs)

  pub rule_term_moved : (d : ℕ) (t : calculus.Term) → bind rule_moving (rule_term P (base + d) t) ≡ rule_term P (other + d) t
  rule_term_moved d t =
      converted-bind P rule_moving (rule_leaf (base + d)) t
      ∙ converted-same P (λ x. bind rule_moving (rule_leaf (base + d) x)) (rule_leaf (other + d)) t (all_leaves_moved d (leaves t))

-- a choice of rules, under a substitution of the visit
ruled_choice-under : (P : Protocol) (s : Subst) (v : Visit) (pattern : Pattern) (ruled : Ruled) (base other : ℕ) (at to : Fresh) → AreBelow base (visit_terms v) → AreBelow at.base (ruled_terms (ruled_choice P v pattern ruled base at)) → IsFresh v pattern at → choice_under (extended (rule_moving P s base other) at to) (ruled_choice P v pattern ruled base at) ≡ ruled_choice P (visit_under s v) pattern ruled other to
ruled_choice-under P s v pattern ruled base other at to new apart fresh =
    let c = ruled_choice P v pattern ruled base at in
    let m = rule_moving P s base other in
    let r = extended m at to in
    let below = extended_below m at to in
    let moved : visit_under m v ≡ visit_under s v = visit_agree m s base (mixed_below base s (λ d. Leaf (other + d))) v new in
    let same : visit_under r v ≡ visit_under s v = visit_extended m v pattern at to fresh ∙ moved in
    let scopes = scope_extended m v pattern at to fresh ∙ (λ i. (moved i).scope ++ pattern_scope to pattern) in
    let target = pattern_term_moved P m at to v.scope (λ i. (visit_extended m v pattern at to fresh i).scope) pattern fresh.from_first ∙ (λ i. pattern_term P (moved i).scope to pattern) in
    let f = term_in P v.scope in
    let g = term_in P (map (standing_under s) v.scope) in
    let terms : (t : calculus.Term) → bind m (term_in P v.scope t) ≡ term_in P (map (standing_under s) v.scope) t = λ t. sym (term_in-under P m v.scope t) ∙ (λ i. term_in P (moved i).scope t) in
    let rules = rule_term_moved P s base other in
    let arguments : map (bind r) c.arguments ≡ ruled_arguments P g (rule_term P) other ruled =
    terms_agree r m at.base below c.arguments (all_first (IsBelow at.base) c.arguments c.sides apart.1) ∙ ruled_arguments_moved P f g (rule_term P) (rule_term P) m terms base other rules ruled in
    let sides : map (bind r) c.sides ≡ ruled_sides P g (rule_term P) other ruled =
    terms_agree r m at.base below c.sides (all_second (IsBelow at.base) c.arguments c.sides apart.1) ∙ ruled_sides_moved P f g (rule_term P) (rule_term P) m terms base other rules ruled in
    let value : bind r c.value ≡ ruled_term P g (rule_term P) other ruled =
    below_agree r m at.base below c.value apart.0 ∙ ruled_term_moved P f g (rule_term P) (rule_term P) m terms base other rules ruled in
    λ i. record {
      arguments = arguments i;
      sides = sides i;
      value = value i;
      target = target i;
      visit = record { scope = scopes i; hypotheses = (same i).hypotheses; diffs = (same i).diffs; messages = (same i).messages; sessions = (same i).sessions; phase = v.phase };
    }

-- what a `get` makes one, under a substitution of the visit
entry_choice-under : (P : Protocol) (s : Subst) (v : Visit) (table : ℕ) (patterns : List Pattern) (condition : Condition) (at to : Fresh) → IsFresh v (row_pattern patterns) at → choice_under (extended s at to) (entry_choice P v table patterns condition at) ≡ entry_choice P (visit_under s v) table patterns condition to
entry_choice-under P s v table patterns condition at to fresh =
    let r = extended s at to in
    let w = after_entry P v table patterns at in
    let visits = after_entry-under P s v table patterns at to fresh in
    let left = sym (left_of-under P r w.scope condition) ∙ (λ i. left_of P (visits i).scope condition) in
    let right = sym (right_of-under P r w.scope condition) ∙ (λ i. right_of P (visits i).scope condition) in
    λ i. record { arguments = left i; sides = right i; value = free_term 0; target = free_term 0; visit = visits i }

-- choices that are instances of each other have large sides alike
large_side-back : (s t : Subst) (c : Choice) → choice_under t (choice_under s c) ≡ c → has_large_side (choice_under s c) ≡ has_large_side c
large_side-back s t c e =
    let parts = map-append (bind s) c.arguments c.sides in
    let home : map (bind t) (map (bind s) (c.arguments ++ c.sides)) ≡ c.arguments ++ c.sides =
    ap (map (bind t)) parts ∙ (map-append (bind t) (map (bind s) c.arguments) (map (bind s) c.sides) ∙ (λ i. (e i).arguments ++ (e i).sides)) in
    sym (ap (list_any is_large_term) parts) ∙ large_terms-back s t (c.arguments ++ c.sides) home

-- Visits of which one is the instance of the other, and is led back, go on alike.
module _ (P : Protocol) (s t : Subst) (v : Visit) (e : IsLedBack s t v) where
  choice_goes_alike : (pattern : Pattern) (ruled : Ruled) (o p : Option Visit) → ChoiceGoesOn P v pattern ruled o → ChoiceGoesOn P (visit_under s v) pattern ruled p → GoAlike o p
  choice_goes_alike pattern ruled o p a b =
      choices_go_alike (ruled_choice P v pattern ruled a.base a.at) (ruled_choice P (visit_under s v) pattern ruled b.base b.at)
      (extended (rule_moving P s a.base b.base) a.at b.at) (extended (rule_moving P t b.base a.base) b.at a.at)
      (ruled_choice-under P s v pattern ruled a.base b.base a.at b.at a.is_new a.is_apart a.is_fresh)
      (ruled_choice-under P t (visit_under s v) pattern ruled b.base a.base b.at a.at b.is_new b.is_apart b.is_fresh ∙ (λ i. ruled_choice P (e i) pattern ruled a.base a.at))
      o p a.goes_on b.goes_on

  -- the ways of a `let`, one by one
  each_goes_alike : (pattern : Pattern) (rs : List Ruled) (os ps : List (Option Visit)) → EachGoesOn P v pattern rs os → EachGoesOn P (visit_under s v) pattern rs ps → AllGoAlike os ps
  each_goes_alike pattern [] os ps a b = subst (λ xs. AllGoAlike xs ps) (sym a) (subst (AllGoAlike []) (sym b) tt)
  each_goes_alike pattern (ruled ∷ rs) os ps a b =
      let both : AllGoAlike (a.0 ∷ a.1) (b.0 ∷ b.1) = (choice_goes_alike pattern ruled a.0 b.0 a.2 b.2, each_goes_alike pattern rs a.1 b.1 a.3 b.3) in
      subst (λ xs. AllGoAlike xs ps) (sym a.4) (subst (AllGoAlike (a.0 ∷ a.1)) (sym b.4) both)

  pub all_go_alike : (pattern : Pattern) (expression : Expression) (os ps : List (Option Visit)) → AllGoOn P v pattern expression os → AllGoOn P (visit_under s v) pattern expression ps → AllGoAlike os ps
  all_go_alike pattern expression os ps a b = each_goes_alike pattern (map (λ c. c.ruled) (choices P expression)) os ps a b

  -- the entry of a `get`
  module _ (table : ℕ) (patterns : List Pattern) (condition : Condition) (large larger : Bool) (o p : Option Visit) (a : EntryGoesOn P v table patterns condition large o) (b : EntryGoesOn P (visit_under s v) table patterns condition larger p) where
    entry_there : choice_under (extended s a.at b.at) (entry_choice P v table patterns condition a.at) ≡ entry_choice P (visit_under s v) table patterns condition b.at
    entry_there = entry_choice-under P s v table patterns condition a.at b.at a.is_fresh

    entry_again : choice_under (extended t b.at a.at) (entry_choice P (visit_under s v) table patterns condition b.at) ≡ entry_choice P v table patterns condition a.at
    entry_again = entry_choice-under P t (visit_under s v) table patterns condition b.at a.at b.is_fresh ∙ (λ i. entry_choice P (e i) table patterns condition a.at)

    pub entry_goes_alike : GoAlike o p
    entry_goes_alike =
        choices_go_alike (entry_choice P v table patterns condition a.at) (entry_choice P (visit_under s v) table patterns condition b.at)
        (extended s a.at b.at) (extended t b.at a.at) entry_there entry_again o p a.goes_on b.goes_on

    pub entry_large_alike : large ≡ larger
    entry_large_alike =
        let c = entry_choice P v table patterns condition a.at in
        let home = ap (choice_under (extended t b.at a.at)) entry_there ∙ entry_again in
        a.is_large ∙ (sym (large_side-back (extended s a.at b.at) (extended t b.at a.at) c home) ∙ (ap has_large_side entry_there ∙ sym b.is_large))
