-- The attacker's steps: when each is possible, and for which cause it is refused.
use Rattle.std.proofs.Common.{◌≡◌, ◌≢◌, ℕ, zero, suc, ◌-◌, ◌≤◌, ◌<◌, Bool, true, false, not, ◌&&◌, ◌||◌, nat_eq, cond, List, [], ◌∷◌, length, get_or, map, Option, None, Some, is_some, is_none, option_and_then, option_map, option_to_list, refl, sym, ap, ◌∙◌}
use Rattle.std.specs.List.{list_any}
use Rattle.std.specs.Option.{option_map_or}
use Rattle.spec_trees.specs.Tree.{Leaf, Node, trees, items_of}
use Rattle.spec_trees.proofs.Rows.{items_of-trees}
use Rattle.spec_calculus.specs.Syntax.{Constructor, Declared, Rule, Protocol}
use Rattle.spec_calculus.specs.Points.{numbered}
use Rattle.spec_calculus.specs.Values.{AttackerName, Value}
use Rattle.spec_calculus.specs.Matching.{rule_value, rules_of}
use Rattle.spec_calculus.specs.Runs.{Configuration, Build, Reduce, Part, Fresh, learns, names, known_values, can_build, built, part_of}
use Rattle.spec_calculus.specs.Refusals as cause
use Rattle.spec_calculus.specs.Refusals.{Refusal, first_cause, where_true, takes, is_public_constructor, first_arity, reduces, refusal}
use Rattle.spec_calculus.specs.Limits.{is_large, evaluated}
use Rattle.pi_tree.specs.declared.value_trees.Value as source
use Rattle.pi_tree.specs.Values as seen
use Rattle.term_values.specs.ByRules.{by_rule}
use Rattle.pi_model.specs.Plans.{IsPossible, IsRefused}
use Rattle.term_values.proofs.Items.{numbered-read, numbered-past, numbered-none}
use Rattle.pi_model.proofs.ThreadSteps.{possible, refused, large}

-- constructors by their number
pub takes-there : (P : Protocol) (f count : ℕ) → f ≢ 0 → takes P f count ≡ option_map_or (λ d. nat_eq d.arity count) (numbered P.constructors f) false
takes-there P zero count h = absurd (h refl)
takes-there P (suc f) count h = refl

pub public-there : (P : Protocol) (f : ℕ) → f ≢ 0 → is_public_constructor P f ≡ option_map_or (λ d. d.public) (numbered P.constructors f) false
public-there P zero h = absurd (h refl)
public-there P (suc f) h = refl

pub built-there : (f : ℕ) (vs : List Value) → f ≢ 0 → built f vs ≡ Node (Constructor f) (trees vs)
built-there zero vs h = absurd (h refl)
built-there (suc f) vs h = refl

pub ruleset of_constructors = (takes-there, public-there, built-there)

-- parts by their number
pub item-read : (items : List source.Value) (number index : ℕ) (x : source.Value) → 1 ≤ number → index ≡ number - 1 → index < length items → x ≡ get_or items index x → numbered (items_of (trees (map seen.value_of items))) number ≡ Some (seen.value_of x)
item-read items number index x h e within at =
    ap (λ vs. numbered vs number) (items_of-trees (map seen.value_of items)) ∙ numbered-read seen.value_of items number index x h e within at

pub item-past : (items : List source.Value) (number index : ℕ) → 1 ≤ number → index ≡ number - 1 → length items ≤ index → numbered (items_of (trees (map seen.value_of items))) number ≡ None
item-past items number index h e past =
    ap (λ vs. numbered vs number) (items_of-trees (map seen.value_of items)) ∙ numbered-past seen.value_of items number index h e past

pub ruleset of_items = (item-read, item-past, numbered-none)

pub data-part : (P : Protocol) (i f : ℕ) (vs : List Value) (d : Declared) → numbered P.constructors f ≡ Some d → d.is_data ≡ true → part_of P i (Node (Constructor f) (trees vs)) ≡ numbered (items_of (trees vs)) i
data-part P i f vs d h e =
    ap (λ o. cond (option_map_or (λ x. x.is_data) o false) (numbered (items_of (trees vs)) i) None) h
    ∙ ap (λ b. cond b (numbered (items_of (trees vs)) i) None) e

pub no_data-part : (P : Protocol) (i f : ℕ) (vs : List Value) (d : Declared) → numbered P.constructors f ≡ Some d → d.is_data ≡ false → part_of P i (Node (Constructor f) (trees vs)) ≡ None
no_data-part P i f vs d h e =
    ap (λ o. cond (option_map_or (λ x. x.is_data) o false) (numbered (items_of (trees vs)) i) None) h
    ∙ ap (λ b. cond b (numbered (items_of (trees vs)) i) None) e

pub no_constructor-part : (P : Protocol) (i f : ℕ) (vs : List Value) → numbered P.constructors f ≡ None → part_of P i (Node (Constructor f) (trees vs)) ≡ None
no_constructor-part P i f vs h = ap (λ o. cond (option_map_or (λ x. x.is_data) o false) (numbered (items_of (trees vs)) i) None) h

pub ruleset of_parts = (data-part, no_data-part, no_constructor-part)

can-build : (P : Protocol) (f count : ℕ) → takes P f count ≡ true → is_public_constructor P f ≡ true → can_build P f count ≡ true
can-build P zero count t p = t
can-build P (suc f) count t p = here (numbered P.constructors (suc f)) t p
  where
    both : (a b : Bool) → b ≡ true → a ≡ true → (a && b) ≡ true
    both true b t p = t
    both false b t p = cc

    here : (o : Option Declared) → option_map_or (λ d. nat_eq d.arity count) o false ≡ true → option_map_or (λ d. d.public) o false ≡ true → option_map_or (λ d. d.public && nat_eq d.arity count) o false ≡ true
    here None t p = t
    here (Some d) t p = both d.public (nat_eq d.arity count) t p

module _ (P : Protocol) (c : Configuration) where
  build-cause : (f : ℕ) (ks : List ℕ) (t p : Bool) (o : Option (List Value)) → takes P f (length ks) ≡ t → known_values c ks ≡ o → is_public_constructor P f ≡ p → refusal P c (Build f ks) ≡ first_cause (where_true cause.WrongForm (not t) ∷ where_true cause.NoKnowledge (is_none o) ∷ where_true cause.NotPublic (not p) ∷ [])
  build-cause f ks t p o a b d =
      ap (λ x. first_cause (where_true cause.WrongForm (not x) ∷ where_true cause.NoKnowledge (is_none (known_values c ks)) ∷ where_true cause.NotPublic (not (is_public_constructor P f)) ∷ [])) a
      ∙ (ap (λ x. first_cause (where_true cause.WrongForm (not t) ∷ where_true cause.NoKnowledge (is_none x) ∷ where_true cause.NotPublic (not (is_public_constructor P f)) ∷ [])) b
      ∙ ap (λ x. first_cause (where_true cause.WrongForm (not t) ∷ where_true cause.NoKnowledge (is_none o) ∷ where_true cause.NotPublic (not x) ∷ [])) d)

  pub build-form : (f : ℕ) (ks : List ℕ) → takes P f (length ks) ≡ false → IsRefused P c (Build f ks) cause.WrongForm
  build-form f ks t = refused P c (Build f ks) cause.WrongForm (build-cause f ks false (is_public_constructor P f) (known_values c ks) t refl refl)

  pub build-no_value : (f : ℕ) (ks : List ℕ) → takes P f (length ks) ≡ true → known_values c ks ≡ None → IsRefused P c (Build f ks) cause.NoKnowledge
  build-no_value f ks t k = refused P c (Build f ks) cause.NoKnowledge (build-cause f ks true (is_public_constructor P f) None t k refl)

  pub build-private : (f : ℕ) (ks : List ℕ) (vs : List Value) → takes P f (length ks) ≡ true → known_values c ks ≡ Some vs → is_public_constructor P f ≡ false → IsRefused P c (Build f ks) cause.NotPublic
  build-private f ks vs t k p = refused P c (Build f ks) cause.NotPublic (build-cause f ks true false (Some vs) t k p)

  any-one : (v : Value) (b : Bool) → is_large v ≡ b → list_any is_large (v ∷ []) ≡ b
  any-one v b h = here (is_large v) ∙ h
    where
      here : (x : Bool) → (x || false) ≡ x
      here true = refl
      here false = refl

  build-values : (f : ℕ) (ks : List ℕ) (vs : List Value) (b : Bool) → known_values c ks ≡ Some vs → is_large (built f vs) ≡ b → list_any is_large (evaluated P c (Build f ks)) ≡ b
  build-values f ks vs b k l = ap (λ o. list_any is_large (option_to_list (option_map (built f) o))) k ∙ any-one (built f vs) b l

  pub build-large : (f : ℕ) (ks : List ℕ) (vs : List Value) → takes P f (length ks) ≡ true → known_values c ks ≡ Some vs → is_public_constructor P f ≡ true → is_large (built f vs) ≡ true → IsRefused P c (Build f ks) cause.Large
  build-large f ks vs t k p l = large P c (Build f ks) (build-cause f ks true true (Some vs) t k p) (build-values f ks vs true k l)

  pub build-possible : (f : ℕ) (ks : List ℕ) (vs : List Value) → takes P f (length ks) ≡ true → known_values c ks ≡ Some vs → is_public_constructor P f ≡ true → is_large (built f vs) ≡ false → IsPossible P c (Build f ks) (learns c (built f vs))
  build-possible f ks vs t k p l =
      possible P c (Build f ks) (learns c (built f vs)) (build-cause f ks true true (Some vs) t k p) (build-values f ks vs false k l)
      (ap (λ b. cond b (option_map (λ ws. learns c (built f ws)) (known_values c ks)) None) (can-build P f (length ks) t p) ∙ ap (option_map (λ ws. learns c (built f ws))) k)

  reduces-given : (d r : ℕ) (ks : List ℕ) (vs : List Value) → known_values c ks ≡ Some vs → reduces P c d r ks ≡ is_some (option_and_then (λ rule. rule_value rule vs) (numbered (rules_of P d) r))
  reduces-given d r ks vs k = ap (λ o. option_map_or (λ rule. is_some (option_and_then (rule_value rule) o)) (numbered (rules_of P d) r) false) k ∙ here (numbered (rules_of P d) r)
    where
      here : (o : Option Rule) → option_map_or (λ rule. is_some (rule_value rule vs)) o false ≡ is_some (option_and_then (λ rule. rule_value rule vs) o)
      here None = refl
      here (Some rule) = refl

  reduce-cause : (d r : ℕ) (ks : List ℕ) (t b : Bool) (o : Option (List Value)) → first_arity (rules_of P d) (length ks) ≡ t → known_values c ks ≡ o → reduces P c d r ks ≡ b → refusal P c (Reduce d r ks) ≡ first_cause (where_true cause.WrongForm (not t) ∷ where_true cause.NoKnowledge (is_none o) ∷ where_true cause.NoRule (not b) ∷ [])
  reduce-cause d r ks t b o x y z =
      ap (λ e. first_cause (where_true cause.WrongForm (not e) ∷ where_true cause.NoKnowledge (is_none (known_values c ks)) ∷ where_true cause.NoRule (not (reduces P c d r ks)) ∷ [])) x
      ∙ (ap (λ e. first_cause (where_true cause.WrongForm (not t) ∷ where_true cause.NoKnowledge (is_none e) ∷ where_true cause.NoRule (not (reduces P c d r ks)) ∷ [])) y
      ∙ ap (λ e. first_cause (where_true cause.WrongForm (not t) ∷ where_true cause.NoKnowledge (is_none o) ∷ where_true cause.NoRule (not e) ∷ [])) z)

  pub reduce-form : (d r : ℕ) (ks : List ℕ) → first_arity (rules_of P d) (length ks) ≡ false → IsRefused P c (Reduce d r ks) cause.WrongForm
  reduce-form d r ks t = refused P c (Reduce d r ks) cause.WrongForm (reduce-cause d r ks false (reduces P c d r ks) (known_values c ks) t refl refl)

  pub reduce-no_value : (d r : ℕ) (ks : List ℕ) → first_arity (rules_of P d) (length ks) ≡ true → known_values c ks ≡ None → IsRefused P c (Reduce d r ks) cause.NoKnowledge
  reduce-no_value d r ks t k = refused P c (Reduce d r ks) cause.NoKnowledge (reduce-cause d r ks true (reduces P c d r ks) None t k refl)

  reduce-no_rule-of_rules : (d r : ℕ) (ks : List ℕ) (vs : List Value) → first_arity (rules_of P d) (length ks) ≡ true → known_values c ks ≡ Some vs → by_rule (rules_of P d) vs r ≡ None → IsRefused P c (Reduce d r ks) cause.NoRule
  unfolding by_rule
  reduce-no_rule-of_rules d r ks vs t k g = refused P c (Reduce d r ks) cause.NoRule (reduce-cause d r ks true false (Some vs) t k (reduces-given d r ks vs k ∙ ap is_some g))

  swap : (ks : List ℕ) (vs : List Value) (o : Option Rule) → known_values c ks ≡ Some vs → option_and_then (λ rule. option_and_then (rule_value rule) (known_values c ks)) o ≡ option_and_then (λ rule. rule_value rule vs) o
  swap ks vs None k = refl
  swap ks vs (Some rule) k = ap (option_and_then (rule_value rule)) k

  swap_learns : (ks : List ℕ) (vs : List Value) (v : Value) (o : Option Rule) → known_values c ks ≡ Some vs → option_and_then (λ rule. rule_value rule vs) o ≡ Some v → option_and_then (λ rule. option_map (learns c) (option_and_then (rule_value rule) (known_values c ks))) o ≡ Some (learns c v)
  swap_learns ks vs v None k g = cc
  swap_learns ks vs v (Some rule) k g = ap (λ o. option_map (learns c) (option_and_then (rule_value rule) o)) k ∙ ap (option_map (learns c)) g

  reduce-values : (d r : ℕ) (ks : List ℕ) (vs : List Value) (v : Value) (b : Bool) → known_values c ks ≡ Some vs → by_rule (rules_of P d) vs r ≡ Some v → is_large v ≡ b → list_any is_large (evaluated P c (Reduce d r ks)) ≡ b
  unfolding by_rule
  reduce-values d r ks vs v b k g l = ap (λ o. list_any is_large (option_to_list o)) (swap ks vs (numbered (rules_of P d) r) k ∙ g) ∙ any-one v b l

  reduce-large-of_rules : (d r : ℕ) (ks : List ℕ) (vs : List Value) (v : Value) → first_arity (rules_of P d) (length ks) ≡ true → known_values c ks ≡ Some vs → by_rule (rules_of P d) vs r ≡ Some v → is_large v ≡ true → IsRefused P c (Reduce d r ks) cause.Large
  unfolding by_rule
  reduce-large-of_rules d r ks vs v t k g l = large P c (Reduce d r ks) (reduce-cause d r ks true true (Some vs) t k (reduces-given d r ks vs k ∙ ap is_some g)) (reduce-values d r ks vs v true k g l)

  reduce-possible-of_rules : (d r : ℕ) (ks : List ℕ) (vs : List Value) (v : Value) → first_arity (rules_of P d) (length ks) ≡ true → known_values c ks ≡ Some vs → by_rule (rules_of P d) vs r ≡ Some v → is_large v ≡ false → IsPossible P c (Reduce d r ks) (learns c v)
  unfolding by_rule
  reduce-possible-of_rules d r ks vs v t k g l =
      possible P c (Reduce d r ks) (learns c v) (reduce-cause d r ks true true (Some vs) t k (reduces-given d r ks vs k ∙ ap is_some g)) (reduce-values d r ks vs v false k g l)
      (swap_learns ks vs v (numbered (rules_of P d) r) k g)

  pub reduce-no_rule : (d r : ℕ) (ks : List ℕ) (vs : List Value) (rules : List Rule) → rules ≡ rules_of P d → first_arity rules (length ks) ≡ true → known_values c ks ≡ Some vs → by_rule rules vs r ≡ None → IsRefused P c (Reduce d r ks) cause.NoRule
  reduce-no_rule d r ks vs rules e t k g = reduce-no_rule-of_rules d r ks vs (ap (λ rs. first_arity rs (length ks)) (sym e) ∙ t) k (ap (λ rs. by_rule rs vs r) (sym e) ∙ g)

  pub reduce-large : (d r : ℕ) (ks : List ℕ) (vs : List Value) (v : Value) (rules : List Rule) → rules ≡ rules_of P d → first_arity rules (length ks) ≡ true → known_values c ks ≡ Some vs → by_rule rules vs r ≡ Some v → is_large v ≡ true → IsRefused P c (Reduce d r ks) cause.Large
  reduce-large d r ks vs v rules e t k g l = reduce-large-of_rules d r ks vs v (ap (λ rs. first_arity rs (length ks)) (sym e) ∙ t) k (ap (λ rs. by_rule rs vs r) (sym e) ∙ g) l

  pub reduce-possible : (d r : ℕ) (ks : List ℕ) (vs : List Value) (v : Value) (rules : List Rule) → rules ≡ rules_of P d → first_arity rules (length ks) ≡ true → known_values c ks ≡ Some vs → by_rule rules vs r ≡ Some v → is_large v ≡ false → IsPossible P c (Reduce d r ks) (learns c v)
  reduce-possible d r ks vs v rules e t k g l = reduce-possible-of_rules d r ks vs v (ap (λ rs. first_arity rs (length ks)) (sym e) ∙ t) k (ap (λ rs. by_rule rs vs r) (sym e) ∙ g) l

  part-cause : (k i : ℕ) (v : Value) (o : Option Value) → numbered c.known k ≡ Some v → part_of P i v ≡ o → refusal P c (Part k i) ≡ first_cause (where_true cause.WrongForm (is_none o) ∷ [])
  part-cause k i v o h e =
      ap (λ x. first_cause (where_true cause.NoKnowledge (is_none x) ∷ where_true cause.WrongForm (is_none (option_and_then (part_of P i) x)) ∷ [])) h
      ∙ ap (λ x. first_cause (where_true cause.WrongForm (is_none x) ∷ [])) e

  pub part-no_value : (k i : ℕ) → numbered c.known k ≡ None → IsRefused P c (Part k i) cause.NoKnowledge
  part-no_value k i h = refused P c (Part k i) cause.NoKnowledge (ap (λ x. first_cause (where_true cause.NoKnowledge (is_none x) ∷ where_true cause.WrongForm (is_none (option_and_then (part_of P i) x)) ∷ [])) h)

  pub part-form : (k i : ℕ) (v : Value) → numbered c.known k ≡ Some v → part_of P i v ≡ None → IsRefused P c (Part k i) cause.WrongForm
  part-form k i v h e = refused P c (Part k i) cause.WrongForm (part-cause k i v None h e)

  part-values : (k i : ℕ) (v w : Value) (b : Bool) → numbered c.known k ≡ Some v → part_of P i v ≡ Some w → is_large w ≡ b → list_any is_large (evaluated P c (Part k i)) ≡ b
  part-values k i v w b h e l = ap (λ o. list_any is_large (option_to_list o)) (ap (option_and_then (part_of P i)) h ∙ e) ∙ any-one w b l

  pub part-large : (k i : ℕ) (v w : Value) → numbered c.known k ≡ Some v → part_of P i v ≡ Some w → is_large w ≡ true → IsRefused P c (Part k i) cause.Large
  part-large k i v w h e l = large P c (Part k i) (part-cause k i v (Some w) h e) (part-values k i v w true h e l)

  pub part-possible : (k i : ℕ) (v w : Value) → numbered c.known k ≡ Some v → part_of P i v ≡ Some w → is_large w ≡ false → IsPossible P c (Part k i) (learns c w)
  part-possible k i v w h e l =
      possible P c (Part k i) (learns c w) (part-cause k i v (Some w) h e) (part-values k i v w false h e l)
      (ap (option_map (learns c)) (ap (option_and_then (part_of P i)) h ∙ e))

  pub fresh-possible : IsPossible P c Fresh (names (learns c (Leaf (AttackerName c.next))))
  fresh-possible = possible P c Fresh (names (learns c (Leaf (AttackerName c.next)))) refl refl refl

pub ruleset of_build = (build-form, build-no_value, build-private, build-large, build-possible)

pub ruleset of_reduce = (reduce-form, reduce-no_value, reduce-no_rule, reduce-large, reduce-possible)

pub ruleset of_part = (part-no_value, part-form, part-large, part-possible)

pub ruleset of_fresh = (fresh-possible)
