-- Unification with the unifier left open has one outcome, up to instances.
use Rattle.std.proofs.Common.{◌≡◌, sym, ap, ◌∙◌, subst}
use Rattle.std.specs.Prelude.{Option, Some, None}
use mathlib.Core.Path.{fun_ext}
use Rattle.spec_trees.specs.Tree.{after}
use Rattle.spec_terms.specs.Term.{Subst}
use Rattle.spec_terms.specs.Unifier.{IsMostGeneral}
use Rattle.spec_clauses.specs.Unify.{MguGives}

-- Anything on which substitutions act.
module _ {X : Type 0} (act : Subst → X → X) where
  -- each instance of the second is an instance of the first
  abbrev pub Reaches : X → X → Type 0
  Reaches x y = (u : Subst) → (w : Subst) × (act w x ≡ act u y)

  -- the two have the same instances
  pub record HaveSameInstances (x y : X) : Type 0 where
    pub to : Reaches x y
    pub from : Reaches y x

  -- No outcome from either, or outcomes that are made of things with the same instances.
  abbrev pub AreAlike : {Y : Type 0} → (X → Y) → Option Y → Option Y → Type 0
  AreAlike made None None = Unit {0}
  AreAlike made None (Some b) = ⊥
  AreAlike made (Some a) None = ⊥
  AreAlike made (Some a) (Some b) = (x y : X) × (a ≡ made x) × (b ≡ made y) × HaveSameInstances x y

  module _ (composes : (q s : Subst) (x : X) → act q (act s x) ≡ act (after q s) x) (Good : X → Type 0) (stays : (u : Subst) (x : X) → Good x → Good (act u x)) where
    unified_reaches : (x y : X) (s t : Subst) → Reaches x y → IsMostGeneral (λ r. Good (act r x)) s → Good (act t y) → Reaches (act s x) (act t y)
    unified_reaches x y s t reach most good u =
        let (w, e) = reach (after u t) in
        let accepted : Good (act w x) = subst Good (composes u t y ∙ sym e) (stays u (act t y) good) in
        let (q, factors) = most.most w accepted in
        (q, composes q s x ∙ (ap (λ r. act r x) (fun_ext factors) ∙ (e ∙ sym (composes u t y))))

    none_reaches : (x y : X) (t : Subst) → Reaches x y → ((r : Subst) → Good (act r x) → ⊥) → Good (act t y) → ⊥
    none_reaches x y t reach never good = let (w, e) = reach t in never w (subst Good (sym e) good)

    -- What has the same instances has the same outcome, whatever most general substitutions are taken.
    pub one_unified : {Y : Type 0} (made : X → Y) (x y : X) → HaveSameInstances x y → (o p : Option Y) → MguGives (λ r. Good (act r x)) (λ s. made (act s x)) o → MguGives (λ r. Good (act r y)) (λ s. made (act s y)) p → AreAlike made o p
    one_unified made x y same None None u v = tt
    one_unified made x y same None (Some b) u v = none_reaches x y v.0 same.to u v.1.accepted
    one_unified made x y same (Some a) None u v = none_reaches y x u.0 same.from v u.1.accepted
    one_unified made x y same (Some a) (Some b) u v =
        (act u.0 x, act v.0 y, u.2, v.2, record { to = unified_reaches x y u.0 v.0 same.to u.1 v.1.accepted; from = unified_reaches y x v.0 u.0 same.from v.1 u.1.accepted })
