-- Bindings are sound exactly where each variable is bound once and none leads back to itself.
use Rattle.std.proofs.Common.{◌≡◌, ℕ, ◌⊎◌, Bool, true, false, nat_eq, Some, None, List, [], ◌∷◌, refl, sym, ap, subst, ◌∙◌, inl, inr, arith, eqb-true, eq-eqb}
use Rattle.spec_trees.specs.Tree.{Leaf, bind}
use Rattle.spec_terms.specs.Term.{Term, has_var}
use Rattle.spec_terms.specs.Binding.{Binding, bound_to, AreDistinct, Leads, directly, by_way_of, NeverLeadsBack, only, resolved}
use Rattle.spec_terms.proofs.Replace.{some_none, eqb_self, is_there, var_source}
use Rattle.spec_terms.proofs.Resolve.{IsSound, bound_to-newest, bound_to-other}
use Rattle.spec_terms.proofs.Ranks.{Leads-falls}

pub IsSound-distinct : (bs : List Binding) → IsSound bs → AreDistinct bs
IsSound-distinct [] h = tt
IsSound-distinct (b ∷ bs) h = (h.0, IsSound-distinct bs h.2)

pub IsSound-never : (bs : List Binding) → IsSound bs → NeverLeadsBack bs
IsSound-never bs h = record { once = IsSound-distinct bs h; never = λ x loop. let falls = Leads-falls bs h x x loop in absurd (omega arith) }

-- an older binding still holds
pub bound_to-older : (b : Binding) (bs : List Binding) (x : ℕ) (t : Term) → bound_to bs b.var ≡ None → bound_to bs x ≡ Some t → bound_to (b ∷ bs) x ≡ Some t
bound_to-older b bs x t new e = go (nat_eq x b.var) refl where
  go : (c : Bool) → nat_eq x b.var ≡ c → bound_to (b ∷ bs) x ≡ Some t
  go true same = let var : x ≡ b.var = eqb-true x b.var same in absurd (some_none (sym e ∙ (ap (bound_to bs) var ∙ new)))
  go false other = bound_to-other b bs x other ∙ e

pub Leads-older : (b : Binding) (bs : List Binding) → bound_to bs b.var ≡ None → (x y : ℕ) → Leads bs x y → Leads (b ∷ bs) x y
Leads-older b bs new x y (directly {t = t} e here) = directly (bound_to-older b bs x t new e) here
Leads-older b bs new x z (by_way_of {y = y} {t = t} e here onward) = by_way_of (bound_to-older b bs x t new e) here (Leads-older b bs new y z onward)

pub Leads-on : (bs : List Binding) (x y z : ℕ) → Leads bs x y → Leads bs y z → Leads bs x z
Leads-on bs x y z (directly e here) onward = by_way_of e here onward
Leads-on bs x y z (by_way_of {y = w} e here first) onward = by_way_of e here (Leads-on bs w y z first onward)

-- a variable that stands in what y stands for is y, or y leads to it
pub resolved-leads : (bs : List Binding) → AreDistinct bs → (z y : ℕ) → has_var z (resolved bs y) ≡ true → (y ≡ z) ⊎ Leads bs y z
resolved-leads [] once z y h = inl (sym (eqb-true z y h))
resolved-leads (b ∷ bs) once z y h =
    let new = only b.var (bind (resolved bs) b.to) in
    let (w, in_older, in_new) = var_source new z (resolved bs y) h in
    last w in_new (resolved-leads bs once.1 w y in_older) (is_there (nat_eq b.var w)) (λ e. let (v, here, there) = var_source (resolved bs) z b.to e in (v, here, resolved-leads bs once.1 z v there))
  where
    only_here : (w : ℕ) → nat_eq b.var w ≡ true → only b.var (bind (resolved bs) b.to) w ≡ bind (resolved bs) b.to
    only_here w same = rw same refl

    only_there : (w : ℕ) → nat_eq b.var w ≡ false → only b.var (bind (resolved bs) b.to) w ≡ Leaf w
    only_there w other = rw other refl

    from_new : (w : ℕ) → b.var ≡ w → ((v : ℕ) × (has_var v b.to ≡ true) × ((v ≡ z) ⊎ Leads bs v z)) → Leads (b ∷ bs) w z
    from_new w same (v, here, inl is) = directly (bound_to-newest b bs w (eq-eqb w b.var (sym same))) (ap (λ u. has_var u b.to) (sym is) ∙ here)
    from_new w same (v, here, inr leads) = by_way_of (bound_to-newest b bs w (eq-eqb w b.var (sym same))) here (Leads-older b bs once.0 v z leads)

    joined : (w : ℕ) → (y ≡ w) ⊎ Leads bs y w → Leads (b ∷ bs) w z → Leads (b ∷ bs) y z
    joined w (inl is) onward = subst (λ u. Leads (b ∷ bs) u z) (sym is) onward
    joined w (inr leads) onward = Leads-on (b ∷ bs) y w z (Leads-older b bs once.0 y w leads) onward

    kept : (w : ℕ) → (y ≡ w) ⊎ Leads bs y w → w ≡ z → (y ≡ z) ⊎ Leads (b ∷ bs) y z
    kept w (inl is) e = inl (is ∙ e)
    kept w (inr leads) e = inr (subst (λ u. Leads (b ∷ bs) y u) e (Leads-older b bs once.0 y w leads))

    last : (w : ℕ) → has_var z (only b.var (bind (resolved bs) b.to) w) ≡ true → (y ≡ w) ⊎ Leads bs y w → (nat_eq b.var w ≡ true) ⊎ (nat_eq b.var w ≡ false)
        → (has_var z (bind (resolved bs) b.to) ≡ true → (v : ℕ) × (has_var v b.to ≡ true) × ((v ≡ z) ⊎ Leads bs v z)) → (y ≡ z) ⊎ Leads (b ∷ bs) y z
    last w here way (inl same) inner =
        let at_new : has_var z (bind (resolved bs) b.to) ≡ true = sym (ap (λ t. has_var z t) (only_here w same)) ∙ here in
        inr (joined w way (from_new w (eqb-true b.var w same) (inner at_new)))
    last w here way (inr other) inner = kept w way (sym (eqb-true z w (sym (ap (λ t. has_var z t) (only_there w other)) ∙ here)))

-- so bindings of which none leads back are sound
pub NeverLeadsBack-older : (b : Binding) (bs : List Binding) → NeverLeadsBack (b ∷ bs) → NeverLeadsBack bs
NeverLeadsBack-older b bs h = record { once = h.once.1; never = λ x loop. h.never x (Leads-older b bs h.once.0 x x loop) }

pub NeverLeadsBack-sound : (bs : List Binding) → NeverLeadsBack bs → IsSound bs
NeverLeadsBack-sound [] h = tt
NeverLeadsBack-sound (b ∷ bs) h = (h.once.0, absent (is_there (has_var b.var (bind (resolved bs) b.to))), NeverLeadsBack-sound bs (NeverLeadsBack-older b bs h)) where
  back : (y : ℕ) → has_var y b.to ≡ true → (y ≡ b.var) ⊎ Leads bs y b.var → Leads (b ∷ bs) b.var b.var
  back y here (inl is) = directly (bound_to-newest b bs b.var (eqb_self b.var)) (ap (λ u. has_var u b.to) (sym is) ∙ here)
  back y here (inr leads) = by_way_of (bound_to-newest b bs b.var (eqb_self b.var)) here (Leads-older b bs h.once.0 y b.var leads)

  absent : (has_var b.var (bind (resolved bs) b.to) ≡ true) ⊎ (has_var b.var (bind (resolved bs) b.to) ≡ false) → has_var b.var (bind (resolved bs) b.to) ≡ false
  absent (inr there_is_none) = there_is_none
  absent (inl stands) =
      let (y, here, there) = var_source (resolved bs) b.var b.to stands in
      absurd (h.never b.var (back y here (resolved-leads bs h.once.1 b.var y there)))
