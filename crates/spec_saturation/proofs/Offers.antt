-- Over the same entries, one clause at most is offered at a key.
use Rattle.std.proofs.Common.{◌≡◌, ◌⊎◌, ◌∙◌, ℕ, true, false, Option, Some, List, length, sym, ap, subst, inl, inr, arith}
use Rattle.spec_terms.specs.Term.{Term}
use Rattle.spec_calculus.specs.Points.{numbered}
use Rattle.spec_clauses.specs.Fact.{Clause}
use Rattle.spec_clauses.specs.Selection.{Selection, select, is_solved}
use Rattle.spec_clauses.specs.Resolvents.{Answer, Resolvents, Resolves}
use Rattle.spec_saturation.specs.Key.{key, Entry, below}
use Rattle.spec_saturation.specs.Log.{IsLive, IsDue, Gives, IsOffered}
use Rattle.spec_saturation.proofs.Keys.{parts_of_key}

-- what a number names is one
pub named_once : {A : Type 0} (o : Option A) (a b : A) → o ≡ Some a → o ≡ Some b → a ≡ b
named_once o a b e f = let same : Some a ≡ Some b = sym e ∙ f in cc

-- a number has one live clause
pub live_once : (entries : List Entry) (n : ℕ) (c d : Clause Term) → IsLive entries n c → IsLive entries n d → c ≡ d
live_once entries n c d a b =
    sym a.clause ∙ (ap (λ e. e.clause) (named_once (numbered entries n) a.entry b.entry a.at b.at) ∙ b.clause)

solved_apart : (c d : Clause Term) → c ≡ d → is_solved c.hypotheses ≡ true → is_solved d.hypotheses ≡ false → ⊥
solved_apart c d e does lacks = let same : is_solved c.hypotheses ≡ is_solved d.hypotheses = ap (λ c. is_solved c.hypotheses) e in cc

-- a due pair has one solved and one unsolved clause
pub due_once : (entries : List Entry) (m i : ℕ) (s u t v : Clause Term) → IsDue entries m i s u → IsDue entries m i t v → (s ≡ t) × (u ≡ v)
due_once entries m i s u t v a b = go a.live b.live
  where
    go : (IsLive entries i s × IsLive entries m u) ⊎ (IsLive entries m s × IsLive entries i u) → (IsLive entries i t × IsLive entries m v) ⊎ (IsLive entries m t × IsLive entries i v) → (s ≡ t) × (u ≡ v)
    go (inl x) (inl y) = (live_once entries i s t x.0 y.0, live_once entries m u v x.1 y.1)
    go (inl x) (inr y) = absurd (solved_apart s v (live_once entries i s v x.0 y.1) a.left_solved b.right_unsolved)
    go (inr x) (inl y) = absurd (solved_apart s v (live_once entries m s v x.0 y.1) a.left_solved b.right_unsolved)
    go (inr x) (inr y) = (live_once entries m s t x.0 y.0, live_once entries i u v x.1 y.1)

module _ (one_answer : (i j : Clause Term) (at : Selection) (a b : Answer) → Resolves i j at a → Resolves i j at b → a ≡ b) where
  -- a due pair gives one answer
  pub gives_once : (log : List Entry) (m i : ℕ) (a b : Answer) → Gives log m i a → Gives log m i b → a ≡ b
  gives_once log m i a b x y =
      let same = due_once (below (key m i 1) log) m i x.solved x.unsolved y.solved y.unsolved x.is_due y.is_due in
      let hypotheses : select x.unsolved.hypotheses ≡ select y.unsolved.hypotheses = ap (λ c. select c.hypotheses) same.1 in
      let chosen : x.at ≡ y.at = named_once (select y.unsolved.hypotheses) x.at y.at (sym hypotheses ∙ x.selected) y.selected in
      let moved : Resolves y.solved y.unsolved y.at a = subst (λ at. Resolves y.solved y.unsolved at a) chosen (subst (λ c. Resolves y.solved c x.at a) same.1 (subst (λ c. Resolves c x.unsolved x.at a) same.0 x.gives)) in
      one_answer y.solved y.unsolved y.at a b moved y.gives

  -- and at a key one clause is offered
  pub offered_once : (given : List (Clause Term)) (log : List Entry) (d e : Entry) → d.key ≡ e.key → IsOffered given log d → IsOffered given log e → d.clause ≡ e.clause
  offered_once given log d e same (inl x) (inl y) =
      let p = parts_of_key (key 0 0 x.number) (key 0 0 y.number) (sym x.at ∙ (same ∙ y.at)) in
      named_once (numbered given y.number) d.clause e.clause (ap (numbered given) (sym p.2) ∙ x.clause) y.clause
  offered_once given log d e same (inl x) (inr (inl y)) =
      let p = parts_of_key (key 0 0 x.number) e.key (sym x.at ∙ same) in
      let order = y.gives.is_due.order in absurd (omega (arith, p.0, p.1, order))
  offered_once given log d e same (inl x) (inr (inr y)) =
      let p = parts_of_key (key 0 0 x.number) (key y.turn y.turn (length given)) (sym x.at ∙ (same ∙ y.at)) in
      let few = x.no_goal in absurd (omega (arith, p.2, few))
  offered_once given log d e same (inr (inl x)) (inl y) =
      let p = parts_of_key (key 0 0 y.number) d.key (sym y.at ∙ sym same) in
      let order = x.gives.is_due.order in absurd (omega (arith, p.0, p.1, order))
  offered_once given log d e same (inr (inl x)) (inr (inl y)) =
      let p = parts_of_key d.key e.key same in
      let here : Gives log e.key.major e.key.minor (Resolvents x.resolvents) = subst (λ k. Gives log k.major k.minor (Resolvents x.resolvents)) same x.gives in
      let one : Resolvents x.resolvents ≡ Resolvents y.resolvents = gives_once log e.key.major e.key.minor (Resolvents x.resolvents) (Resolvents y.resolvents) here y.gives in
      let list : x.resolvents ≡ y.resolvents = cc in
      named_once (numbered y.resolvents e.key.number) d.clause e.clause (ap (λ cs. numbered cs e.key.number) (sym list) ∙ (ap (numbered x.resolvents) (sym p.2) ∙ x.clause)) y.clause
  offered_once given log d e same (inr (inl x)) (inr (inr y)) =
      let p = parts_of_key (key y.turn y.turn (length given)) d.key (sym y.at ∙ sym same) in
      let order = x.gives.is_due.order in absurd (omega (arith, p.0, p.1, order))
  offered_once given log d e same (inr (inr x)) (inl y) =
      let p = parts_of_key (key 0 0 y.number) (key x.turn x.turn (length given)) (sym y.at ∙ (sym same ∙ x.at)) in
      let few = y.no_goal in absurd (omega (arith, p.2, few))
  offered_once given log d e same (inr (inr x)) (inr (inl y)) =
      let p = parts_of_key (key x.turn x.turn (length given)) e.key (sym x.at ∙ same) in
      let order = y.gives.is_due.order in absurd (omega (arith, p.0, p.1, order))
  offered_once given log d e same (inr (inr x)) (inr (inr y)) =
      named_once (numbered given (length given)) d.clause e.clause x.clause y.clause
