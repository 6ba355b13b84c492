-- The places of entries in a log: the entry of number m has a key whose major is less than m.
use Rattle.std.proofs.Common.{◌≡◌, ◌∙◌, ℕ, zero, suc, ◌<◌, ◌≤◌, Bool, true, false, cond, Some, List, [], ◌∷◌, ◌++◌, length, refl, ap, sym, subst, inl, inr, arith}
use Rattle.std.specs.Prelude.{slice_get}
use Rattle.spec_terms.specs.Term.{Term}
use Rattle.spec_calculus.specs.Points.{numbered}
use Rattle.spec_clauses.specs.Fact.{Clause}
use Rattle.spec_clauses.specs.Inclusion.{here, Has}
use Rattle.spec_clauses.proofs.Inclusion.{Has-append_right}
use Rattle.spec_saturation.specs.Key.{Key, key, is_before, Entry, below}
use Rattle.spec_saturation.specs.Log.{IsOffered, IsNew, goal_key}
use Rattle.spec_saturation.specs.End.{AreSorted}
use Rattle.spec_saturation.proofs.Keys.{parts_of_key}
use Rattle.spec_saturation.proofs.Cuts.{below_before, below_entry, sorted_front, sorted_rest}

-- the list in front of an item at a place, and behind it
pub record At {X : Type 0} (xs : List X) (k : ℕ) (x : X) : Type 0 where
  pub front : List X
  pub rest : List X
  pub is : xs ≡ front ++ x ∷ rest
  pub count : length front ≡ k

pub at_place : {X : Type 0} (xs : List X) (k : ℕ) (x : X) → slice_get xs k ≡ Some x → At xs k x
at_place [] k x e = cc
at_place (y ∷ xs) zero x e = let same : y ≡ x = cc in record { front = []; rest = xs; is = ap (λ z. z ∷ xs) same; count = refl }
at_place (y ∷ xs) (suc k) x e =
    let a = at_place xs k x e in let count = a.count in
    record { front = y ∷ a.front; rest = a.rest; is = ap (λ zs. y ∷ zs) a.is; count = ap (λ n. suc n) count }

-- an item of a list at a place
pub numbered_within : {X : Type 0} (xs : List X) (n : ℕ) (x : X) → numbered xs n ≡ Some x → (0 < n) × (n ≤ length xs)
numbered_within xs zero x e = cc
numbered_within xs (suc k) x e = (omega arith, within xs k x e)
  where
    within : {X : Type 0} (ys : List X) (k : ℕ) (y : X) → slice_get ys k ≡ Some y → suc k ≤ length ys
    within [] k y e = cc
    within (z ∷ ys) zero y e = omega arith
    within (z ∷ ys) (suc k) y e = let h = within ys k y e in omega arith

-- as many entries stand below the key of an entry as its place tells; so its major is at most that
offered_major : (given : List (Clause Term)) (entries : List Entry) (e : Entry) → below e.key entries ≡ entries → IsOffered given entries e → e.key.major ≤ length entries
offered_major given entries e same (inl x) =
    let p = parts_of_key e.key (key 0 0 x.number) x.at in omega (arith, p.0)
offered_major given entries e same (inr (inl x)) =
    let due = x.gives.is_due in
    let bound = below_length (key e.key.major e.key.minor 1) entries in
    elim due.live as (λ _. e.key.major ≤ length entries) [
      | inl both ↦ (let w = numbered_within (below (key e.key.major e.key.minor 1) entries) e.key.major both.1.entry both.1.at in omega (arith, w.1, bound))
      | inr both ↦ (let w = numbered_within (below (key e.key.major e.key.minor 1) entries) e.key.major both.0.entry both.0.at in omega (arith, w.1, bound))
    ]
  where
    below_length : (k : Key) (es : List Entry) → length (below k es) ≤ length es
    below_length k [] = omega arith
    below_length k (x ∷ xs) = go (is_before x.key k) (below_length k xs) where
      go : (b : Bool) → length (below k xs) ≤ length xs → length (cond b (x ∷ below k xs) (below k xs)) ≤ length (x ∷ xs)
      go true h = omega arith
      go false h = omega arith
offered_major given entries e same (inr (inr x)) =
    let p = parts_of_key e.key (goal_key given x.turn) x.at in
    let count : length (below e.key entries) ≡ x.turn = ap (λ k. length (below k entries)) x.at ∙ x.ends in
    let size : length (below e.key entries) ≡ length entries = ap length same in
    omega (arith, p.0, count, size)

-- The entry of number m has a major less than m.
pub major_early : (given : List (Clause Term)) (log : List Entry) → AreSorted log → ((e : Entry) → Has log e → IsNew given log e) → (m : ℕ) (e : Entry) → numbered log m ≡ Some e → e.key.major < m
major_early given log sorted sound zero e at = cc
major_early given log sorted sound (suc k) e at =
    let a = at_place log k e at in
    let sorted_split : AreSorted (a.front ++ e ∷ a.rest) = subst AreSorted a.is sorted in
    let listed : Has log e = subst (λ es. Has es e) (sym a.is) (Has-append_right a.front (e ∷ a.rest) e (a.rest, here)) in
    let before = sorted_front a.front e a.rest sorted_split in
    let front : below e.key log ≡ a.front = ap (below e.key) a.is ∙ below_entry a.front e a.rest before (sorted_rest a.front e a.rest sorted_split) in
    let offered = subst (λ es. IsOffered given es e) front (sound e listed).offered in
    let le = offered_major given a.front e (below_before e.key a.front before) offered in
    let count = a.count in
    omega (arith, le, count)
