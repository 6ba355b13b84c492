-- A search that takes the events of an alternative in an order of its own.
use Rattle.std.proofs.Common.{◌≡◌, ℕ, zero, suc, ◌+◌, ◌<◌, Bool, true, false, cond, ◌&&◌, ◌||◌, nat_eq, List, [], ◌∷◌, ◌++◌, length, get_or, slice_get, map, Some, refl, sym, ap, ◌∙◌, subst, arith}
use Rattle.std.proofs.lemmas.Bool.{eq-eqb, ne_eqb}
use Rattle.std.specs.List.{list_any}
use Rattle.spec_calculus.specs.Syntax.{EventTerm}
use Rattle.spec_calculus.specs.Values.{Environment}
use Rattle.spec_calculus.specs.Runs.{Performed}
use Rattle.pi_tree.specs.declared.syntax.Atom.{Atom}
use Rattle.pi_tree.specs.Events.{event_of}
use Rattle.query_violations.specs.Alternatives.{is_found, missing_from, missing_of}
use Rattle.query_violations.specs.Correspondences.{bound_by, fits, all_found, IsConsistent}
use Rattle.query_violations.proofs.Picking.{picked, beside-consistent}

-- an index before all of these tells nothing of them
missing-before : (found : List ℕ) (n i : ℕ) (es : List EventTerm) → n < i → missing_from (n ∷ found) i es ≡ missing_from found i es
missing-before found n i [] below = refl
missing-before found n i (e ∷ es) below =
    let other : nat_eq n i ≡ false = ne_eqb n i (λ same. omega arith) in
    ap (λ b. cond (b || is_found found i) (missing_from (n ∷ found) (suc i) es) (e ∷ missing_from (n ∷ found) (suc i) es)) other
    ∙ ap (λ rest. cond (is_found found i) rest (e ∷ rest)) (missing-before found n (suc i) es (omega arith))

-- the missing events, and those without the one at an index
pub record IsTaken (before after : List EventTerm) (t : EventTerm) : Type 0 where
  pub front : List EventTerm
  pub back : List EventTerm
  pub with_it : before ≡ front ++ t ∷ back
  pub without_it : after ≡ front ++ back

taken-after : (b : Bool) (e t : EventTerm) (before after : List EventTerm) → IsTaken before after t → IsTaken (cond b before (e ∷ before)) (cond b after (e ∷ after)) t
taken-after true e t before after h = h
taken-after false e t before after h = record { front = e ∷ h.front; back = h.back; with_it = ap (λ xs. e ∷ xs) h.with_it; without_it = ap (λ xs. e ∷ xs) h.without_it }

missing-taken : (found : List ℕ) (n i k : ℕ) (es : List EventTerm) (t : EventTerm) → n ≡ i + k → slice_get es k ≡ Some t → is_found found n ≡ false → IsTaken (missing_from found i es) (missing_from (n ∷ found) i es) t
missing-taken found n i k [] t at get lacks = cc
missing-taken found n i zero (e ∷ es) t at get lacks =
    let same : n ≡ i = omega arith in
    let is : e ≡ t = cc in
    let here : is_found found i ≡ false = subst (λ (j : ℕ). is_found found j ≡ false) same lacks in
    record {
      front = [];
      back = missing_from found (suc i) es;
      with_it = ap (λ b. cond b (missing_from found (suc i) es) (e ∷ missing_from found (suc i) es)) here ∙ ap (λ x. x ∷ missing_from found (suc i) es) is;
      without_it = ap (λ b. cond (b || is_found found i) (missing_from (n ∷ found) (suc i) es) (e ∷ missing_from (n ∷ found) (suc i) es)) (eq-eqb n i same) ∙ missing-before found n (suc i) es (omega arith);
    }
missing-taken found n i (suc k) (e ∷ es) t at get lacks =
    let other : nat_eq n i ≡ false = ne_eqb n i (λ same. omega arith) in
    let rest = taken-after (is_found found i) e t (missing_from found (suc i) es) (missing_from (n ∷ found) (suc i) es) (missing-taken found n (suc i) k es t (omega arith) get lacks) in
    subst (λ (b : Bool). IsTaken (missing_from found i (e ∷ es)) (cond (b || is_found found i) (missing_from (n ∷ found) (suc i) es) (e ∷ missing_from (n ∷ found) (suc i) es)) t) (sym other) rest

-- where all are found none is missing, and where none is found all are
missing-none : (found : List ℕ) (i : ℕ) (es : List EventTerm) → ((j : ℕ) → j < i + length es → is_found found j ≡ true) → missing_from found i es ≡ []
missing-none found i [] h = refl
missing-none found i (e ∷ es) h =
    ap (λ b. cond b (missing_from found (suc i) es) (e ∷ missing_from found (suc i) es)) (h i (omega arith))
    ∙ missing-none found (suc i) es (λ j within. h j (omega arith))

missing-all : (i : ℕ) (es : List EventTerm) → missing_from [] i es ≡ es
missing-all i [] = refl
missing-all i (e ∷ es) = ap (λ xs. e ∷ xs) (missing-all (suc i) es)

pub event-at : (items : List Atom) (i : ℕ) (x : Atom) → i < length items → x ≡ get_or items i x → slice_get (map event_of items) i ≡ Some (event_of x)
event-at [] i x within at = absurd (omega arith)
event-at (y ∷ items) zero x within at = ap (λ z. Some (event_of z)) (sym at)
event-at (y ∷ items) (suc i) x within at = event-at items i x (omega arith) at

taken-at : (found : List ℕ) (es : List EventTerm) (i : ℕ) (t : EventTerm) → slice_get es i ≡ Some t → is_found found i ≡ false → IsTaken (missing_of found es) (missing_of (i ∷ found) es) t
taken-at found es i t get lacks = missing-taken found i zero i es t (omega arith) get lacks

-- one step of the search
pub search-step : (found : List ℕ) (es : List EventTerm) (i : ℕ) (t : EventTerm) (s : Environment) (performed : List Performed) → IsConsistent s → slice_get es i ≡ Some t → is_found found i ≡ false → list_any (λ p. fits s t p && all_found (missing_of (i ∷ found) es) (bound_by s t p) performed) performed ≡ all_found (missing_of found es) s performed
search-step found es i t s performed consistent get lacks =
    let taken = taken-at found es i t get lacks in
    sym (ap (λ us. all_found us s performed) taken.with_it
    ∙ (picked taken.front taken.back t s performed consistent
    ∙ ap (λ us. list_any (λ p. fits s t p && all_found us (bound_by s t p) performed) performed) (sym taken.without_it)))

fewer-in : (front back : List EventTerm) (t : EventTerm) → length (front ++ back) < length (front ++ t ∷ back)
fewer-in [] back t = omega arith
fewer-in (e ∷ front) back t = omega (arith, fewer-in front back t)

-- fewer are missing after it
pub fewer-missing : (found : List ℕ) (es : List EventTerm) (i : ℕ) (t : EventTerm) → slice_get es i ≡ Some t → is_found found i ≡ false → length (missing_of (i ∷ found) es) < length (missing_of found es)
fewer-missing found es i t get lacks =
    let taken = taken-at found es i t get lacks in
    omega (arith, ap length taken.with_it, ap length taken.without_it, fewer-in taken.front taken.back t)

pub search-end : (found : List ℕ) (es : List EventTerm) (s : Environment) (performed : List Performed) → ((j : ℕ) → j < length es → is_found found j ≡ true) → all_found (missing_of found es) s performed ≡ true
search-end found es s performed h = ap (λ us. all_found us s performed) (missing-none found zero es (λ j within. h j (omega arith)))

pub search-start : (es : List EventTerm) (s : Environment) (performed : List Performed) → all_found (missing_of [] es) s performed ≡ all_found es s performed
search-start es s performed = ap (λ us. all_found us s performed) (missing-all zero es)

pub ruleset of_items = (event-at)

pub ruleset of_search = (search-step, fewer-missing, search-end, search-start, beside-consistent)
