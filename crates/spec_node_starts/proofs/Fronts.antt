-- Fronts of a table.
use Rattle.std.proofs.Common.{◌≡◌, ℕ, zero, suc, ◌<◌, ◌≤◌, Bool, true, false, ◌&&◌, ◌||◌, List, [], ◌∷◌, ◌++◌, length, take, refl, sym, ◌∙◌, ap, arith}
use Rattle.std.specs.List.{list_any}
use Rattle.spec_terms.specs.Term.{Term}
use Rattle.spec_clauses.specs.Fact.{same_term}
use Rattle.spec_clauses.proofs.Equality.{same_term-decides}
use Rattle.spec_node_tables.specs.Nodes.{term_at}
use Rattle.spec_node_faults.specs.Clauses.{is_front}
use Rattle.spec_node_starts.proofs.Runs.{stands_in, run, run_grows}

pub front_take : (ts : List Term) (k : ℕ) → is_front (take k ts) ts ≡ true
front_take [] zero = refl
front_take [] (suc k) = refl
front_take (t ∷ ts) zero = refl
front_take (t ∷ ts) (suc k) = ap (λ b. b && is_front (take k ts) ts) ((same_term-decides t t).1 refl) ∙ front_take ts k

first_true : (a b : Bool) → (a && b) ≡ true → a ≡ true
first_true true b e = refl
first_true false b e = absurd (cc)

second_true : (a b : Bool) → (a && b) ≡ true → b ≡ true
second_true true b e = e
second_true false b e = absurd (cc)

left_front : (xs ys us : List Term) → is_front (xs ++ ys) us ≡ true → is_front xs us ≡ true
left_front [] ys us e = refl
left_front (x ∷ xs) ys [] e = absurd (cc)
left_front (x ∷ xs) ys (u ∷ us) e =
    let here = first_true (same_term x u) (is_front (xs ++ ys) us) e in
    let later = left_front xs ys us (second_true (same_term x u) (is_front (xs ++ ys) us) e) in
    ap (λ b. b && is_front xs us) here ∙ later

not_longer : (xs ys us : List Term) → is_front xs us ≡ false → is_front (xs ++ ys) us ≡ false
not_longer xs ys us e = by (is_front (xs ++ ys) us) refl
  where
    by : (b : Bool) → is_front (xs ++ ys) us ≡ b → b ≡ false
    by false f = refl
    by true f = let never : true ≡ false = sym (left_front xs ys us f) ∙ e in absurd (cc)

-- what is no front stays none
pub run_stays : (before xs us : List Term) → is_front before us ≡ false → is_front (run before xs) us ≡ false
run_stays before xs us e = let grows = run_grows before xs in ap (λ zs. is_front zs us) grows.1 ∙ not_longer before grows.0 us e

-- behind a front the term of another number than the next
pub front_next : (ts : List Term) (c : ℕ) (t : Term) → c ≤ length ts → is_front (take c ts ++ t ∷ []) ts ≡ true → (c < length ts) × (t ≡ term_at ts (suc c))
front_next [] zero t within e = absurd (cc)
front_next [] (suc c) t within e = absurd (omega (arith, within))
front_next (u ∷ ts) zero t within e = (omega arith, (same_term-decides t u).0 (first_true (same_term t u) true e))
front_next (u ∷ ts) (suc c) t within e =
    let later = front_next ts c t (omega (arith, within)) (second_true (same_term u u) (is_front (take c ts ++ t ∷ []) ts) e) in
    (omega (arith, later.0), later.1)

pub take_next : (ts : List Term) (c : ℕ) → c < length ts → take c ts ++ term_at ts (suc c) ∷ [] ≡ take (suc c) ts
take_next [] c below = absurd (omega (arith, below))
take_next (t ∷ ts) zero below = refl
take_next (t ∷ ts) (suc c) below = ap (λ zs. t ∷ zs) (take_next ts c (omega (arith, below)))

-- one of the first so many stands among them
pub stands_at : (ts : List Term) (i c : ℕ) → i < c → i < length ts → stands_in (take c ts) (term_at ts (suc i)) ≡ true
stands_at [] i c less below = absurd (omega (arith, below))
stands_at (t ∷ ts) i zero less below = absurd (omega (arith, less))
stands_at (t ∷ ts) zero (suc c) less below = ap (λ b. b || list_any (same_term t) (take c ts)) ((same_term-decides t t).1 refl)
stands_at (t ∷ ts) (suc i) (suc c) less below = by (stands_at ts i c (omega (arith, less)) (omega (arith, below))) (same_term (term_at ts (suc i)) t)
  where
    by : stands_in (take c ts) (term_at ts (suc i)) ≡ true → (b : Bool) → (b || stands_in (take c ts) (term_at ts (suc i))) ≡ true
    by later true = refl
    by later false = later

-- fewer of them: what doesn't stand among more doesn't among fewer
pub lacks_fewer : (ts : List Term) (c d : ℕ) (t : Term) → c ≤ d → stands_in (take d ts) t ≡ false → stands_in (take c ts) t ≡ false
lacks_fewer ts zero d t le e = refl
lacks_fewer [] (suc c) d t le e = refl
lacks_fewer (u ∷ ts) (suc c) zero t le e = absurd (omega (arith, le))
lacks_fewer (u ∷ ts) (suc c) (suc d) t le e = by (lacks_fewer ts c d t (omega (arith, le))) (same_term t u) e
  where
    by : (stands_in (take d ts) t ≡ false → stands_in (take c ts) t ≡ false) → (b : Bool) → (b || stands_in (take d ts) t) ≡ false → (b || stands_in (take c ts) t) ≡ false
    by fewer true f = f
    by fewer false f = fewer f
