-- Marks for the keys of facts, with one fact more; and facts from a place on, that have marks and are different.
use Rattle.std.proofs.Common.{◌≡◌, ℕ, zero, suc, ◌+◌, ◌-◌, ◌^◌, ◌<◌, ◌≤◌, Bool, true, false, not, ◌&&◌, ◌||◌, List, [], ◌∷◌, length, map, take, drop, get_or, slice_set, refl, ap, sym, ◌∙◌, arith}
use Rattle.std.proofs.lemmas.Bool.{false≢true}
use Rattle.std.proofs.lemmas.List.{length-set, get_or-set_same, take_rest}
use Rattle.std.proofs.lemmas.Simd.{map-map}
use Rattle.spec_terms.specs.Term.{Term}
use Rattle.spec_clauses.specs.Fact.{Fact, same_fact, is_among}
use Rattle.spec_clauses.proofs.Equality.{same_fact-decides}
use Rattle.clause_form.specs.declared.facts.Fact as declared
use Rattle.clause_form.specs.Facts.{fact_of}
use Rattle.clause_form.specs.Seen.{fact_at}
use Rattle.clause_form.specs.Keys.{mixed, fact_key}
use Rattle.clause_form.specs.Marks.{first_place, second_place, is_marked, marked, HaveMarks}
use Rattle.clause_form.specs.Normality.{are_different}
use Rattle.clause_form.proofs.Comparing.{map_drop}
use Rattle.clause_form.proofs.Testing.{different_on}

-- a mark stays
set_keeps : (xs : List Bool) (i j : ℕ) → get_or xs j false ≡ true → get_or (slice_set xs i true) j false ≡ true
set_keeps [] i j e = e
set_keeps (x ∷ xs) zero zero e = refl
set_keeps (x ∷ xs) zero (suc j) e = e
set_keeps (x ∷ xs) (suc i) zero e = e
set_keeps (x ∷ xs) (suc i) (suc j) e = set_keeps xs i j e

both_true : (a b : Bool) → (a && b) ≡ true → (a ≡ true) × (b ≡ true)
both_true true b e = (refl, e)
both_true false b e = absurd (false≢true e)

are_both : (a b : Bool) → a ≡ true → b ≡ true → (a && b) ≡ true
are_both a b e f = ap (λ c. c && b) e ∙ f

set_both : (xs : List Bool) (i j k : ℕ) → get_or xs k false ≡ true → get_or (slice_set (slice_set xs i true) j true) k false ≡ true
set_both xs i j k e = set_keeps (slice_set xs i true) j k (set_keeps xs i k e)

still_marked : (marks : List Bool) (key other : ℕ) → is_marked marks other ≡ true → is_marked (marked marks key) other ≡ true
still_marked marks key other e =
    let both = both_true (get_or marks (first_place other) false) (get_or marks (second_place other) false) e in
    are_both (get_or (marked marks key) (first_place other) false) (get_or (marked marks key) (second_place other) false)
    (set_both marks (first_place key) (second_place key) (first_place other) both.0)
    (set_both marks (first_place key) (second_place key) (second_place other) both.1)

mixed_fits : (key n : ℕ) → mixed key n < 2 ^ 64
unfolding mixed
mixed_fits key n = omega arith

first_fits : (key : ℕ) → first_place key < 32768
first_fits key = omega (arith, mixed_fits key 0)

second_fits : (key : ℕ) → second_place key < 32768
second_fits key = omega arith

now_marked : (marks : List Bool) (key : ℕ) → length marks ≡ 32768 → is_marked (marked marks key) key ≡ true
now_marked marks key room =
    let longer = length-set marks (first_place key) true in
    are_both (get_or (marked marks key) (first_place key) false) (get_or (marked marks key) (second_place key) false)
    (set_keeps (slice_set marks (first_place key) true) (second_place key) (first_place key) (get_or-set_same marks (first_place key) true false (omega (arith, room, first_fits key))))
    (get_or-set_same (slice_set marks (first_place key) true) (second_place key) true false (omega (arith, room, longer, second_fits key)))

pub length-marked : (marks : List Bool) (key : ℕ) → length (marked marks key) ≡ length marks
length-marked marks key = length-set (slice_set marks (first_place key) true) (second_place key) true ∙ length-set marks (first_place key) true

was_unmarked : (marks : List Bool) (key other : ℕ) (b : Bool) → is_marked marks other ≡ b → is_marked (marked marks key) other ≡ false → is_marked marks other ≡ false
was_unmarked marks key other true e none = absurd (false≢true (sym none ∙ still_marked marks key other e))
was_unmarked marks key other false e none = e

-- a fact whose key isn't marked is no fact whose key is
other_fact : (marks : List Bool) (f g : Fact Term) (b : Bool) → same_fact g f ≡ b → is_marked marks (fact_key f) ≡ true → is_marked marks (fact_key g) ≡ false → same_fact g f ≡ false
other_fact marks f g false e here none = e
other_fact marks f g true e here none = absurd (false≢true (sym none ∙ (ap (λ h. is_marked marks (fact_key h)) ((same_fact-decides g f).0 e) ∙ here)))

pub have_marks_on : (f : Fact Term) (facts : List (Fact Term)) (key : ℕ) (marks new : List Bool) → length marks ≡ 32768 → key ≡ fact_key f → new ≡ marked marks key → HaveMarks facts marks → HaveMarks (f ∷ facts) new
have_marks_on f facts key marks new room is e have g none =
    let unmarked : is_marked (marked marks key) (fact_key g) ≡ false = ap (λ l. is_marked l (fact_key g)) (sym e) ∙ none in
    let here : is_marked (marked marks key) (fact_key f) ≡ true = ap (is_marked (marked marks key)) (sym is) ∙ now_marked marks key room in
    ap (λ b. b || is_among facts g) (other_fact (marked marks key) f g (same_fact g f) refl here unmarked)
    ∙ have g (was_unmarked marks key (fact_key g) (is_marked marks (fact_key g)) refl unmarked)

-- none is among none
pub have_marks_none : (facts : List (Fact Term)) (marks : List Bool) → facts ≡ [] → HaveMarks facts marks
have_marks_none facts marks is g none = ap (λ l. is_among l g) is

-- a fact whose key isn't marked isn't among these
pub among_marked : (facts : List (Fact Term)) (f : Fact Term) (key : ℕ) (marks : List Bool) (b : Bool) → HaveMarks facts marks → key ≡ fact_key f → b ≡ is_marked marks key → b ≡ false → false ≡ is_among facts f
among_marked facts f key marks b have is told none = sym (have f (ap (is_marked marks) (sym is) ∙ (sym told ∙ none)))

-- Facts of a bank from a place on: they have marks,
pub later_marked : (all : List Term) (fs : List declared.Fact) (i : ℕ) (marks : List Bool) → HaveMarks (map (λ h. fact_at all (fact_of h)) (drop i fs)) marks → HaveMarks (map (fact_at all) (map fact_of (take (length fs - i) (drop i fs)))) marks
later_marked all fs i marks have g none =
    ap (λ l. is_among (map (fact_at all) (map fact_of l)) g) (take_rest fs i) ∙ (ap (λ l. is_among l g) (map-map (fact_at all) fact_of (drop i fs)) ∙ have g none)

-- with the fact before them as well,
pub marked_from : (all : List Term) (fs : List declared.Fact) (at i : ℕ) (f : declared.Fact) (key : ℕ) (marks new : List Bool) → i ≡ at + 1 → at < length fs → f ≡ get_or fs at f → length marks ≡ 32768 → key ≡ fact_key (fact_at all (fact_of f)) → new ≡ marked marks key
    → HaveMarks (map (λ h. fact_at all (fact_of h)) (drop i fs)) marks → HaveMarks (map (λ h. fact_at all (fact_of h)) (drop at fs)) new
marked_from all fs at i f key marks new next within is room key_is made have =
    let seen : declared.Fact → Fact Term = λ h. fact_at all (fact_of h) in
    let split : map seen (drop at fs) ≡ seen f ∷ map seen (drop i fs) =
    map_drop seen fs at f within ∙ (ap (λ h. seen h ∷ map seen (drop (at + 1) fs)) (sym is) ∙ ap (λ n. seen f ∷ map seen (drop n fs)) (sym next)) in
    λ g none. ap (λ l. is_among l g) split ∙ have_marks_on (seen f) (map seen (drop i fs)) key marks new room key_is made have g none

-- and are different where they were, and it is none of them.
pub different_from : (all : List Term) (fs : List declared.Fact) (at i : ℕ) (f : declared.Fact) (among : Bool) → i ≡ at + 1 → at < length fs → f ≡ get_or fs at f → among ≡ is_among (map (fact_at all) (map fact_of (take (length fs - i) (drop i fs)))) (fact_at all (fact_of f))
    → are_different (map (λ h. fact_at all (fact_of h)) (drop at fs)) ≡ (not among && are_different (map (λ h. fact_at all (fact_of h)) (drop i fs)))
different_from all fs at i f among next within is told =
    different_on all fs at f among within is (told ∙ ap (λ n. is_among (map (fact_at all) (map fact_of (take (length fs - n) (drop n fs)))) (fact_at all (fact_of f))) next)
    ∙ ap (λ n. not among && are_different (map (λ h. fact_at all (fact_of h)) (drop n fs))) (sym next)

and_false : (b : Bool) → (b && false) ≡ false
and_false true = refl
and_false false = refl

-- Where those behind a place aren't different, all aren't.
pub not_different : {X : Type 0} (seen : X → Fact Term) (fs : List X) (i : ℕ) → are_different (map seen (drop i fs)) ≡ false → are_different (map seen fs) ≡ false
not_different seen fs zero e = e
not_different seen [] (suc i) e = e
not_different seen (f ∷ fs) (suc i) e = ap (λ b. not (is_among (map seen fs) (seen f)) && b) (not_different seen fs i e) ∙ and_false (not (is_among (map seen fs) (seen f)))

-- Where those from the first on are different, all are.
pub all_different : (all : List Term) (fs : List declared.Fact) (i : ℕ) → i ≤ 0 → are_different (map (λ h. fact_at all (fact_of h)) (drop i fs)) ≡ true → true ≡ are_different (map (fact_at all) (map fact_of fs))
all_different all fs zero past e = sym (ap are_different (map-map (fact_at all) fact_of fs) ∙ e)
all_different all fs (suc i) past e = absurd (omega arith)
