-- Walks over entries: which of them a clause beats.
use Rattle.std.proofs.Common.{◌≡◌, ◌⊎◌, ◌∙◌, ◌||◌, ℕ, zero, suc, ◌+◌, ◌-◌, ◌<◌, ◌≤◌, Bool, true, false, Some, List, [], ◌∷◌, length, get_or, set, drop, MatchBool, refl, ap, sym, subst, inl, inr, arith}
use Rattle.std.specs.Prelude.{slice_get}
use Rattle.std.proofs.lemmas.List.{set-get_or, length-map, drop_more}
use Rattle.spec_trees.proofs.Occurrence.{or_false}
use Rattle.spec_terms.specs.Term.{Term}
use Rattle.spec_clauses.specs.Fact.{Clause}
use Rattle.spec_clauses.specs.Subsumption.{Subsumes}
use Rattle.clause_form.specs.Seen.{clause_at, IsClauseIn, AreClausesIn, IdClause}
use Rattle.log_entries.specs.declared.log.Entry.{Entry}
use Rattle.clause_form.specs.Fit.{IsFit, AreFit}
use Rattle.log_entries.specs.Beating.{clauses_of, BeatsLive, IsMarked, AreMarked}
use Rattle.log_entries.specs.Live.{AreBeatable}
use Rattle.log_entries.specs.Numbers.{IsAmong}
use Rattle.log_entries.proofs.Numbers.{place_among}

-- what a test tells
pub when_true : (P Q : Type 0) (b : Bool) → b ≡ true → MatchBool b P Q → P
when_true P Q true e h = h
when_true P Q false e h = cc

pub when_false : (P Q : Type 0) (b : Bool) → b ≡ false → MatchBool b P Q → Q
when_false P Q true e h = cc
when_false P Q false e h = h

pub got_at : (all : List Term) (es : List Entry) (i : ℕ) (d : Entry) → AreFit all (clauses_of es) → i < length es → IsFit all (get_or es i d).clause
got_at all [] i d fit within = absurd (omega arith)
got_at all (e ∷ es) zero d fit within = fit.0
got_at all (e ∷ es) (suc i) d fit within = got_at all es i d fit.1 (omega arith)

-- an entry among fit ones is fit
pub fit_at : (all : List Term) (es : List Entry) (i : ℕ) (e : Entry) → e ≡ get_or es i e → AreFit all (clauses_of es) → i < length es → IsFit all e.clause
fit_at all es i e is fit within = subst (λ (x : Entry). IsFit all x.clause) (sym is) (got_at all es i e fit within)

-- each entry, the first of which has the number n, is marked, or as it was and among those left if the clause beats it
abbrev pub IsMarkedBut : List Term → Clause Term → ℕ → List ℕ → ℕ → Entry → Entry → Type 0
IsMarkedBut all c number left n d e = IsMarked all c number d e ⊎ ((e ≡ d) × (BeatsLive all c d → IsAmong left n))

abbrev pub AreMarkedBut : List Term → Clause Term → ℕ → List ℕ → ℕ → List Entry → List Entry → Type 0
AreMarkedBut all c number left n [] [] = Unit {0}
AreMarkedBut all c number left n [] (e ∷ es) = ⊥
AreMarkedBut all c number left n (d ∷ ds) [] = ⊥
AreMarkedBut all c number left n (d ∷ ds) (e ∷ es) = IsMarkedBut all c number left n d e × AreMarkedBut all c number left (suc n) ds es

-- their clauses are the same
pub but_clauses : (all : List Term) (c : Clause Term) (number : ℕ) (left : List ℕ) (n : ℕ) (olds news : List Entry) → AreMarkedBut all c number left n olds news → clauses_of news ≡ clauses_of olds
but_clauses all c number left n [] [] h = refl
but_clauses all c number left n [] (e ∷ es) h = absurd h
but_clauses all c number left n (d ∷ ds) [] h = absurd h
but_clauses all c number left n (d ∷ ds) (e ∷ es) h =
    let first : e.clause ≡ d.clause = elim h.0 as (λ _. e.clause ≡ d.clause) [
      | inl mark ↦ mark.clause
      | inr same ↦ ap (λ (x : Entry). x.clause) same.0
    ] in
    ap (λ x. x ∷ clauses_of es) first ∙ ap (λ xs. d.clause ∷ xs) (but_clauses all c number left (suc n) ds es h.1)

pub but_length : (all : List Term) (c : Clause Term) (number : ℕ) (left : List ℕ) (olds news : List Entry) → AreMarkedBut all c number left 1 olds news → length news ≡ length olds
but_length all c number left olds news h = sym (length-map news (λ e. e.clause)) ∙ (ap length (but_clauses all c number left 1 olds news h) ∙ length-map olds (λ e. e.clause))

pub but_fit : (all : List Term) (c : Clause Term) (number : ℕ) (left : List ℕ) (olds news : List Entry) → AreMarkedBut all c number left 1 olds news → AreFit all (clauses_of olds) → AreFit all (clauses_of news)
but_fit all c number left olds news h fit = subst (AreFit all) (sym (but_clauses all c number left 1 olds news h)) fit

-- before any is marked, all that the clause beats are left
pub none_yet : (all : List Term) (c : Clause Term) (number : ℕ) (left : List ℕ) (es : List Entry) → AreBeatable all es c left → AreMarkedBut all c number left 1 es es
none_yet all c number left es h = go 1 es (λ k x at beats. let next : suc k ≡ 1 + k = omega arith in subst (λ m. IsAmong left m) next (h.every (suc k) x at beats))
  where
    go : (n : ℕ) (xs : List Entry) → ((k : ℕ) (x : Entry) → slice_get xs k ≡ Some x → BeatsLive all c x → IsAmong left (n + k)) → AreMarkedBut all c number left n xs xs
    go n [] h = tt
    go n (x ∷ xs) h =
        let here : n + 0 ≡ n = omega arith in
        (inr (refl, λ beats. subst (λ m. IsAmong left m) here (h 0 x refl beats)), go (suc n) xs (λ k y at beats. let next : n + suc k ≡ suc n + k = omega arith in subst (λ m. IsAmong left m) next (h (suc k) y at beats)))

-- an entry that is marked twice is marked
marked_twice : (all : List Term) (c : Clause Term) (number : ℕ) (d m e : Entry) → IsMarked all c number d m → IsMarked all c number m e → IsMarked all c number d e
marked_twice all c number d m e one two = record {
  clause = two.clause ∙ one.clause;
  origin = two.origin ∙ one.origin;
  by = elim one.by as (λ _. (BeatsLive all c d × (e.by ≡ Some number)) ⊎ ((BeatsLive all c d → ⊥) × (e.by ≡ d.by))) [
    | inl beaten ↦ inl (
      beaten.0,
      elim two.by as (λ _. e.by ≡ Some number) [
        | inl again ↦ again.1
        | inr still ↦ still.1 ∙ beaten.1
      ],
    )
    | inr unbeaten ↦ inr (
      unbeaten.0,
      elim two.by as (λ _. e.by ≡ d.by) [
        | inl again ↦ absurd (unbeaten.0 (sym unbeaten.1 ∙ again.0.0, subst (λ (x : IdClause). Subsumes c (clause_at all x)) one.clause again.0.1))
        | inr still ↦ still.1 ∙ unbeaten.1
      ],
    )
  ];
}

-- an entry that isn't the next one that is marked
one_passed : (all : List Term) (c : Clause Term) (number m : ℕ) (rest : List ℕ) (n : ℕ) (d e : Entry) → (m ≡ n → ⊥) → IsMarkedBut all c number (m ∷ rest) n d e → IsMarkedBut all c number rest n d e
one_passed all c number m rest n d e other (inl mark) = inl mark
one_passed all c number m rest n d e other (inr same) = inr (
  same.0,
  λ beats. elim (same.1 beats) as (λ _. IsAmong rest n) [
    | inl next ↦ absurd (other next)
    | inr later ↦ later
  ],
)

all_passed : (all : List Term) (c : Clause Term) (number m : ℕ) (rest : List ℕ) (n : ℕ) (olds news : List Entry) → m < n → AreMarkedBut all c number (m ∷ rest) n olds news → AreMarkedBut all c number rest n olds news
all_passed all c number m rest n [] [] past h = tt
all_passed all c number m rest n [] (e ∷ es) past h = absurd h
all_passed all c number m rest n (d ∷ ds) [] past h = absurd h
all_passed all c number m rest n (d ∷ ds) (e ∷ es) past h = (one_passed all c number m rest n d e (λ same. omega (arith, same, past)) h.0, all_passed all c number m rest (suc n) ds es (omega (arith, past)) h.1)

-- the next one of those that are left is marked
marked_next : (all : List Term) (c : Clause Term) (number m : ℕ) (rest : List ℕ) (n i : ℕ) (olds news : List Entry) (d e : Entry) → n + i ≡ m → i < length news → AreMarkedBut all c number (m ∷ rest) n olds news → IsMarked all c number (get_or news i d) e → AreMarkedBut all c number rest n olds (set news i e)
marked_next all c number m rest n i [] [] d e is within h mark = absurd (omega (arith, within))
marked_next all c number m rest n i [] (x ∷ news) d e is within h mark = absurd h
marked_next all c number m rest n i (o ∷ olds) [] d e is within h mark = absurd h
marked_next all c number m rest n zero (o ∷ olds) (x ∷ news) d e is within h mark = (
  inl (elim h.0 as (λ _. IsMarked all c number o e) [
    | inl before ↦ marked_twice all c number o x e before mark
    | inr same ↦ subst (λ (y : Entry). IsMarked all c number y e) same.0 mark
  ]),
  all_passed all c number m rest (suc n) olds news (omega (arith, is)) h.1,
)
marked_next all c number m rest n (suc i) (o ∷ olds) (x ∷ news) d e is within h mark = (
  one_passed all c number m rest n o x (λ same. omega (arith, same, is)) h.0,
  marked_next all c number m rest (suc n) i olds news d e (omega (arith, is)) (omega (arith, within)) h.1 mark,
)

pub marked_on : (all : List Term) (c : Clause Term) (number : ℕ) (numbers : List ℕ) (k : ℕ) (olds news : List Entry) (d e : Entry) → k < length numbers → (0 < get_or numbers k 0) × (get_or numbers k 0 ≤ length news) → AreMarkedBut all c number (drop k numbers) 1 olds news → IsMarked all c number (get_or news (get_or numbers k 0 - 1) d) e
    → AreMarkedBut all c number (drop (k + 1) numbers) 1 olds (set news (get_or numbers k 0 - 1) e)
marked_on all c number numbers k olds news d e more within h mark =
    let m = get_or numbers k 0 in
    let some = within.0 in
    let few = within.1 in
    marked_next all c number m (drop (k + 1) numbers) 1 (m - 1) olds news d e (omega (arith, some)) (omega (arith, some, few))
    (subst (λ left. AreMarkedBut all c number left 1 olds news) (drop_more numbers k 0 more) h) mark

-- where none is marked, none is changed
pub none_marked : (es olds : List Entry) (i : ℕ) (d e : Entry) (some marked : Bool) → (marked ≡ false → e ≡ get_or es i d) → (some ≡ false → es ≡ olds) → (some || marked) ≡ false → set es i e ≡ olds
none_marked es olds i d e some marked one before none =
    let both = or_false some marked none in
    ap (set es i) (one both.1) ∙ (set-get_or es i d ∙ before both.0)

-- where none is left, all are marked
pub marked_all : (all : List Term) (c : Clause Term) (number : ℕ) (numbers : List ℕ) (k : ℕ) (olds news : List Entry) → length numbers ≤ k → AreMarkedBut all c number (drop k numbers) 1 olds news → AreMarked all c number olds news
marked_all all c number numbers k olds news past h = go 1 olds news (subst (λ left. AreMarkedBut all c number left 1 olds news) (none_left numbers k past) h)
  where
    none_left : (ns : List ℕ) (k : ℕ) → length ns ≤ k → drop k ns ≡ []
    none_left [] zero past = refl
    none_left [] (suc k) past = refl
    none_left (m ∷ ns) zero past = absurd (omega (arith, past))
    none_left (m ∷ ns) (suc k) past = none_left ns k (omega (arith, past))

    one : (n : ℕ) (d e : Entry) → IsMarkedBut all c number [] n d e → IsMarked all c number d e
    one n d e (inl mark) = mark
    one n d e (inr same) = record { clause = ap (λ (x : Entry). x.clause) same.0; origin = ap (λ (x : Entry). x.origin) same.0; by = inr (same.1, ap (λ (x : Entry). x.by) same.0) }

    go : (n : ℕ) (olds news : List Entry) → AreMarkedBut all c number [] n olds news → AreMarked all c number olds news
    go n [] [] h = tt
    go n [] (e ∷ es) h = absurd h
    go n (d ∷ ds) [] h = absurd h
    go n (d ∷ ds) (e ∷ es) h = (one n d e h.0, go (suc n) ds es h.1)

-- marked entries have the same clauses
pub marked_clauses : (all : List Term) (c : Clause Term) (number : ℕ) (olds news : List Entry) → AreMarked all c number olds news → clauses_of news ≡ clauses_of olds
marked_clauses all c number [] [] m = refl
marked_clauses all c number [] (e ∷ es) m = absurd m
marked_clauses all c number (d ∷ ds) [] m = absurd m
marked_clauses all c number (d ∷ ds) (e ∷ es) m = ap (λ x. x ∷ clauses_of es) m.0.clause ∙ ap (λ xs. d.clause ∷ xs) (marked_clauses all c number ds es m.1)

-- an entry among those whose ids name trees
pub known_entry : (all : List Term) (es : List Entry) (i : ℕ) (e : Entry) → e ≡ get_or es i e → AreClausesIn all (clauses_of es) → i < length es → IsClauseIn all e.clause
known_entry all [] i e is known within = absurd (omega arith)
known_entry all (d ∷ es) zero e is known within = subst (λ (x : Entry). IsClauseIn all x.clause) (sym is) known.0
known_entry all (d ∷ es) (suc i) e is known within = known_entry all es i e is known.1 (omega arith)

-- each is the number of an entry
pub number_there : (all : List Term) (es : List Entry) (c : Clause Term) (numbers : List ℕ) (k : ℕ) → AreBeatable all es c numbers → k < length numbers → (0 < get_or numbers k 0) × (get_or numbers k 0 ≤ length es)
number_there all es c numbers k h more = h.within (get_or numbers k 0) (place_among numbers k 0 more)
