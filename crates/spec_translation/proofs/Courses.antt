-- Courses that have the same outcomes, one combinator at a time.
use Rattle.std.proofs.Common.{◌≡◌, ◌∙◌, ℕ, zero, suc, Bool, true, false, ◌||◌, Option, Some, None, List, [], ◌∷◌, refl, ap, sym, subst}
use Rattle.spec_terms.specs.Term.{Term}
use Rattle.spec_clauses.specs.Fact.{Clause}
use Rattle.spec_translation.specs.Visit.{Visit, is_large_visit}
use Rattle.spec_translation.specs.Course.{Outcome, Done, TooLarge, Course, Finished, Counted, Unless, preceded, After, Then, Adds}
use Rattle.spec_translation.specs.Visited.{some_large, EachThen}
use Rattle.spec_translation.proofs.Visits.{AreAlike, alike_led_back, large_visit-back}
use Rattle.spec_translation.proofs.Choices.{AllGoAlike}

-- each outcome of the one is each outcome of the other
abbrev pub SameEnds : Course → Course → Type 0
SameEnds R S = (left : ℕ) (a b : Outcome) → R left a → S left b → a ≡ b

pub finished_same : SameEnds Finished Finished
finished_same left a b x y = x ∙ sym y

pub counted_same : (point : ℕ) (R S : Course) → SameEnds R S → SameEnds (Counted point R) (Counted point S)
counted_same point R S same zero a b x y = x ∙ sym y
counted_same point R S same (suc left) a b x y = same left a b x y

pub unless_same : (t u : Bool) (point : ℕ) (R S : Course) → t ≡ u → SameEnds R S → SameEnds (Unless t point R) (Unless u point S)
unless_same true true point R S e same left a b x y = x ∙ sym y
unless_same true false point R S e same left a b x y = cc
unless_same false true point R S e same left a b x y = cc
unless_same false false point R S e same left a b x y = same left a b x y

pub after_same : (out : Outcome) (R S : Course) → SameEnds R S → (a b : Outcome) → After out R a → After out S b → a ≡ b
after_same (Done clauses left) R S same a b x y =
    x.2 ∙ (ap (preceded clauses) (same left x.0 y.0 x.1 y.1) ∙ sym y.2)
after_same (TooLarge point) R S same a b x y = x ∙ sym y

pub then_same : (R S T U : Course) → SameEnds R S → SameEnds T U → SameEnds (Then R T) (Then S U)
then_same R S T U first last left a b x y =
    after_same y.0 T U last a b (subst (λ out. After out T a) (first left x.0 y.0 x.1 y.1) x.2) y.2

pub adds_same : (cs ds : List (Clause Term)) (R S : Course) → cs ≡ ds → SameEnds R S → SameEnds (Adds cs R) (Adds ds S)
adds_same cs ds R S e same left a b x y =
    after_same (Done ds left) R S same a b (subst (λ es. After (Done es left) R a) e x) y

-- visits that go on alike are large alike
pub some_large_alike : (os ps : List (Option Visit)) → AllGoAlike os ps → some_large os ≡ some_large ps
some_large_alike [] [] a = refl
some_large_alike [] (p ∷ ps) a = absurd a
some_large_alike (o ∷ os) [] a = absurd a
some_large_alike (None ∷ os) (None ∷ ps) a = some_large_alike os ps a.1
some_large_alike (None ∷ os) (Some w ∷ ps) a = absurd a.0
some_large_alike (Some v ∷ os) (None ∷ ps) a = absurd a.0
some_large_alike (Some v ∷ os) (Some w ∷ ps) a =
    let first : is_large_visit v ≡ is_large_visit w = sym (ap is_large_visit (sym a.0.there) ∙ large_visit-back a.0.by a.0.back v (alike_led_back v w a.0)) in
    let others = some_large_alike os ps a.1 in λ i. first i || others i

pub each_same : (R S : Visit → ℕ → Outcome → Type 0) (T U : Course) → ((v w : Visit) → AreAlike v w → SameEnds (R v) (S w)) → SameEnds T U → (os ps : List (Option Visit)) → AllGoAlike os ps → SameEnds (EachThen R os T) (EachThen S ps U)
each_same R S T U each last [] [] a = last
each_same R S T U each last [] (p ∷ ps) a = absurd a
each_same R S T U each last (o ∷ os) [] a = absurd a
each_same R S T U each last (None ∷ os) (None ∷ ps) a = each_same R S T U each last os ps a.1
each_same R S T U each last (None ∷ os) (Some w ∷ ps) a = absurd a.0
each_same R S T U each last (Some v ∷ os) (None ∷ ps) a = absurd a.0
each_same R S T U each last (Some v ∷ os) (Some w ∷ ps) a =
    then_same (R v) (S w) (EachThen R os T) (EachThen S ps U) (each v w a.0) (each_same R S T U each last os ps a.1)
