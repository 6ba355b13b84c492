-- Since when a query is violated.
use Rattle.std.proofs.Common.{◌≡◌, ℕ, ◌+◌, ◌<◌, ◌≤◌, List, [], ◌∷◌, ◌++◌, length, take, drop, refl, sym, ◌∙◌, ap, subst, arith, inl, inr, Bool, true, false, IsTrue, ◌↔◌, Option, Some, None}
use Rattle.std.specs.Prelude.{option_and_then}
use Rattle.std.proofs.lemmas.Bool.{cases_lt}
use Rattle.std.proofs.lemmas.List.{take-append-drop, length-take-le}
use Rattle.spec_calculus.specs.Points.{numbered}
use Rattle.run_replay.specs.Reached.{IsDoneSomewhere, TellsViolation, IsViolatedAtEnd, TellsFirst, IsOpenAfterEach}
use Rattle.spec_calculus.specs.Syntax.{Protocol, Query}
use Rattle.spec_calculus.specs.Runs.{Configuration, Step, start, after_steps, run}
use Rattle.spec_calculus.specs.Secrecy.{IsViolated, IsOpen}
use Rattle.spec_calculus.specs.Refusals.{Refusal}
use Rattle.run_replay.specs.Replay.{IsRefusedAt, IsFirstRefused, IsDone, IsViolatedAfter, IsFirstViolation, AreFirstViolations, Replay, Done, Stuck, IsReplayOf}
use Rattle.spec_calculus.proofs.Points.{numbered-add-one, there-numbered}
use Rattle.run_replay.proofs.Applying.{take_next, some_one, fronts_reach, after_steps-append, take_front, take_all_of, refused_in_front, refused_once}

-- steps leave violated what is violated while the query is open, and it is after each number of these
abbrev pub Stays : Protocol → List Step → Query → Type 0
Stays P steps q =
    ((c d : Configuration) (more : List Step) → after_steps P c more ≡ Some d → IsOpen q d → IsViolated q c → IsViolated q d) × IsOpenAfterEach P steps q

-- each front of a run that is done is done
pub front_done : (P : Protocol) (steps : List Step) (n : ℕ) (end : Configuration) → IsDone P steps end → (c : Configuration) × IsDone P (take n steps) c
front_done P steps n end done =
    let front = fronts_reach P steps n (start P) end done.ends in (
      front.end,
      record {
        ends = front.reached;
        none_refused = λ number r refused. done.none_refused number r (refused_in_front P steps n number r refused);
      },
    )

-- after more steps it is violated too
pub violated_later : (P : Protocol) (q : Query) (steps : List Step) (end : Configuration) (n m : ℕ) → Stays P steps q → run P steps ≡ Some end → n ≤ m → IsViolatedAfter P steps q n → IsViolatedAfter P steps q m
violated_later P q steps end n m stays all le violated =
    let later = fronts_reach P steps m (start P) end all in
    let parts : take m steps ≡ take n steps ++ drop n (take m steps) =
    sym (take-append-drop n (take m steps)) ∙ ap (λ front. front ++ drop n (take m steps)) (take_front steps m n le) in
    let split = ap (run P) parts ∙ after_steps-append P (take n steps) (drop n (take m steps)) (start P)
    ∙ ap (option_and_then (λ d. after_steps P d (drop n (take m steps)))) violated.reached in
    record {
      configuration = later.end;
      reached = later.reached;
      violated = stays.0 violated.configuration later.end (drop n (take m steps)) (sym split ∙ later.reached)
          (stays.1 m later.end later.reached) violated.violated;
    }

-- where it is not violated after n steps, it is after no number of steps up to n
pub not_before : (P : Protocol) (q : Query) (steps : List Step) (end c : Configuration) (n m : ℕ) → Stays P steps q → run P steps ≡ Some end → run P (take n steps) ≡ Some c → ¬ IsViolated q c → m ≤ n → ¬ IsViolatedAfter P steps q m
not_before P q steps end c n m stays all reached not_violated le violated =
    let later = violated_later P q steps end m n stays all le violated in
    let same = some_one _ _ _ later.reached reached in
    not_violated (subst (IsViolated q) same later.violated)

-- where it is not violated at the end, it never is
pub never_violated : (P : Protocol) (q : Query) (steps : List Step) (end : Configuration) → Stays P steps q → run P steps ≡ Some end → ¬ IsViolated q end → IsFirstViolation P steps q None
never_violated P q steps end stays all not_violated n violated =
    let most = length steps + n in
    let whole : run P (take most steps) ≡ Some end = ap (run P) (take_all_of steps most (omega arith)) ∙ all in
    not_before P q steps end end most n stays all whole not_violated (omega arith) violated

pub violated_at_end : (P : Protocol) (q : Query) (steps : List Step) (end : Configuration) → run P steps ≡ Some end → IsViolated q end → IsViolatedAfter P steps q (length steps)
violated_at_end P q steps end all violated =
    record { configuration = end; reached = ap (run P) (take_all_of steps (length steps) (omega arith)) ∙ all; violated = violated }

-- of two least numbers both are one
least_one : (P : ℕ → Type 0) (n m : ℕ) → P n → ((k : ℕ) → k < n → ¬ P k) → P m → ((k : ℕ) → k < m → ¬ P k) → n ≡ m
least_one P n m at_n below_n at_m below_m = elim (cases_lt n m) [
  | inl less ↦ absurd (below_m n less at_n)
  | inr le ↦ (elim (cases_lt m n) [
    | inl less ↦ absurd (below_n m less at_m)
    | inr ge ↦ omega arith
  ])
]

first_one : (P : Protocol) (steps : List Step) (q : Query) (a b : Option ℕ) → IsFirstViolation P steps q a → IsFirstViolation P steps q b → a ≡ b
first_one P steps q None None x y = refl
first_one P steps q None (Some m) x y = absurd (x m y.0)
first_one P steps q (Some n) None x y = absurd (y n x.0)
first_one P steps q (Some n) (Some m) x y = ap Some (least_one (IsViolatedAfter P steps q) n m x.0 x.1 y.0 y.1)

firsts_one : (P : Protocol) (steps : List Step) (qs : List Query) (xs ys : List (Option ℕ)) → AreFirstViolations P steps qs xs → AreFirstViolations P steps qs ys → xs ≡ ys
firsts_one P steps [] [] [] x y = refl
firsts_one P steps [] [] (b ∷ ys) x y = absurd y
firsts_one P steps [] (a ∷ xs) ys x y = absurd x
firsts_one P steps (q ∷ qs) [] ys x y = absurd x
firsts_one P steps (q ∷ qs) (a ∷ xs) [] x y = absurd y
firsts_one P steps (q ∷ qs) (a ∷ xs) (b ∷ ys) x y =
    let first = first_one P steps q a b x.0 y.0 in
    let later = firsts_one P steps qs xs ys x.1 y.1 in
    λ i. first i ∷ later i

-- some step is the first that is refused: its number, and why
abbrev IsRefusedSomehow : Protocol → List Step → ℕ → Type 0
IsRefusedSomehow P steps number = (r : Refusal) × IsRefusedAt P steps number r

first_number : (P : Protocol) (steps : List Step) (n m : ℕ) (r s : Refusal) → IsFirstRefused P steps n r → IsFirstRefused P steps m s → n ≡ m
first_number P steps n m r s a b =
    least_one (IsRefusedSomehow P steps) n m (r, a.refused) (λ k below other. a.first k other.0 below other.1) (s, b.refused) (λ k below other. b.first k other.0 below other.1)

-- replaying steps shows one thing
pub one_replay : (P : Protocol) (steps : List Step) (a b : Replay) → IsReplayOf P steps a → IsReplayOf P steps b → a ≡ b
one_replay P steps (Done c xs) (Done d ys) x y =
    let ends = some_one _ _ _ x.0.ends y.0.ends in
    let firsts = firsts_one P steps P.queries xs ys x.1 y.1 in
    λ i. Done (ends i) (firsts i)
one_replay P steps (Done c xs) (Stuck m s) x y = absurd (x.0.none_refused m s y.refused)
one_replay P steps (Stuck n r) (Done d ys) x y = absurd (y.0.none_refused n r x.refused)
one_replay P steps (Stuck n r) (Stuck m s) x y =
    let number = first_number P steps n m r s x y in
    let refusal = refused_once P steps m r s (subst (λ k. IsRefusedAt P steps k r) number x.refused) y.refused in
    λ i. Stuck (number i) (refusal i)

-- what is told of the end of a run is told of the run
pub tells_at_end : (P : Protocol) (steps : List Step) (query : ℕ) (end : Configuration) (told : Bool) → run P steps ≡ Some end → ((q : Query) → numbered P.queries query ≡ Some q → IsTrue told ↔ IsViolated q end) → TellsViolation P steps query told
tells_at_end P steps query end told all decides = λ q found. (
    let d = decides q found in
    let whole : run P (take (length steps) steps) ≡ Some end = ap (run P) (take_all_of steps (length steps) (omega arith)) ∙ all in
    (λ yes. violated_at_end P q steps end all (d.0 yes), λ v. d.1 (subst (IsViolated q) (some_one _ _ _ v.reached whole) v.violated)))

-- the bounds between which the first violation stands
pub record IsBetween (P : Protocol) (steps : List Step) (query low high : ℕ) : Type 0 where
  pub ordered : low ≤ high
  pub within : high ≤ length steps
  pub not_below : (q : Query) → numbered P.queries query ≡ Some q → (n : ℕ) → n < low → ¬ IsViolatedAfter P steps q n
  pub at_high : (q : Query) → numbered P.queries query ≡ Some q → IsViolatedAfter P steps q high

pub IsBetween-init : (P : Protocol) (steps : List Step) (query : ℕ) → IsViolatedAtEnd P steps query → IsBetween P steps query 0 (length steps)
IsBetween-init P steps query violated = record {
  ordered = omega arith;
  within = omega arith;
  not_below = λ q found n below v. omega (arith, below);
  at_high = violated;
}

-- a front of n steps, n at most their number
front_length : (steps : List Step) (n : ℕ) → n ≤ length steps → length (take n steps) ≡ n
front_length steps n le = length-take-le n steps le

-- after all of a front is after as many steps
front_all : (P : Protocol) (q : Query) (steps : List Step) (n : ℕ) → n ≤ length steps → IsViolatedAfter P (take n steps) q (length (take n steps)) → IsViolatedAfter P steps q n
front_all P q steps n le v = record {
  configuration = v.configuration;
  reached = ap (run P) (sym (take_all_of (take n steps) (length (take n steps)) (omega arith))) ∙ v.reached;
  violated = v.violated;
}

all_front : (P : Protocol) (q : Query) (steps : List Step) (n : ℕ) → n ≤ length steps → IsViolatedAfter P steps q n → IsViolatedAfter P (take n steps) q (length (take n steps))
all_front P q steps n le v = record {
  configuration = v.configuration;
  reached = ap (run P) (take_all_of (take n steps) (length (take n steps)) (omega arith)) ∙ v.reached;
  violated = v.violated;
}

pub IsBetween-true : (P : Protocol) (steps : List Step) (query low high middle : ℕ) → IsBetween P steps query low high → low ≤ middle → middle < high → TellsViolation P (take middle steps) query true → IsBetween P steps query low middle
IsBetween-true P steps query low high middle between above below told = record {
  ordered = above;
  within = omega (arith, below, between.within);
  not_below = between.not_below;
  at_high = λ q found. front_all P q steps middle (omega (arith, below, between.within)) ((told q found).0 refl);
}

pub IsBetween-false : (P : Protocol) (steps : List Step) (query low high middle : ℕ) → ((q : Query) → numbered P.queries query ≡ Some q → Stays P steps q) → IsDoneSomewhere P steps → IsBetween P steps query low high → low ≤ middle → middle < high → TellsViolation P (take middle steps) query false → IsBetween P steps query (middle + 1) high
IsBetween-false P steps query low high middle stays done between above below told = record {
  ordered = omega (arith, below);
  within = between.within;
  not_below = λ q found n less v. (
      let le : middle ≤ length steps = omega (arith, below, between.within) in
      let at_middle = violated_later P q steps done.0 n middle (stays q found) done.1.ends (omega (arith, less)) v in
      let wrong = (told q found).1 (all_front P q steps middle le at_middle) in
      cc wrong);
  at_high = between.at_high;
}

pub IsBetween-end : (P : Protocol) (steps : List Step) (query low high : ℕ) → IsBetween P steps query low high → high ≤ low → TellsFirst P steps query (Some high)
IsBetween-end P steps query low high between met = λ q found. (between.at_high q found, λ n below. between.not_below q found n (omega (arith, below, met)))

-- a front of steps that are not refused
pub front_somewhere : (P : Protocol) (steps : List Step) (n : ℕ) → IsDoneSomewhere P steps → IsDoneSomewhere P (take n steps)
front_somewhere P steps n done = front_done P steps n done.0 done.1

-- none of the steps is refused, so none is the first that is
pub done_not_refused : (P : Protocol) (steps : List Step) (number : ℕ) (r : Refusal) → IsDoneSomewhere P steps → IsFirstRefused P steps number r → ⊥
done_not_refused P steps number r done refused = done.1.none_refused number r refused.refused

pub AreFirstViolations-push : (P : Protocol) (steps : List Step) (qs : List Query) (firsts : List (Option ℕ)) (q : Query) (first : Option ℕ) → AreFirstViolations P steps qs firsts → IsFirstViolation P steps q first → AreFirstViolations P steps (qs ++ q ∷ []) (firsts ++ first ∷ [])
AreFirstViolations-push P steps [] [] q first are is = (is, tt)
AreFirstViolations-push P steps [] (f ∷ fs) q first are is = absurd are
AreFirstViolations-push P steps (r ∷ rs) [] q first are is = absurd are
AreFirstViolations-push P steps (r ∷ rs) (f ∷ fs) q first are is = (are.0, AreFirstViolations-push P steps rs fs q first are.1 is)

-- no query is looked at yet
pub no_query : (P : Protocol) (steps : List Step) (qs : List Query) → AreFirstViolations P steps (take 0 qs) []
no_query P steps [] = tt
no_query P steps (q ∷ qs) = tt

-- one more is
pub one_query : (P : Protocol) (steps : List Step) (index : ℕ) (firsts : List (Option ℕ)) (first : Option ℕ) → AreFirstViolations P steps (take index P.queries) firsts → index < length P.queries → TellsFirst P steps (index + 1) first → AreFirstViolations P steps (take (index + 1) P.queries) (firsts ++ first ∷ [])
one_query P steps index firsts first are within told =
    let there = there-numbered P.queries (index + 1) (omega arith) (omega (arith, within)) in
    let found = sym (numbered-add-one P.queries index) ∙ there.1 in
    subst (λ qs. AreFirstViolations P steps qs (firsts ++ first ∷ [])) (sym (take_next P.queries index there.0 found))
    (AreFirstViolations-push P steps (take index P.queries) firsts there.0 first are (told there.0 there.1))

pub all_queries : (P : Protocol) (steps : List Step) (index : ℕ) (firsts : List (Option ℕ)) → AreFirstViolations P steps (take index P.queries) firsts → length P.queries ≤ index → AreFirstViolations P steps P.queries firsts
all_queries P steps index firsts are all = subst (λ qs. AreFirstViolations P steps qs firsts) (take_all_of P.queries index all) are

-- since when the query is violated, by whether it is at the end
pub never_told : (P : Protocol) (steps : List Step) (query : ℕ) → ((q : Query) → numbered P.queries query ≡ Some q → Stays P steps q) → IsDoneSomewhere P steps → TellsViolation P steps query false → TellsFirst P steps query None
never_told P steps query stays done told = λ q found. never_violated P q steps done.0 (stays q found) done.1.ends (λ violated. (
    let wrong = (told q found).1 (violated_at_end P q steps done.0 done.1.ends violated) in cc wrong))

pub violated_told : (P : Protocol) (steps : List Step) (query : ℕ) → TellsViolation P steps query true → IsViolatedAtEnd P steps query
violated_told P steps query told = λ q found. (told q found).0 refl
