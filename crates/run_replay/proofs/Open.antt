-- The steps at whose ends a query is open, and that the first violation stands among them.
use Rattle.std.proofs.Common.{◌≡◌, ℕ, zero, suc, ◌+◌, ◌<◌, ◌≤◌, true, false, nat_le, cond, List, [], ◌∷◌, ◌++◌, length, get_or, map, take, drop, slice_get, Option, None, Some, option_map, refl, sym, ap, ◌∙◌, subst, inl, inr, arith, append-nil, append_assoc}
use Rattle.std.proofs.lemmas.Bool.{cases_lt}
use Rattle.std.proofs.lemmas.Bool.Decides.{nat_tests}
use Rattle.std.proofs.lemmas.List.{length-map, length-take-le, drop_all}
use Rattle.std.proofs.lemmas.Option.{slice_get-map, slice_get_read}
use Rattle.spec_calculus.specs.Syntax.{Protocol, Query, Secret, SecretNew, Correspondence}
use Rattle.spec_calculus.specs.Points.{numbered}
use Rattle.spec_calculus.specs.Runs.{Configuration, Step, start, run}
use Rattle.spec_calculus.specs.Secrecy.{IsOpen}
use Rattle.spec_calculus.specs.Standing.{phases_begun}
use Rattle.spec_calculus.specs.Phases.{all_phases_begun, steps_up_to, open_steps}
use Rattle.spec_calculus.proofs.Phases.{phases_are_counted, open_at_their_end, violated_among_them}
use Rattle.pi_model.specs.declared.steps.Step as source
use Rattle.pi_model.specs.Steps.{step_of}
use Rattle.run_replay.specs.Replay.{IsViolatedAfter, IsFirstViolation}
use Rattle.run_replay.specs.Reached.{IsDoneSomewhere, TellsFirst, IsOpenAfterEach, IsOpenAlong, IsOpenCount}
use Rattle.run_replay.proofs.Applying.{some_one, take_front, take_next, take_all_of}
use Rattle.run_replay.proofs.Violations.{front_somewhere}

-- the first steps are gone through, and as many phases have begun
pub record IsUpTo (items : List source.Step) (phase now index : ℕ) : Type 0 where
  pub within : now ≤ phase
  pub so_far : take index (map step_of items) ++ steps_up_to phase now (drop index (map step_of items)) ≡ steps_up_to phase 0 (map step_of items)

pub up_to-init : (items : List source.Step) (phase : ℕ) → IsUpTo items phase 0 0
up_to-init items phase = record { within = omega arith; so_far = refl }

-- the steps from an index on
drop_next : {A : Type 0} (xs : List A) (index : ℕ) (x : A) → slice_get xs index ≡ Some x → drop index xs ≡ x ∷ drop (suc index) xs
drop_next [] index x at = cc
drop_next (y ∷ ys) zero x at = let is : y ≡ x = cc in ap (λ z. z ∷ ys) is
drop_next (y ∷ ys) (suc k) x at = drop_next ys k x at

step_at : (items : List source.Step) (index : ℕ) (x : source.Step) → index < length items → x ≡ get_or items index x → slice_get (map step_of items) index ≡ Some (step_of x)
step_at items index x within at = slice_get-map step_of items index ∙ ap (option_map step_of) (slice_get_read items (length items) index x refl within at)

step_from : (items : List source.Step) (index : ℕ) (x : source.Step) → index < length items → x ≡ get_or items index x → drop index (map step_of items) ≡ step_of x ∷ drop (index + 1) (map step_of items)
step_from items index x within at =
    let next : suc index ≡ index + 1 = omega arith in
    drop_next (map step_of items) index (step_of x) (step_at items index x within at) ∙ ap (λ k. step_of x ∷ drop k (map step_of items)) next

-- one more step is made
pub up_to-more : (items : List source.Step) (phase now next index : ℕ) (x : source.Step) → IsUpTo items phase now index → index < length items → x ≡ get_or items index x → next ≡ now + phases_begun (step_of x) → next ≤ phase → IsUpTo items phase next (index + 1)
up_to-more items phase now next index x so within at is le = record {
  within = le;
  so_far =
      let steps = map step_of items in
      let rest = steps_up_to phase next (drop (index + 1) steps) in
      let test : nat_le (now + phases_begun (step_of x)) phase ≡ true = grind (arith, nat_tests) in
      let opened : steps_up_to phase now (drop index steps) ≡ step_of x ∷ rest =
      ap (steps_up_to phase now) (step_from items index x within at)
      ∙ (ap (λ b. cond b (step_of x ∷ steps_up_to phase (now + phases_begun (step_of x)) (drop (index + 1) steps)) []) test
      ∙ ap (λ n. step_of x ∷ steps_up_to phase n (drop (index + 1) steps)) (sym is)) in
      ap (λ front. front ++ rest) (take_next steps index (step_of x) (step_at items index x within at))
      ∙ (append_assoc (take index steps) (step_of x ∷ []) rest
      ∙ (ap (λ behind. take index steps ++ behind) (sym opened) ∙ so.so_far));
}

-- a later phase begins with the next one
pub up_to-stop : (items : List source.Step) (phase now index : ℕ) (x : source.Step) → IsUpTo items phase now index → index < length items → x ≡ get_or items index x → phase < now + phases_begun (step_of x) → take index (map step_of items) ≡ steps_up_to phase 0 (map step_of items)
up_to-stop items phase now index x so within at less =
    let steps = map step_of items in
    let test : nat_le (now + phases_begun (step_of x)) phase ≡ false = grind (arith, nat_tests) in
    let closed : steps_up_to phase now (drop index steps) ≡ [] =
    ap (steps_up_to phase now) (step_from items index x within at)
    ∙ ap (λ b. cond b (step_of x ∷ steps_up_to phase (now + phases_begun (step_of x)) (drop (index + 1) steps)) []) test in
    sym (append-nil (take index steps)) ∙ (ap (λ behind. take index steps ++ behind) (sym closed) ∙ so.so_far)

-- no more steps are there
pub up_to-end : (items : List source.Step) (phase now index : ℕ) → IsUpTo items phase now index → length items ≤ index → take (length items) (map step_of items) ≡ steps_up_to phase 0 (map step_of items)
up_to-end items phase now index so past =
    let steps = map step_of items in
    let all : length steps ≤ index = omega (arith, past, length-map items step_of) in
    let last : length steps ≤ length items = omega (arith, length-map items step_of) in
    let closed : steps_up_to phase now (drop index steps) ≡ [] = ap (steps_up_to phase now) (drop_all index steps all) in
    take_all_of steps (length items) last
    ∙ (sym (take_all_of steps index all)
    ∙ (sym (append-nil (take index steps)) ∙ (ap (λ behind. take index steps ++ behind) (sym closed) ∙ so.so_far)))

pub ruleset of_steps = (up_to-init, up_to-more, up_to-stop, up_to-end)

-- the steps that are counted for the query
pub open-counted : (P : Protocol) (steps : List Step) (query count : ℕ) (q : Query) → numbered P.queries query ≡ Some q → take count steps ≡ open_steps q steps → IsOpenCount P steps query count
open-counted P steps query count q there is = λ other found. subst (λ r. take count steps ≡ open_steps r steps) (some_one _ _ _ there found) is

pub all-counted : (items : List source.Step) → take (length items) (map step_of items) ≡ map step_of items
all-counted items = take_all_of (map step_of items) (length items) (omega (arith, length-map items step_of))

pub ruleset of_counts = (open-counted, all-counted)

-- no more phases begin with the first of some steps than with all
begun_before : (n : ℕ) (steps : List Step) → all_phases_begun (take n steps) ≤ all_phases_begun steps
begun_before zero [] = omega arith
begun_before (suc n) [] = omega arith
begun_before zero (step ∷ steps) = omega arith
begun_before (suc n) (step ∷ steps) = omega (arith, begun_before n steps)

-- the query is open after each number of its steps
module _ (P : Protocol) (steps : List Step) (count : ℕ) (d end : Configuration) where
  phase_before : (phase : ℕ) → run P (steps_up_to phase 0 steps) ≡ Some end → end.phase ≤ phase → run P (take count (steps_up_to phase 0 steps)) ≡ Some d → d.phase ≤ phase
  phase_before phase all last reached =
      let front = steps_up_to phase 0 steps in
      let at_end : end.phase ≡ 0 + all_phases_begun front = phases_are_counted P (start P) end front all in
      let at_count : d.phase ≡ 0 + all_phases_begun (take count front) = phases_are_counted P (start P) d (take count front) reached in
      omega (arith, at_end, at_count, last, begun_before count front)

  open_before : (q : Query) → run P (open_steps q steps) ≡ Some end → run P (take count (open_steps q steps)) ≡ Some d → IsOpen q d
  open_before (Secret message phase) all reached = phase_before phase all (open_at_their_end P (Secret message phase) steps end all) reached
  open_before (SecretNew point phase) all reached = phase_before phase all (open_at_their_end P (SecretNew point phase) steps end all) reached
  open_before (Correspondence left alternatives) all reached = tt

open_front : (P : Protocol) (steps front : List Step) (q : Query) → front ≡ open_steps q steps → IsDoneSomewhere P front → IsOpenAfterEach P front q
open_front P steps front q is done count d reached =
    open_before P steps count d done.0 q (ap (run P) (sym is) ∙ done.1.ends) (ap (λ (l : List Step). run P (take count l)) (sym is) ∙ reached)

pub counted_open : (P : Protocol) (steps : List Step) (query count : ℕ) → IsOpenCount P steps query count → IsDoneSomewhere P steps → IsOpenAlong P (take count steps) query
counted_open P steps query count open_there done = λ q found. open_front P steps (take count steps) q (open_there q found) (front_somewhere P steps count done)

-- where all are counted, they are its steps
pub whole_open : (P : Protocol) (steps : List Step) (query count : ℕ) → IsOpenCount P steps query count → length steps ≤ count → IsDoneSomewhere P steps → IsOpenAlong P steps query
whole_open P steps query count open_there all done = λ q found. open_front P steps steps q (sym (take_all_of steps count all) ∙ open_there q found) done

-- a violation after some of all steps is one after some of those at whose ends the query is open
module _ (P : Protocol) (q : Query) (steps front : List Step) (is : front ≡ open_steps q steps) where
  among_few : (n : ℕ) → n ≤ length steps → IsViolatedAfter P steps q n → (n ≤ length front) × IsViolatedAfter P front q n
  among_few n within v =
      let there = violated_among_them P q n steps v.configuration within v.reached v.violated in
      let same : take n front ≡ take n steps = ap (take n) is ∙ there.1 in (
        subst (λ (l : List Step). n ≤ length l) (sym is) there.0,
        record { configuration = v.configuration; reached = ap (run P) same ∙ v.reached; violated = v.violated },
      )

  -- as many steps as there are, where it is more
  at_most_all : (n : ℕ) → length steps ≤ n → IsViolatedAfter P steps q n → IsViolatedAfter P steps q (length steps)
  at_most_all n past v = record {
    configuration = v.configuration;
    reached = ap (run P) (take_all_of steps (length steps) (omega arith) ∙ sym (take_all_of steps n past)) ∙ v.reached;
    violated = v.violated;
  }

  among_all : (n : ℕ) → IsViolatedAfter P steps q n → (m : ℕ) × IsViolatedAfter P front q m
  among_all n v = elim (cases_lt (length steps) n) [
    | inl less ↦ (length steps, (among_few (length steps) (omega arith) (at_most_all n (omega (arith, less)) v)).1)
    | inr le ↦ (n, (among_few n le v).1)
  ]

-- and the other way round, up to their number
module _ (P : Protocol) (q : Query) (steps : List Step) (count : ℕ) (within : count ≤ length steps) where
  of_front : (n : ℕ) → n ≤ count → IsViolatedAfter P (take count steps) q n → IsViolatedAfter P steps q n
  of_front n le v = record {
    configuration = v.configuration;
    reached = ap (run P) (sym (take_front steps count n le)) ∙ v.reached;
    violated = v.violated;
  }

  -- the least number of steps of a front is no greater than their number
  least_within : (n : ℕ) → IsViolatedAfter P (take count steps) q n → ((k : ℕ) → k < n → ¬ IsViolatedAfter P (take count steps) q k) → n ≤ count
  least_within n v least = elim (cases_lt count n) [
    | inl less ↦ absurd (least count less (record {
      configuration = v.configuration;
      reached = ap (run P) (take_all_of (take count steps) count (omega (arith, length-take-le count steps within)) ∙ sym (take_all_of (take count steps) n (omega (arith, less, length-take-le count steps within)))) ∙ v.reached;
      violated = v.violated;
    }))
    | inr le ↦ le
  ]

  first_of_all : (first : Option ℕ) → take count steps ≡ open_steps q steps → IsFirstViolation P (take count steps) q first → IsFirstViolation P steps q first
  first_of_all None is never = λ n v. let there = among_all P q steps (take count steps) is n v in never there.0 there.1
  first_of_all (Some n) is (violated, least) =
      let le : n ≤ count = least_within n violated least in
      (of_front n le violated, λ k less v. least k less (among_few P q steps (take count steps) is k (omega (arith, less, le, within)) v).1)

pub front_told : (P : Protocol) (steps : List Step) (query count : ℕ) (first : Option ℕ) → count ≤ length steps → IsOpenCount P steps query count → TellsFirst P (take count steps) query first → TellsFirst P steps query first
front_told P steps query count first within open_there told = λ q found. first_of_all P q steps count within first (open_there q found) (told q found)
