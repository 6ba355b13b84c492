-- When the next phase begins, and what it makes of threads.
use Rattle.std.proofs.Common.{◌≡◌, ℕ, zero, suc, ◌+◌, ◌<◌, ◌≤◌, ◌^◌, Bool, true, false, not, cond, nat_eq, nat_lt, List, [], ◌∷◌, ◌++◌, length, map, Option, None, Some, option_map, refl, sym, ap, ◌∙◌, arith}
use Rattle.std.proofs.lemmas.Bool.{ne_eqb}
use Rattle.std.proofs.lemmas.Bool.Decides.{nat_tests}
use Rattle.std.proofs.lemmas.List.{map-append}
use Rattle.std.proofs.lemmas.Option.{slice_get-map}
use Rattle.spec_calculus.specs.Syntax.{Process, Nil, Output, Input, Parallel, Replication, New, Let, Event, Phase, Insert, Get, Protocol}
use Rattle.spec_calculus.specs.Points.{numbered, nodes, greatest_phase}
use Rattle.spec_calculus.specs.Values.{Environment}
use Rattle.spec_calculus.specs.Runs.{Thread, At, Ended, Configuration, Next, at_phase, enters, raised}
use Rattle.spec_calculus.specs.Refusals as cause
use Rattle.spec_calculus.specs.Refusals.{first_cause, where_true}
use Rattle.pi_configurations.specs.Moves.{awaited, at_awaited, entered, entered_in}
use Rattle.pi_configurations.proofs.Points.{nodes-some, point-within}
use Rattle.pi_tree.specs.Accessors.{capped}
use Rattle.pi_model.specs.Plans.{IsPossible, IsRefused}
use Rattle.pi_model.proofs.ThreadSteps.{possible, refused}

-- what is listed of a form and of what is behind it
pub listed-one : (front : List ℕ) (first : ℕ) (rest : List ℕ) → (front ++ first ∷ []) ++ rest ≡ front ++ first ∷ rest
listed-one [] first rest = refl
listed-one (n ∷ front) first rest = ap (λ ns. n ∷ ns) (listed-one front first rest)

pub listed-two : (front : List ℕ) (first : ℕ) (left right : List Process) → ((front ++ first ∷ []) ++ map awaited left) ++ map awaited right ≡ front ++ first ∷ map awaited (left ++ right)
listed-two [] first left right = ap (λ ns. first ∷ ns) (sym (map-append awaited left right))
listed-two (n ∷ front) first left right = ap (λ ns. n ∷ ns) (listed-two front first left right)

pub ruleset of_listing = (listed-one, listed-two)

-- a form that waits for no phase
none_less : (n : ℕ) → nat_lt n 0 ≡ false
none_less n = grind (arith, nat_tests)

ends : (n point : ℕ) (environment : Environment) → 0 < n → Ended ≡ at_awaited n point environment (Some 0)
ends n point environment some =
    sym (ap (λ b. cond b (At (capped (point + 1)) environment) (cond (nat_lt n 0) (At point environment) Ended)) (ne_eqb 0 n (λ same. omega (arith, some, same)))
    ∙ ap (λ b. cond b (At point environment) Ended) (none_less n))

module _ (P : Protocol) (few : length (nodes P.main) < 2 ^ 32) (n : ℕ) (some : 0 < n) where
  -- a thread at a node, by the phase that it waits for
  node-same : (point : ℕ) (environment : Environment) (process : Process) → numbered (nodes P.main) point ≡ Some process → at_phase n point environment (Some process) ≡ at_awaited n point environment (Some (awaited process))
  node-same point environment (Phase number next) is =
      let within : point + length (nodes (Phase number next)) ≤ length (nodes P.main) + 1 = point-within P point (Phase number next) is in
      let further : point + 1 ≡ capped (point + 1) = omega (arith, within, few, nodes-some next) in
      ap (λ p. cond (nat_eq number n) (At p environment) (cond (nat_lt n number) (At point environment) Ended)) further
  node-same point environment Nil is = ends n point environment some
  node-same point environment (Output channel message next) is = ends n point environment some
  node-same point environment (Input channel pattern next) is = ends n point environment some
  node-same point environment (Parallel left right) is = ends n point environment some
  node-same point environment (Replication copied) is = ends n point environment some
  node-same point environment (New word next) is = ends n point environment some
  node-same point environment (Let pattern expression next otherwise) is = ends n point environment some
  node-same point environment (Event performed next) is = ends n point environment some
  node-same point environment (Insert table arguments next) is = ends n point environment some
  node-same point environment (Get table patterns condition next otherwise) is = ends n point environment some

  option-same : (point : ℕ) (environment : Environment) (o : Option Process) → numbered (nodes P.main) point ≡ o → at_phase n point environment o ≡ at_awaited n point environment (option_map awaited o)
  option-same point environment None is = refl
  option-same point environment (Some process) is = node-same point environment process is

  numbered-map : (point : ℕ) → numbered (map awaited (nodes P.main)) point ≡ option_map awaited (numbered (nodes P.main) point)
  numbered-map zero = refl
  numbered-map (suc index) = slice_get-map awaited (nodes P.main) index

  thread-same : (thread : Thread) → enters P n thread ≡ entered (map awaited (nodes P.main)) n thread
  thread-same (At point environment) =
      option-same point environment (numbered (nodes P.main) point) refl ∙ ap (at_awaited n point environment) (sym (numbered-map point))
  thread-same Ended = refl

  threads-same : (threads : List Thread) → map (enters P n) threads ≡ map (entered (map awaited (nodes P.main)) n) threads
  threads-same [] = refl
  threads-same (thread ∷ threads) = let first = thread-same thread in let rest = threads-same threads in λ i. first i ∷ rest i

module _ (P : Protocol) (c : Configuration) where
  test-true : c.phase < greatest_phase P.main → nat_lt c.phase (greatest_phase P.main) ≡ true
  test-true less = grind (arith, nat_tests)

  test-false : greatest_phase P.main ≤ c.phase → nat_lt c.phase (greatest_phase P.main) ≡ false
  test-false most = grind (arith, nat_tests)

  pub next-refused : greatest_phase P.main ≤ c.phase → IsRefused P c Next cause.WrongForm
  next-refused most = refused P c Next cause.WrongForm (ap (λ b. first_cause (where_true cause.WrongForm (not b) ∷ [])) (test-false most))

  pub next-possible : (phases : List ℕ) → phases ≡ map awaited (nodes P.main) → length (nodes P.main) < 2 ^ 32 → c.phase < greatest_phase P.main → IsPossible P c Next (entered_in phases (c.phase + 1) c)
  next-possible phases listed few less =
      let first : 0 < c.phase + 1 = omega arith in
      let threads : map (enters P (c.phase + 1)) c.threads ≡ map (entered phases (c.phase + 1)) c.threads =
      threads-same P few (c.phase + 1) first c.threads ∙ ap (λ ps. map (entered ps (c.phase + 1)) c.threads) (sym listed) in
      possible P c Next (entered_in phases (c.phase + 1) c) (ap (λ b. first_cause (where_true cause.WrongForm (not b) ∷ [])) (test-true less)) refl
      (ap (λ b. cond b (Some (raised P c)) None) (test-true less) ∙ ap (λ ts. Some (record c { phase = c.phase + 1; threads = ts })) threads)

pub ruleset of_next = (next-refused, next-possible)
