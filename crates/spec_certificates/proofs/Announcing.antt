-- The second worked example: what is ruled of its certificate, and of two that lack a row.
use Rattle.std.proofs.Common.{ℕ, Some, None, List, [], ◌∷◌, refl, inl, inr, arith}
use Rattle.std.specs.List.{AllByRecursion}
use Rattle.spec_trees.specs.Tree.{Leaf}
use Rattle.spec_terms.specs.Term.{Term}
use Rattle.spec_clauses.specs.Fact.{Clause}
use Rattle.spec_clauses.specs.Selection.{Selection}
use Rattle.spec_clauses.specs.Resolvents.{Resolvents}
use Rattle.spec_clauses.specs.Inclusion.{here}
use Rattle.spec_certificates.specs.Announcing.{announced, announcing, name, eight_clauses, nine_clauses}
use Rattle.spec_certificates.proofs.Announced.{announcing_translated, begun, heard_name, ended, asked, shown, knows_channel, makes_names, listens, sends, listening, asking, echo, channel_listening, names_listening, begun_listening, heard_listening, ended_listening, shown_listening, channel_asking, names_asking, sends_asking, begun_asking, heard_asking, shown_asking, sends_listening, ended_asking}
use Rattle.spec_certificates.specs.Certificate.{IsInShape, CoverRowHolds, GoalHolds, Numbered, numbered_from, Pair, pairs_of}
use Rattle.spec_certificates.specs.Ruling.{Ruling, Accepted, Closure, Goal, Rest, Cover, Obliged, Covers, Closures, Goals, NoneLeft, bad_ones, IsRuled}
use Rattle.spec_certificates.specs.Example.{announced_by, nine_rows, without_row, without_goal}
use Rattle.spec_certificates.proofs.Ruled.{shaped, covered, AreCovered, IsIdleWith, idle_first, idle_rows}

abbrev all : List Numbered
all = numbered_from 1 nine_clauses

-- the clauses before the two that give something, and these and the last
abbrev first_six : List Numbered
first_six = numbered_from 1 (knows_channel ∷ makes_names ∷ listens ∷ sends ∷ begun ∷ heard_name ∷ [])

abbrev last_three : List Numbered
last_three = numbered_from 7 (ended ∷ asked ∷ shown ∷ [])

all_shaped : AllByRecursion (λ c. IsInShape announced c.clause) all
all_shaped = (
  record { small = omega arith; normal = record { flat = refl; own = refl }; arguments = tt },
  (
    record { small = omega arith; normal = record { flat = refl; own = refl }; arguments = tt },
    (
      record { small = omega arith; normal = record { flat = refl; own = refl }; arguments = tt },
      (
        record { small = omega arith; normal = record { flat = refl; own = refl }; arguments = tt },
        (
          record { small = omega arith; normal = record { flat = refl; own = refl }; arguments = tt },
          (
            record { small = omega arith; normal = record { flat = refl; own = refl }; arguments = tt },
            (
              record { small = omega arith; normal = record { flat = refl; own = refl }; arguments = tt },
              (
                record { small = omega arith; normal = record { flat = refl; own = refl }; arguments = refl },
                (record { small = omega arith; normal = record { flat = refl; own = refl }; arguments = refl }, tt),
              ),
            ),
          ),
        ),
      ),
    ),
  ),
)

all_covered : AreCovered nine_clauses (numbered_from 1 eight_clauses) (announced_by [] []).rows
all_covered = (
  (_, refl, record { by = Leaf; distinct = refl; conclusion = refl; firmly = refl; loosely = tt; diffs = tt }),
  (
    (_, refl, record { by = Leaf; distinct = refl; conclusion = refl; firmly = refl; loosely = tt; diffs = tt }),
    (
      (_, refl, record { by = Leaf; distinct = refl; conclusion = refl; firmly = refl; loosely = (_, here, tt); diffs = tt }),
      (
        (_, refl, record { by = Leaf; distinct = refl; conclusion = refl; firmly = refl; loosely = (_, here, (_, here, tt)); diffs = tt }),
        (
          (_, refl, record { by = Leaf; distinct = refl; conclusion = refl; firmly = refl; loosely = tt; diffs = tt }),
          (
            (_, refl, record { by = Leaf; distinct = refl; conclusion = refl; firmly = refl; loosely = tt; diffs = tt }),
            (
              (_, refl, record { by = Leaf; distinct = refl; conclusion = refl; firmly = refl; loosely = tt; diffs = tt }),
              ((_, refl, record { by = Leaf; distinct = refl; conclusion = refl; firmly = refl; loosely = tt; diffs = tt }), refl),
            ),
          ),
        ),
      ),
    ),
  ),
)

six_idle : AllByRecursion (IsIdleWith all) first_six
six_idle = (
  ((None, channel_listening, tt), ((None, channel_asking, tt), tt)),
  (
    ((None, names_listening, tt), ((None, names_asking, tt), tt)),
    (
      tt,
      (
        ((Some echo, sends_listening, refl), ((None, sends_asking, tt), tt)),
        (((None, begun_listening, tt), ((None, begun_asking, tt), tt)), (((None, heard_listening, tt), ((None, heard_asking, tt), tt)), tt)),
      ),
    ),
  ),
)

last_idle : AllByRecursion (IsIdleWith all) (numbered_from 9 (shown ∷ []))
last_idle = (((None, shown_listening, tt), ((None, shown_asking, tt), tt)), tt)

abbrev pair_of : Clause Term → ℕ → Clause Term → Selection → Pair
pair_of i n j at = record { solved = record { number = 7; clause = i }; unsolved = record { number = n; clause = j }; at = at }

-- The seventh clause and the eighth give the ninth; the ninth gives nothing.
abbrev Last : Rest → Rest
Last next = Closures nine_clauses (pairs_of (numbered_from 9 (shown ∷ [])) all) next

module _ (next : Rest) (ruling : Ruling) (rows : List (List ℕ)) where
  last_closed : next rows ruling → Last next rows ruling
  last_closed x = idle_rows nine_clauses next rows ruling (numbered_from 9 (shown ∷ [])) [] all last_idle x

  closed : Covers nine_clauses (λ k. Closure 7 8 k) (numbered_from 1 (shown ∷ [])) (Last next) rows ruling → Closures nine_clauses (pairs_of all all) next rows ruling
  closed x =
      let given = pair_of ended 8 asked asking ∷ pairs_of (numbered_from 9 (shown ∷ [])) all in
      let both : Closures nine_clauses given next rows ruling = (Resolvents (shown ∷ []), (Some shown, ended_asking, refl), x) in
      idle_rows nine_clauses next rows ruling first_six last_three all six_idle (idle_first nine_clauses next rows ruling (pair_of ended 3 listens listening) given (None, ended_listening, tt) both)

abbrev goals_from : (more goals : List (List ℕ)) → Rest
goals_from more goals rows = Goals announcing announced (bad_ones all) (λ left. NoneLeft (announced_by more goals) rows left) goals

-- what is ruled where these rows and goal rows follow on the first eight
ruled : (more goals : List (List ℕ)) (ruling : Ruling) → Covers nine_clauses (λ k. Closure 7 8 k) (numbered_from 1 (shown ∷ [])) (Last (goals_from more goals)) more ruling → IsRuled announcing announced (announced_by more goals) ruling
ruled more goals ruling x =
    shaped announced (Obliged announcing announced (announced_by more goals)) ruling all all_shaped (inr (
      eight_clauses,
      announcing_translated,
      covered nine_clauses (Closures nine_clauses (pairs_of all all) (goals_from more goals)) ruling Cover (numbered_from 1 eight_clauses) (announced_by [] []).rows more all_covered (closed (goals_from more goals) ruling more x),
    ))

shown_covered : CoverRowHolds nine_clauses (9 ∷ 1 ∷ []) shown
shown_covered = (_, refl, record { by = Leaf; distinct = refl; conclusion = refl; firmly = refl; loosely = tt; diffs = tt })

shown_goal : GoalHolds announcing announced (1 ∷ 1 ∷ []) shown
shown_goal = record { by = λ x. name; conclusion = refl; alternative = _; numbered_so = refl; events = refl }

-- So the certificate is accepted.
pub announcing_accepted : IsRuled announcing announced nine_rows Accepted
announcing_accepted =
    let goals = goals_from ((9 ∷ 1 ∷ []) ∷ []) ((1 ∷ 1 ∷ []) ∷ []) in
    ruled ((9 ∷ 1 ∷ []) ∷ []) ((1 ∷ 1 ∷ []) ∷ []) Accepted (inl (shown_covered, last_closed goals Accepted [] (inl (shown_goal, refl))))

-- Without its last row the resolvent isn't covered, and without its goal row the last clause isn't satisfied.
pub resolvent_uncovered : IsRuled announcing announced without_row (Closure 7 8 1)
resolvent_uncovered = ruled [] ((1 ∷ 1 ∷ []) ∷ []) (Closure 7 8 1) refl

pub event_unshown : IsRuled announcing announced without_goal (Goal 9)
event_unshown =
    let goals = goals_from ((9 ∷ 1 ∷ []) ∷ []) [] in
    ruled ((9 ∷ 1 ∷ []) ∷ []) [] (Goal 9) (inl (shown_covered, last_closed goals (Goal 9) [] refl))
