-- A protocol without phases and tables: each fact of its clauses is of phase 0, and the attacker does what he does in phase 0 alone.
use Rattle.std.proofs.Common.{◌≡◌, ◌∙◌, ℕ, ◌+◌, true, false, ◌&&◌, ◌||◌, cond, List, [], ◌∷◌, ◌++◌, map, refl, ap, sym, subst, ⊎_elim}
use Rattle.std.specs.Prelude.{nat_eq, filter_map}
use Rattle.std.specs.List.{AllByRecursion, list_all, enumerate_from}
use Rattle.std.proofs.lemmas.List.{append-nil}
use Rattle.spec_calculus.specs.Syntax.{Process, Nil, Output, Input, Parallel, Replication, New, Let, Event, Phase, Insert, Get, Query, Secret, SecretNew, Correspondence, Protocol}
use Rattle.spec_calculus.specs.Points.{point_after}
use Rattle.spec_calculus.specs.Bounds.{most_visits}
use Rattle.spec_calculus.proofs.Plain.{plain_greatest}
use Rattle.spec_terms.specs.Term.{Term, Subst}
use Rattle.spec_clauses.specs.Fact.{Fact, Att, Mess, Tab, Ev, Mev, Bad, Clause, outline}
use Rattle.spec_clauses.specs.Norm.{norms}
use Rattle.spec_clauses.specs.Limits.{is_large_raw}
use Rattle.spec_clauses.specs.Inclusion.{Has}
use Rattle.spec_clauses.proofs.Inclusion.{Has-append, Has-flat_map_source}
use Rattle.spec_clauses.proofs.Lists.{all_append}
use Rattle.spec_translation.specs.Conversion.{term_in, rule_term, pattern_term}
use Rattle.spec_translation.specs.Attacker.{name_known, fresh_known, done_in, done_after, attacker_raw}
use Rattle.spec_translation.specs.Goal.{goal_raw}
use Rattle.spec_translation.specs.Visit.{Visit, first_visit, visit_under, is_large_visit, evaluates_large, is_public_channel, sent, raw_clause, after_input, after_copy, after_new, event_terms, after_event}
use Rattle.spec_translation.specs.Otherwise.{otherwise_visit}
use Rattle.spec_translation.specs.Course.{Outcome, Done, TooLarge, Finished, Unless, Then, Adds}
use Rattle.spec_translation.specs.Visited.{some_large, EachThen, Copied, Received, Chosen, Visited}
use Rattle.spec_translation.specs.Translation.{Clauses, attacker_clauses, goal_clauses, whole, IsTranslation}
use Rattle.spec_translation.specs.Plain.{IsPlain, IsPlainQuery, is_plain, IsPlainClause, plain_attacker}
use Rattle.spec_translation.proofs.Placement.{IsTold, all_told-under, all_told-more, norms-told, norms-outline}
use Rattle.spec_translation.proofs.Parts.{Gives, finished_gives, counted_gives, unless_gives, then_gives, adds_gives, each_gives, ways_kept, each_kept_gives}
use Rattle.spec_translation.proofs.Goal.{all_at, names_all, done_all}

plain_told : IsTold is_plain
plain_told f g e = of f ∙ (ap is_plain e ∙ sym (of g)) where
  of : (h : Fact Term) → is_plain h ≡ is_plain (outline h)
  of (Att k t) = refl
  of (Mess k t u) = refl
  of (Tab n ts) = refl
  of (Ev e ts) = refl
  of (Mev e ts) = refl
  of (Bad ts) = refl

-- where there is one phase, the attacker's raw clauses are those of that one
pub attacker_of_one_phase : (P : Protocol) → IsPlain P.main → attacker_raw P ≡ plain_attacker P
attacker_of_one_phase P plain =
    let names = filter_map name_known (enumerate_from 1 P.frees) in
    ap (λ g. names ++ (fresh_known ∷ (done_in P 0 ++ done_after P 0 g))) (plain_greatest P.main plain)
    ∙ ap (λ cs. names ++ (fresh_known ∷ cs)) (append-nil (done_in P 0))

-- and each is plain
known_plain : {X : Type 0} (f : X → Term) (xs : List X) → list_all is_plain (map (λ x. Att 0 (f x)) xs) ≡ true
known_plain f [] = refl
known_plain f (x ∷ xs) = known_plain f xs

attacker_plain : (P : Protocol) → AllByRecursion IsPlainClause (plain_attacker P)
attacker_plain P =
    all_append IsPlainClause (filter_map name_known (enumerate_from 1 P.frees)) (fresh_known ∷ done_in P 0)
    (names_all IsPlainClause (λ number. record { hypotheses = refl; conclusion = refl }) (enumerate_from 1 P.frees)) (
      record { hypotheses = refl; conclusion = refl },
      done_all IsPlainClause P 0 (λ number arguments. record { hypotheses = known_plain (λ t. t) arguments; conclusion = refl })
          (λ rule. record { hypotheses = known_plain (rule_term P 0) rule.left; conclusion = refl })
          (record { hypotheses = refl; conclusion = refl }) (record { hypotheses = refl; conclusion = refl }),
    )

norms_plain : (raw c : Clause Term) → IsPlainClause raw → Has (norms raw) c → IsPlainClause c
norms_plain raw c plain h = record {
  hypotheses = norms-told is_plain plain_told raw c plain.hypotheses h;
  conclusion = plain_told c.conclusion raw.conclusion (norms-outline raw c h) ∙ plain.conclusion;
}

-- a visit in phase 0, with such hypotheses
record IsPlainVisit (v : Visit) : Type 0 where
  hypotheses : list_all is_plain v.hypotheses ≡ true
  phase : v.phase ≡ 0

plain-under : (s : Subst) (v : Visit) → IsPlainVisit v → IsPlainVisit (visit_under s v)
plain-under s v k = record { hypotheses = all_told-under is_plain plain_told s v.hypotheses ∙ k.hypotheses; phase = k.phase }

sent_plain : (P : Protocol) (phase : ℕ) (channel message : Term) → phase ≡ 0 → is_plain (sent P phase channel message) ≡ true
sent_plain P phase channel message e =
    let same : nat_eq phase 0 ≡ true = ap (λ k. nat_eq k 0) e in
    elim (is_public_channel P channel) as (λ b. is_plain (cond b (Att phase message) (Mess phase channel message)) ≡ true) [ true ↦ same | false ↦ same ]

plain_more : (v : Visit) (f : Fact Term) → IsPlainVisit v → is_plain f ≡ true → list_all is_plain (v.hypotheses ++ f ∷ []) ≡ true
plain_more v f k e = all_told-more is_plain plain_told v.hypotheses f k.hypotheses e

plain_gives : (P : Protocol) (process : Process) → IsPlain process → (point : ℕ) (v : Visit) → IsPlainVisit v → Gives (Visited P process point v) IsPlainClause
plain_gives P Nil plain point v k = counted_gives IsPlainClause point Finished (finished_gives IsPlainClause)
plain_gives P (Output channel message next) plain point v k =
    let fact = sent P v.phase (term_in P v.scope channel) (term_in P v.scope message) in
    let raw = raw_clause v fact in
    let large = evaluates_large P v (Output channel message next) || is_large_raw raw in
    let R = Adds (norms raw) (Visited P next (point + 1) v) in
    let own : IsPlainClause raw = record { hypotheses = k.hypotheses; conclusion = sent_plain P v.phase (term_in P v.scope channel) (term_in P v.scope message) k.phase } in
    counted_gives IsPlainClause point (Unless large point R) (unless_gives IsPlainClause large point R (λ small.
    adds_gives IsPlainClause (norms raw) (Visited P next (point + 1) v) (λ c. norms_plain raw c own) (plain_gives P next plain (point + 1) v k)))
plain_gives P (Input channel pattern next) plain point v k =
    let R = Received P v channel pattern (λ w. Unless (is_large_visit w) point (Visited P next (point + 1) w)) in
    let large = evaluates_large P v (Input channel pattern next) in
    counted_gives IsPlainClause point (Unless large point R) (unless_gives IsPlainClause large point R (λ small left rest clauses x c h.
    let w = after_input P v channel pattern x.0 in
    let message = pattern_term P v.scope x.0 pattern in
    let fact = sent P v.phase (term_in P v.scope channel) message in
    let own : IsPlainVisit w = record { hypotheses = plain_more v fact k (sent_plain P v.phase (term_in P v.scope channel) message k.phase); phase = k.phase } in
    unless_gives IsPlainClause (is_large_visit w) point (Visited P next (point + 1) w) (λ fits. plain_gives P next plain (point + 1) w own) left rest clauses x.2 c h))
plain_gives P (Parallel left right) plain point v k =
    let R = Visited P left (point + 1) v in
    let S = Visited P right (point_after (point + 1) left) v in
    counted_gives IsPlainClause point (Then R S) (then_gives IsPlainClause R S (plain_gives P left plain.0 (point + 1) v k) (plain_gives P right plain.1 (point_after (point + 1) left) v k))
plain_gives P (Replication copied) plain point v k =
    counted_gives IsPlainClause point (Copied v (λ w. Visited P copied (point + 1) w))
    (λ left rest clauses x c h. plain_gives P copied plain (point + 1) (after_copy v x.0) (record { hypotheses = k.hypotheses; phase = k.phase }) left rest clauses x.2 c h)
plain_gives P (New word next) plain point v k =
    let w = after_new v point in
    counted_gives IsPlainClause point (Unless (is_large_visit w) point (Visited P next (point + 1) w))
    (unless_gives IsPlainClause (is_large_visit w) point (Visited P next (point + 1) w) (λ small. plain_gives P next plain (point + 1) w (record { hypotheses = k.hypotheses; phase = k.phase })))
plain_gives P (Let pattern expression next otherwise) plain point v k =
    let R = λ (w : Visit). Visited P next (point + 1) w in
    let w_else = otherwise_visit P v pattern expression in
    let T = Visited P otherwise (point_after (point + 1) next) w_else in
    let C = Chosen P v pattern expression point R T in
    let large = evaluates_large P v (Let pattern expression next otherwise) in
    counted_gives IsPlainClause point (Unless large point C) (unless_gives IsPlainClause large point C (λ small left rest clauses x c h.
    let ways = ways_kept IsPlainVisit plain-under P v pattern (λ at. record { hypotheses = k.hypotheses; phase = k.phase }) expression x.0 x.1 in
    let each = each_kept_gives IsPlainVisit plain-under R IsPlainClause (λ w own. plain_gives P next plain.0 (point + 1) w own) x.0 ways in
    unless_gives IsPlainClause (some_large x.0) point (EachThen R x.0 T) (λ fits. each_gives IsPlainClause R T (plain_gives P otherwise plain.1 (point_after (point + 1) next) w_else (record { hypotheses = k.hypotheses; phase = k.phase })) x.0 each) left rest clauses x.2 c h))
plain_gives P (Event performed next) plain point v k =
    let raw = raw_clause v (Ev performed.event (event_terms P v performed)) in
    let w = after_event P v performed in
    let large = evaluates_large P v (Event performed next) || (is_large_raw raw || is_large_visit w) in
    let R = Adds (norms raw) (Visited P next (point + 1) w) in
    let own : IsPlainVisit w = record { hypotheses = plain_more v (Mev performed.event (event_terms P v performed)) k refl; phase = k.phase } in
    counted_gives IsPlainClause point (Unless large point R) (unless_gives IsPlainClause large point R (λ small.
    adds_gives IsPlainClause (norms raw) (Visited P next (point + 1) w) (λ c. norms_plain raw c (record { hypotheses = k.hypotheses; conclusion = refl })) (plain_gives P next plain (point + 1) w own)))
plain_gives P (Phase number next) plain point v k = absurd plain
plain_gives P (Insert table arguments next) plain point v k = absurd plain
plain_gives P (Get table patterns condition next otherwise) plain point v k = absurd plain

goal_plain : (P : Protocol) (q : Query) → IsPlainQuery q → IsPlainClause (goal_raw P q)
goal_plain P (Secret message phase) plain = let same : (nat_eq phase 0 && true) ≡ true = ap (λ k. nat_eq k 0 && true) plain in record { hypotheses = same; conclusion = refl }
goal_plain P (SecretNew point phase) plain = let same : (nat_eq phase 0 && true) ≡ true = ap (λ k. nat_eq k 0 && true) plain in record { hypotheses = same; conclusion = refl }
goal_plain P (Correspondence left alternatives) plain = record { hypotheses = refl; conclusion = refl }

-- So is each clause of its translation.
pub clauses_plain : (P : Protocol) (q : Query) (all : List (Clause Term)) (c : Clause Term) → IsPlain P.main → IsPlainQuery q → IsTranslation P q (Clauses all) → Has all c → IsPlainClause c
clauses_plain P q all c plain asked translated has = go translated.0 translated.1 translated.2 where
  of_attacker : Has (attacker_clauses P) c → IsPlainClause c
  of_attacker h =
      let source = Has-flat_map_source norms (attacker_raw P) c h in
      let own = all_at IsPlainClause source.1.1 (subst (AllByRecursion IsPlainClause) (sym (attacker_of_one_phase P plain)) (attacker_plain P)) in
      norms_plain source.0 c own source.2

  go : (out : Outcome) → Visited P P.main 1 first_visit most_visits out → Clauses all ≡ whole P q out → IsPlainClause c
  go (TooLarge point) visited e = cc
  go (Done clauses left) visited e =
      let same : all ≡ attacker_clauses P ++ (clauses ++ goal_clauses P q) = cc in
      let there = subst (λ cs. Has cs c) same has in
      let later = clauses ++ goal_clauses P q in
      ⊎_elim of_attacker
      (λ k. ⊎_elim (plain_gives P P.main plain 1 first_visit (record { hypotheses = refl; phase = refl }) most_visits left clauses visited c) (norms_plain (goal_raw P q) c (goal_plain P q asked)) ((Has-append clauses (goal_clauses P q) c).0 k))
      ((Has-append (attacker_clauses P) later c).0 there)
