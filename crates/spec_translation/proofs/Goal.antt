-- How the list of a translation is made up: the attacker's clauses, those of visits, and the goal, which alone concludes `bad`.
use Rattle.std.proofs.Common.{◌≡◌, ◌∙◌, ℕ, zero, suc, ◌+◌, Bool, true, false, cond, Option, Some, None, List, [], ◌∷◌, ◌++◌, map, refl, ap, sym, subst, ⊎_elim}
use Rattle.std.specs.Prelude.{flat_map, filter_map, not, ◌&&◌}
use Rattle.std.specs.List.{AllByRecursion, list_all, cons_option, enumerate_from}
use Rattle.std.proofs.lemmas.List.{append_assoc}
use Rattle.spec_calculus.specs.Syntax.{Rule, Declared, Query, Secret, SecretNew, Correspondence, Protocol}
use Rattle.spec_calculus.specs.Points.{greatest_phase}
use Rattle.spec_calculus.specs.Bounds.{most_visits}
use Rattle.spec_trees.specs.Tree.{node}
use Rattle.spec_terms.specs.Term.{Ctor, Term}
use Rattle.spec_clauses.specs.Fact.{Att, Clause, terms_of}
use Rattle.spec_clauses.specs.Norm.{norms, IsNormal}
use Rattle.spec_clauses.specs.Inclusion.{Picks, here, there, Has}
use Rattle.spec_clauses.proofs.Inclusion.{Has-append, Has-flat_map_source}
use Rattle.spec_clauses.proofs.Lists.{all_append, all-flat_map}
use Rattle.spec_clauses.proofs.NormAnswers.{norms-normal}
use Rattle.spec_translation.specs.Conversion.{free_term, rule_term}
use Rattle.spec_translation.specs.Attacker.{variables_from, name_known, fresh_known, constructor_applied, rule_applied, message_heard, message_sent, done_in, done_after, attacker_raw}
use Rattle.spec_translation.specs.Goal.{goal_raw}
use Rattle.spec_translation.specs.Visit.{first_visit}
use Rattle.spec_translation.specs.Course.{Outcome, Done, TooLarge}
use Rattle.spec_translation.specs.Visited.{Visited}
use Rattle.spec_translation.specs.Translation.{Clauses, attacker_clauses, goal_clauses, whole, IsTranslation}
use Rattle.spec_translation.specs.Satisfied.{is_bad}
use Rattle.spec_translation.specs.Placement.{may_be_supposed, may_be_concluded, IsWellPlaced}
use Rattle.spec_translation.proofs.Placement.{known_supposed, norms-bad, norms-concluded, norms-told, supposed_told, norms_of_bad}
use Rattle.spec_translation.proofs.Parts.{IsVisited, visited_gives}

-- a clause of a translation that is no goal
record IsOther (c : Clause Term) : Type 0 where
  normal : IsNormal c
  placed : IsWellPlaced c
  no_goal : is_bad c.conclusion ≡ false

-- what may be a raw clause of the attacker: it supposes and concludes `att` and `mess`
record IsOfAttacker (raw : Clause Term) : Type 0 where
  supposed : list_all may_be_supposed raw.hypotheses ≡ true
  concluded : may_be_concluded raw.conclusion ≡ true
  no_goal : is_bad raw.conclusion ≡ false

pub all_filter_map : {X Y : Type 0} (Q : Y → Type 0) (h : X → Option Y) → ((x : X) (y : Y) → h x ≡ Some y → Q y) → (xs : List X) → AllByRecursion Q (filter_map h xs)
all_filter_map Q h each [] = tt
all_filter_map {X} {Y} Q h each (x ∷ xs) = go (h x) refl (all_filter_map Q h each xs) where
  go : (o : Option Y) → h x ≡ o → AllByRecursion Q (filter_map h xs) → AllByRecursion Q (cons_option o (filter_map h xs))
  go None e others = others
  go (Some y) e others = (each x y e, others)

pub all_map : {X Y : Type 0} (Q : Y → Type 0) (h : X → Y) → ((x : X) → Q (h x)) → (xs : List X) → AllByRecursion Q (map h xs)
all_map Q h each [] = tt
all_map Q h each (x ∷ xs) = (each x, all_map Q h each xs)

all_each : {X : Type 0} (Q : X → Type 0) → ((x : X) → Q x) → (xs : List X) → AllByRecursion Q xs
all_each Q each [] = tt
all_each Q each (x ∷ xs) = (each x, all_each Q each xs)

-- what holds of each public name holds of what he has at first, and what holds of each constructor, of each rule and of messages holds of
-- what he can do in a phase
module _ (Q : Clause Term → Type 0) where
  pub names_all : ((number : ℕ) → Q (record { hypotheses = []; diffs = []; conclusion = Att 0 (free_term number) })) → (xs : List (ℕ × Declared)) → AllByRecursion Q (filter_map name_known xs)
  names_all each xs = all_filter_map Q name_known (λ x raw e. go x raw x.1.public e) xs where
    go : (x : ℕ × Declared) (raw : Clause Term) (b : Bool) → cond b (Some (record { hypotheses = []; diffs = []; conclusion = Att 0 (free_term x.0) })) None ≡ Some raw → Q raw
    go x raw true k = let same : record { hypotheses = []; diffs = []; conclusion = Att 0 (free_term x.0) } ≡ raw = cc in subst Q same (each x.0)
    go x raw false k = cc

  pub done_all : (P : Protocol) (phase : ℕ) → ((number : ℕ) (arguments : List Term) → Q (record { hypotheses = map (Att phase) arguments; diffs = []; conclusion = Att phase (node (Ctor number) arguments) }))
      → ((rule : Rule) → Q (rule_applied P phase rule)) → Q (message_heard phase) → Q (message_sent phase) → AllByRecursion Q (done_in P phase)
  done_all P phase each rule heard said =
      let rules = flat_map (λ d. map (rule_applied P phase) d.rules) P.destructors in
      let network = message_heard phase ∷ message_sent phase ∷ [] in
      let of_rules = all_each (λ d. AllByRecursion Q (map (rule_applied P phase) d.rules)) (λ d. all_map Q (rule_applied P phase) rule d.rules) P.destructors in
      let last = all_append Q rules network (all-flat_map Q (λ d. map (rule_applied P phase) d.rules) P.destructors of_rules) (heard, (said, tt)) in
      all_append Q (filter_map (constructor_applied phase) (enumerate_from 1 P.constructors)) (rules ++ network)
      (all_filter_map Q (constructor_applied phase) (λ x raw e. go x raw (x.1.public && not x.1.is_data) e) (enumerate_from 1 P.constructors)) last
    where
      made : ℕ × Declared → Clause Term
      made x = let arguments = variables_from 0 x.1.arity in record { hypotheses = map (Att phase) arguments; diffs = []; conclusion = Att phase (node (Ctor x.0) arguments) }

      go : (x : ℕ × Declared) (raw : Clause Term) (b : Bool) → cond b (Some (made x)) None ≡ Some raw → Q raw
      go x raw true k = let same : made x ≡ raw = cc in subst Q same (each x.0 (variables_from 0 x.1.arity))
      go x raw false k = cc

-- what he can do in a phase, and in later ones
done_of_attacker : (P : Protocol) (phase : ℕ) → AllByRecursion IsOfAttacker (done_in P phase)
done_of_attacker P phase =
    done_all IsOfAttacker P phase (λ number arguments. record { supposed = known_supposed phase (λ t. t) arguments; concluded = refl; no_goal = refl })
    (λ rule. record { supposed = known_supposed phase (rule_term P 0) rule.left; concluded = refl; no_goal = refl })
    (record { supposed = refl; concluded = refl; no_goal = refl }) (record { supposed = refl; concluded = refl; no_goal = refl })

done_after_of_attacker : (P : Protocol) (phase count : ℕ) → AllByRecursion IsOfAttacker (done_after P phase count)
done_after_of_attacker P phase zero = tt
done_after_of_attacker P phase (suc count) = (
  record { supposed = refl; concluded = refl; no_goal = refl },
  all_append IsOfAttacker (done_in P (phase + 1)) (done_after P (phase + 1) count) (done_of_attacker P (phase + 1)) (done_after_of_attacker P (phase + 1) count),
)

-- the attacker's raw clauses
attacker_own : (P : Protocol) → AllByRecursion IsOfAttacker (attacker_raw P)
attacker_own P =
    let fixed : IsOfAttacker fresh_known = record { supposed = refl; concluded = refl; no_goal = refl } in
    let later = done_after P 0 (greatest_phase P.main) in
    all_append IsOfAttacker (filter_map name_known (enumerate_from 1 P.frees)) (fresh_known ∷ (done_in P 0 ++ later))
    (names_all IsOfAttacker (λ number. record { supposed = refl; concluded = refl; no_goal = refl }) (enumerate_from 1 P.frees))
    (fixed, all_append IsOfAttacker (done_in P 0) later (done_of_attacker P 0) (done_after_of_attacker P 0 (greatest_phase P.main)))

pub all_at : {X : Type 0} (Q : X → Type 0) {xs rest : List X} {x : X} → Picks xs x rest → AllByRecursion Q xs → Q x
all_at Q here a = a.0
all_at Q (there p) a = all_at Q p a.1

pub all_of_each : {X : Type 0} (Q : X → Type 0) (xs : List X) → ((x : X) → Has xs x → Q x) → AllByRecursion Q xs
all_of_each Q [] each = tt
all_of_each Q (x ∷ xs) each = (each x (xs, here), all_of_each Q xs (λ y h. each y (x ∷ h.0, there h.1)))

attacker_other : (P : Protocol) (c : Clause Term) → Has (attacker_clauses P) c → IsOther c
attacker_other P c h =
    let source = Has-flat_map_source norms (attacker_raw P) c h in
    let stands = source.1 in
    let own = all_at IsOfAttacker stands.1 (attacker_own P) in
    record {
      normal = norms-normal source.0 c source.2;
      placed = record { hypotheses = norms-told may_be_supposed supposed_told source.0 c own.supposed source.2; conclusion = norms-concluded source.0 c source.2 ∙ own.concluded };
      no_goal = norms-bad source.0 c source.2 ∙ own.no_goal;
    }

-- the goal's raw clause supposes what may be supposed, and concludes `bad`
goal_placed : (P : Protocol) (q : Query) → (list_all may_be_supposed (goal_raw P q).hypotheses ≡ true) × (is_bad (goal_raw P q).conclusion ≡ true) × (may_be_concluded (goal_raw P q).conclusion ≡ true)
goal_placed P (Secret message phase) = (refl, refl, refl)
goal_placed P (SecretNew point phase) = (refl, refl, refl)
goal_placed P (Correspondence left alternatives) = (refl, refl, refl)

-- The goal is one clause.
pub one_goal : (P : Protocol) (q : Query) → (goal : Clause Term) × (goal_clauses P q ≡ goal ∷ [])
one_goal P (Secret message phase) = norms_of_bad (goal_raw P (Secret message phase)).hypotheses [] refl
one_goal P (SecretNew point phase) = norms_of_bad (goal_raw P (SecretNew point phase)).hypotheses [] refl
one_goal P (Correspondence left alternatives) = let raw = goal_raw P (Correspondence left alternatives) in norms_of_bad raw.hypotheses (terms_of raw.conclusion) refl

-- how a list of clauses is made up
pub record AreParts (P : Protocol) (q : Query) (all : List (Clause Term)) : Type 0 where
  pub visited : List (Clause Term)
  pub parts : all ≡ attacker_clauses P ++ (visited ++ goal_clauses P q)
  pub each : (c : Clause Term) → Has visited c → IsVisited c

pub translation_parts : (P : Protocol) (q : Query) (all : List (Clause Term)) → IsTranslation P q (Clauses all) → AreParts P q all
translation_parts P q all x = go x.0 x.1 x.2 where
  go : (out : Outcome) → Visited P P.main 1 first_visit most_visits out → Clauses all ≡ whole P q out → AreParts P q all
  go (TooLarge point) visited e = cc
  go (Done clauses left) visited e = record { visited = clauses; parts = cc; each = visited_gives P P.main 1 first_visit refl most_visits left clauses visited }

visited_other : (c : Clause Term) → IsVisited c → IsOther c
visited_other c k = record { normal = k.normal; placed = k.placed; no_goal = k.no_goal }

-- each clause of a translation is its own norm, and its facts stand where they may
module _ (P : Protocol) (q : Query) (all : List (Clause Term)) (translated : IsTranslation P q (Clauses all)) where
  -- what holds of the attacker's clauses, of the visited ones and of the goal holds of each
  pub each_clause : (Q : Clause Term → Type 0) → ((c : Clause Term) → Has (attacker_clauses P) c → Q c) → ((c : Clause Term) → IsVisited c → Q c) → ((c : Clause Term) → Has (goal_clauses P q) c → Q c) → (c : Clause Term) → Has all c → Q c
  each_clause Q first second third c h =
      let a = translation_parts P q all translated in
      let there = subst (λ cs. Has cs c) a.parts h in
      let later = a.visited ++ goal_clauses P q in
      ⊎_elim (first c)
      (λ k. ⊎_elim (λ v. second c (a.each c v)) (third c) ((Has-append a.visited (goal_clauses P q) c).0 k))
      ((Has-append (attacker_clauses P) later c).0 there)

  pub clauses_normal : (c : Clause Term) → Has all c → IsNormal c
  clauses_normal = each_clause IsNormal (λ c h. (attacker_other P c h).normal) (λ c k. k.normal) (norms-normal (goal_raw P q))

  pub clauses_placed : (c : Clause Term) → Has all c → IsWellPlaced c
  clauses_placed = each_clause IsWellPlaced (λ c h. (attacker_other P c h).placed) (λ c k. k.placed) (λ c h. record {
    hypotheses = norms-told may_be_supposed supposed_told (goal_raw P q) c (goal_placed P q).0 h;
    conclusion = norms-concluded (goal_raw P q) c h ∙ (goal_placed P q).2;
  })

  -- the last clause is the goal, and the others conclude something else
  pub last_goal : (before : List (Clause Term)) × (goal : Clause Term) × (all ≡ before ++ goal ∷ []) × (goal_clauses P q ≡ goal ∷ []) × (is_bad goal.conclusion ≡ true) × AllByRecursion (λ c. is_bad c.conclusion ≡ false) before
  last_goal =
      let a = translation_parts P q all translated in
      let (goal, one) = one_goal P q in
      let before = attacker_clauses P ++ a.visited in
      let no_goal = λ (c : Clause Term). is_bad c.conclusion ≡ false in
      let there : Has (goal_clauses P q) goal = subst (λ cs. Has cs goal) (sym one) ([], here) in (
        before,
        goal,
        a.parts ∙ (ap (λ cs. attacker_clauses P ++ (a.visited ++ cs)) one ∙ sym (append_assoc (attacker_clauses P) a.visited (goal ∷ []))),
        one,
        norms-bad (goal_raw P q) goal there ∙ (goal_placed P q).1,
        all_append no_goal (attacker_clauses P) a.visited
            (all_of_each no_goal (attacker_clauses P) (λ c h. (attacker_other P c h).no_goal))
            (all_of_each no_goal a.visited (λ c h. (a.each c h).no_goal)),
      )
