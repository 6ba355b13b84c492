-- What holds of each clause that visits add, one combinator of courses at a time.
use Rattle.std.proofs.Common.{◌≡◌, ◌∙◌, ℕ, zero, suc, ◌+◌, Bool, true, false, ◌||◌, cond, Option, Some, None, List, [], ◌∷◌, ◌++◌, map, refl, sym, subst, ⊎_elim}
use Rattle.std.specs.Option.{IfSome}
use Rattle.std.specs.List.{AllByRecursion, list_all}
use Rattle.spec_trees.proofs.Occurrence.{or_false}
use Rattle.spec_calculus.specs.Syntax.{Process, Nil, Output, Input, Parallel, Replication, New, Let, Event, Phase, Insert, Get, Pattern, Expression, Ruled, Condition, Protocol}
use Rattle.spec_calculus.specs.Points.{point_after}
use Rattle.spec_calculus.specs.Choices.{choices}
use Rattle.spec_terms.specs.Term.{Term, Subst}
use Rattle.spec_clauses.specs.Fact.{Fact, Att, Mess, Tab, Ev, Mev, Clause}
use Rattle.spec_clauses.specs.Norm.{norms, IsNormal}
use Rattle.spec_clauses.specs.Limits.{is_large_raw, IsWithinLimit}
use Rattle.spec_clauses.specs.Inclusion.{Has}
use Rattle.spec_clauses.proofs.Inclusion.{Has-append}
use Rattle.spec_clauses.proofs.NormAnswers.{norms-normal}
use Rattle.spec_clauses.proofs.Limits.{norms-within_limit}
use Rattle.spec_translation.specs.Conversion.{term_in, Fresh, pattern_term}
use Rattle.spec_translation.specs.Visit.{Visit, visit_under, is_large_visit, evaluates_large, is_public_channel, sent, raw_clause, after_input, after_copy, after_new, event_terms, after_event, after_phase, written_terms}
use Rattle.spec_translation.specs.Choice.{Choice, with_pattern, ruled_choice, GoesOn, EachGoesOn, AllGoOn, entry_choice, EntryGoesOn}
use Rattle.spec_translation.specs.Otherwise.{otherwise_visit}
use Rattle.spec_translation.specs.Course.{Outcome, Done, TooLarge, Course, Finished, Counted, Unless, preceded, After, Then, Adds}
use Rattle.spec_translation.specs.Visited.{some_large, EachThen, Copied, Received, Chosen, Fetched, Visited}
use Rattle.spec_translation.specs.Satisfied.{is_bad}
use Rattle.spec_translation.specs.Placement.{may_be_supposed, may_be_concluded, IsWellPlaced}
use Rattle.spec_translation.proofs.Placement.{norms-bad, norms-concluded, norms-told, all_told-under, all_told-more, supposed_told}

-- this holds of each clause with which the course is done
abbrev pub Gives : Course → (Clause Term → Type 0) → Type 0
Gives R Q = (left rest : ℕ) (clauses : List (Clause Term)) → R left (Done clauses rest) → (c : Clause Term) → Has clauses c → Q c

module _ (Q : Clause Term → Type 0) where
  pub finished_gives : Gives Finished Q
  finished_gives left rest clauses x c h = let same : clauses ≡ [] = cc in elim (subst (λ cs. Has cs c) same h).1 [ ]

  pub counted_gives : (point : ℕ) (R : Course) → Gives R Q → Gives (Counted point R) Q
  counted_gives point R gives zero rest clauses x c h = cc
  counted_gives point R gives (suc left) rest clauses x c h = gives left rest clauses x c h

  -- a course that goes on goes on where it is not too large
  pub unless_gives : (b : Bool) (point : ℕ) (R : Course) → (b ≡ false → Gives R Q) → Gives (Unless b point R) Q
  unless_gives true point R gives left rest clauses x c h = cc
  unless_gives false point R gives left rest clauses x c h = gives refl left rest clauses x c h

  after_gives : (first : List (Clause Term)) (left : ℕ) (R : Course) → ((c : Clause Term) → Has first c → Q c) → Gives R Q → (rest : ℕ) (clauses : List (Clause Term)) → After (Done first left) R (Done clauses rest) → (c : Clause Term) → Has clauses c → Q c
  after_gives first left R before gives rest clauses x c h = go x.0 x.1 x.2 where
    go : (out : Outcome) → R left out → Done clauses rest ≡ preceded first out → Q c
    go (TooLarge point) r e = cc
    go (Done more last) r e =
        let same : clauses ≡ first ++ more = cc in
        ⊎_elim (before c) (gives left last more r c) ((Has-append first more c).0 (subst (λ cs. Has cs c) same h))

  pub then_gives : (R S : Course) → Gives R Q → Gives S Q → Gives (Then R S) Q
  then_gives R S first second left rest clauses x c h = go x.0 x.1 x.2 where
    go : (out : Outcome) → R left out → After out S (Done clauses rest) → Q c
    go (TooLarge point) r e = cc
    go (Done more last) r e = after_gives more last S (first left last more r) second rest clauses e c h

  pub adds_gives : (first : List (Clause Term)) (R : Course) → ((c : Clause Term) → Has first c → Q c) → Gives R Q → Gives (Adds first R) Q
  adds_gives first R before gives left rest clauses x c h = after_gives first left R before gives rest clauses x c h

  pub each_gives : (R : Visit → ℕ → Outcome → Type 0) (last : Course) → Gives last Q → (outs : List (Option Visit)) → AllByRecursion (λ out. IfSome out (λ v. Gives (R v) Q)) outs → Gives (EachThen R outs last) Q
  each_gives R last gives [] each = gives
  each_gives R last gives (None ∷ outs) each = each_gives R last gives outs each.1
  each_gives R last gives (Some v ∷ outs) each = then_gives (R v) (EachThen R outs last) each.0 (each_gives R last gives outs each.1)

-- the hypotheses of a visit may be supposed
abbrev IsSound : Visit → Type 0
IsSound v = list_all may_be_supposed v.hypotheses ≡ true

-- what is sent is `att` or `mess`
sent_placed : (P : Protocol) (phase : ℕ) (channel message : Term) → (may_be_supposed (sent P phase channel message) ≡ true) × (may_be_concluded (sent P phase channel message) ≡ true) × (is_bad (sent P phase channel message) ≡ false)
sent_placed P phase channel message = go (is_public_channel P channel) where
  go : (b : Bool) → (may_be_supposed (cond b (Att phase message) (Mess phase channel message)) ≡ true) × (may_be_concluded (cond b (Att phase message) (Mess phase channel message)) ≡ true) × (is_bad (cond b (Att phase message) (Mess phase channel message)) ≡ false)
  go true = (refl, refl, refl)
  go false = (refl, refl, refl)

-- what holds of a choice's visit, and under substitutions, holds of each visit that goes on
module _ (K : Visit → Type 0) (kept : (s : Subst) (v : Visit) → K v → K (visit_under s v)) where
  pub choice_kept : (c : Choice) (out : Option Visit) → K c.visit → GoesOn c out → IfSome out K
  choice_kept c None k goes = tt
  choice_kept c (Some w) k goes = subst K (sym goes.2) (kept goes.0 c.visit k)

  module _ (P : Protocol) (v : Visit) (pattern : Pattern) (bound : (at : Fresh) → K (with_pattern v pattern at)) where
    each_choice_kept : (rs : List Ruled) (outs : List (Option Visit)) → EachGoesOn P v pattern rs outs → AllByRecursion (λ out. IfSome out K) outs
    each_choice_kept [] outs a = subst (AllByRecursion (λ out. IfSome out K)) (sym a) tt
    each_choice_kept (ruled ∷ rs) outs a =
        let r = a.2 in
        let first : IfSome a.0 K = choice_kept (ruled_choice P v pattern ruled r.base r.at) a.0 (bound r.at) r.goes_on in
        let both : AllByRecursion (λ out. IfSome out K) (a.0 ∷ a.1) = (first, each_choice_kept rs a.1 a.3) in
        subst (AllByRecursion (λ out. IfSome out K)) (sym a.4) both

    pub ways_kept : (expression : Expression) (outs : List (Option Visit)) → AllGoOn P v pattern expression outs → AllByRecursion (λ out. IfSome out K) outs
    ways_kept expression outs a = each_choice_kept (map (λ c. c.ruled) (choices P expression)) outs a

  -- so each visit that goes on gives what such visits give
  pub each_kept_gives : (R : Visit → ℕ → Outcome → Type 0) (Q : Clause Term → Type 0) → ((v : Visit) → K v → Gives (R v) Q) → (outs : List (Option Visit)) → AllByRecursion (λ out. IfSome out K) outs → AllByRecursion (λ out. IfSome out (λ v. Gives (R v) Q)) outs
  each_kept_gives R Q gives [] all = tt
  each_kept_gives R Q gives (None ∷ outs) all = (tt, each_kept_gives R Q gives outs all.1)
  each_kept_gives R Q gives (Some v ∷ outs) all = (gives v all.0, each_kept_gives R Q gives outs all.1)

sound-under : (s : Subst) (v : Visit) → IsSound v → IsSound (visit_under s v)
sound-under s v sound = all_told-under may_be_supposed supposed_told s v.hypotheses ∙ sound

supposed-more : (hs : List (Fact Term)) (f : Fact Term) → list_all may_be_supposed hs ≡ true → may_be_supposed f ≡ true → list_all may_be_supposed (hs ++ f ∷ []) ≡ true
supposed-more hs f e k = all_told-more may_be_supposed supposed_told hs f e k

entry_sound : (P : Protocol) (v : Visit) (table : ℕ) (patterns : List Pattern) (condition : Condition) (large : Bool) (out : Option Visit) → IsSound v → EntryGoesOn P v table patterns condition large out → IfSome out IsSound
entry_sound P v table patterns condition large out sound a =
    choice_kept IsSound sound-under (entry_choice P v table patterns condition a.at) out (supposed-more v.hypotheses (Tab table (map (pattern_term P v.scope a.at) patterns)) sound refl) a.goes_on

-- A clause that a visit adds: its own norm, within the limit of size, its facts where they may stand, and no goal.
pub record IsVisited (c : Clause Term) : Type 0 where
  pub normal : IsNormal c
  pub within : IsWithinLimit c
  pub placed : IsWellPlaced c
  pub no_goal : is_bad c.conclusion ≡ false

raw_visited : (v : Visit) (f : Fact Term) → IsSound v → may_be_concluded f ≡ true → is_bad f ≡ false → is_large_raw (raw_clause v f) ≡ false → (c : Clause Term) → Has (norms (raw_clause v f)) c → IsVisited c
raw_visited v f sound concluded no_goal small c h = record {
  normal = norms-normal (raw_clause v f) c h;
  within = norms-within_limit (raw_clause v f) c small h;
  placed = record { hypotheses = norms-told may_be_supposed supposed_told (raw_clause v f) c sound h; conclusion = norms-concluded (raw_clause v f) c h ∙ concluded };
  no_goal = norms-bad (raw_clause v f) c h ∙ no_goal;
}

pub visited_gives : (P : Protocol) (process : Process) (point : ℕ) (v : Visit) → IsSound v → Gives (Visited P process point v) IsVisited
visited_gives P Nil point v sound = counted_gives IsVisited point Finished (finished_gives IsVisited)
visited_gives P (Output channel message next) point v sound =
    let fact = sent P v.phase (term_in P v.scope channel) (term_in P v.scope message) in
    let raw = raw_clause v fact in
    let process = Output channel message next in
    let R = Adds (norms raw) (Visited P next (point + 1) v) in
    let placed = sent_placed P v.phase (term_in P v.scope channel) (term_in P v.scope message) in
    counted_gives IsVisited point (Unless (evaluates_large P v process || is_large_raw raw) point R)
    (unless_gives IsVisited (evaluates_large P v process || is_large_raw raw) point R (λ small.
    adds_gives IsVisited (norms raw) (Visited P next (point + 1) v) (raw_visited v fact sound placed.1 placed.2 (or_false (evaluates_large P v process) (is_large_raw raw) small).1) (visited_gives P next (point + 1) v sound)))
visited_gives P (Input channel pattern next) point v sound =
    let R = Received P v channel pattern (λ w. Unless (is_large_visit w) point (Visited P next (point + 1) w)) in
    let large = evaluates_large P v (Input channel pattern next) in
    counted_gives IsVisited point (Unless large point R) (unless_gives IsVisited large point R (λ small left rest clauses x c h.
    let w = after_input P v channel pattern x.0 in
    let message = pattern_term P v.scope x.0 pattern in
    let supposed = supposed-more v.hypotheses (sent P v.phase (term_in P v.scope channel) message) sound (sent_placed P v.phase (term_in P v.scope channel) message).0 in
    unless_gives IsVisited (is_large_visit w) point (Visited P next (point + 1) w) (λ fits. visited_gives P next (point + 1) w supposed) left rest clauses x.2 c h))
visited_gives P (Parallel left right) point v sound =
    let R = Visited P left (point + 1) v in
    let S = Visited P right (point_after (point + 1) left) v in
    counted_gives IsVisited point (Then R S) (then_gives IsVisited R S (visited_gives P left (point + 1) v sound) (visited_gives P right (point_after (point + 1) left) v sound))
visited_gives P (Replication copied) point v sound =
    counted_gives IsVisited point (Copied v (λ w. Visited P copied (point + 1) w))
    (λ left rest clauses x c h. visited_gives P copied (point + 1) (after_copy v x.0) sound left rest clauses x.2 c h)
visited_gives P (New word next) point v sound =
    let w = after_new v point in
    counted_gives IsVisited point (Unless (is_large_visit w) point (Visited P next (point + 1) w))
    (unless_gives IsVisited (is_large_visit w) point (Visited P next (point + 1) w) (λ small. visited_gives P next (point + 1) w sound))
visited_gives P (Let pattern expression next otherwise) point v sound =
    let process = Let pattern expression next otherwise in
    let R = λ (w : Visit). Visited P next (point + 1) w in
    let w_else = otherwise_visit P v pattern expression in
    let T = Visited P otherwise (point_after (point + 1) next) w_else in
    let C = Chosen P v pattern expression point R T in
    counted_gives IsVisited point (Unless (evaluates_large P v process) point C) (unless_gives IsVisited (evaluates_large P v process) point C (λ small left rest clauses x c h.
    let each = each_kept_gives IsSound sound-under R IsVisited (λ w k. visited_gives P next (point + 1) w k) x.0 (ways_kept IsSound sound-under P v pattern (λ at. sound) expression x.0 x.1) in
    unless_gives IsVisited (some_large x.0) point (EachThen R x.0 T) (λ fits. each_gives IsVisited R T (visited_gives P otherwise (point_after (point + 1) next) w_else sound) x.0 each) left rest clauses x.2 c h))
visited_gives P (Event performed next) point v sound =
    let process = Event performed next in
    let fact = Ev performed.event (event_terms P v performed) in
    let raw = raw_clause v fact in
    let w = after_event P v performed in
    let R = Adds (norms raw) (Visited P next (point + 1) w) in
    let large = evaluates_large P v process || (is_large_raw raw || is_large_visit w) in
    counted_gives IsVisited point (Unless large point R) (unless_gives IsVisited large point R (λ small.
    let fits = (or_false (is_large_raw raw) (is_large_visit w) (or_false (evaluates_large P v process) (is_large_raw raw || is_large_visit w) small).1).0 in
    adds_gives IsVisited (norms raw) (Visited P next (point + 1) w) (raw_visited v fact sound refl refl fits)
    (visited_gives P next (point + 1) w (supposed-more v.hypotheses (Mev performed.event (event_terms P v performed)) sound refl))))
visited_gives P (Phase number next) point v sound =
    counted_gives IsVisited point (Visited P next (point + 1) (after_phase v number)) (visited_gives P next (point + 1) (after_phase v number) sound)
visited_gives P (Insert table arguments next) point v sound =
    let fact = Tab table (written_terms P v arguments) in
    let raw = raw_clause v fact in
    let process = Insert table arguments next in
    let R = Adds (norms raw) (Visited P next (point + 1) v) in
    counted_gives IsVisited point (Unless (evaluates_large P v process || is_large_raw raw) point R)
    (unless_gives IsVisited (evaluates_large P v process || is_large_raw raw) point R (λ small.
    adds_gives IsVisited (norms raw) (Visited P next (point + 1) v) (raw_visited v fact sound refl refl (or_false (evaluates_large P v process) (is_large_raw raw) small).1) (visited_gives P next (point + 1) v sound)))
visited_gives P (Get table patterns condition next otherwise) point v sound =
    let process = Get table patterns condition next otherwise in
    let R = λ (w : Visit). Visited P next (point + 1) w in
    let T = Visited P otherwise (point_after (point + 1) next) v in
    let C = Fetched P v table patterns condition point R T in
    counted_gives IsVisited point (Unless (evaluates_large P v process) point C) (unless_gives IsVisited (evaluates_large P v process) point C (λ small left rest clauses x c h.
    let each = each_kept_gives IsSound sound-under R IsVisited (λ w k. visited_gives P next (point + 1) w k) (x.1 ∷ []) (entry_sound P v table patterns condition x.0 x.1 sound x.2, tt) in
    let large = x.0 || some_large (x.1 ∷ []) in
    unless_gives IsVisited large point (EachThen R (x.1 ∷ []) T) (λ fits. each_gives IsVisited R T (visited_gives P otherwise (point_after (point + 1) next) v sound) (x.1 ∷ []) each) left rest clauses x.3 c h))
