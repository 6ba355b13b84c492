-- How far the compilation came before it stopped.
use Rattle.std.proofs.Common.{◌≡◌, ℕ, zero, suc, ◌+◌, ◌-◌, ◌<◌, ◌≤◌, nat_eq, Bool, true, false, cond, List, [], ◌∷◌, ◌++◌, length, map, drop, get_or, slice_get, Some, option_and_then, refl, sym, ap, ◌∙◌, subst, append_assoc, add-one, arith}
use Rattle.std.proofs.lemmas.List.{append-nil, map-append, length-map}
use Rattle.spec_calculus.specs.Syntax.{Protocol}
use Rattle.spec_calculus.specs.Points.{greatest_phase}
use Rattle.spec_terms.specs.Term.{Term}
use Rattle.spec_attack_runs.specs.Source.{Source, stage_of}
use Rattle.spec_attack_runs.specs.Compiling.{State, start_state}
use Rattle.spec_attack_runs.specs.Attack.{most_steps, all_compiled, in_phases, by_phase}
use Rattle.pi_model.specs.Steps.{step_of}
use Rattle.clause_instances.specs.declared.instance.Instance.{Instance as MadeInstance}
use Rattle.clause_instances.specs.Instances.{NamesInstance, NameInstances}
use Rattle.attack_state.specs.declared.state.State.{State as MadeState}
use Rattle.attack_state.specs.Outcomes.{IsDoneBy}
use Rattle.attack_state.specs.States.{IsState}
use Rattle.hx.specs.declared.stopping.Progress.{Progress}
use Rattle.hx.specs.declared.stopping.Stopped.{Stopped}
use Rattle.attack_compiling.specs.Compiled.{compile_in}
use Rattle.hx.specs.Stops.{IsStop, AreAllCompiled, of_phase, AreBehind, place_in, IsPlaced, StopsAtOne, IsStopIn, IsPastPhase}
use Rattle.attack_compiling.proofs.InPhases.{one_in, all_compiled-append}

-- instances of a phase that were compiled, and the rest
pub record PlacedSoFar (P : Protocol) (phase : ℕ) (instances rest : List Source) (all : List Term) (st : State) (earlier places : List ℕ) (ids : MadeState) : Type 0 where
  pub before : List Source
  pub split : of_phase phase instances ≡ before ++ of_phase phase rest
  pub at : AreBehind instances earlier before places
  pub next : State
  pub is : IsState all ids next
  pub compiles : all_compiled P before st ≡ Some next

-- phases that were compiled, and the rest
pub record PhasesPlaced (P : Protocol) (instances : List Source) (all : List Term) (phase : ℕ) (places : List ℕ) (ids : MadeState) : Type 0 where
  pub before : List Source
  pub split : by_phase P instances ≡ before ++ in_phases phase (suc (greatest_phase P.main) - phase) instances
  pub at : map (slice_get instances) places ≡ map Some before
  pub next : State
  pub is : IsState all ids next
  pub compiles : all_compiled P before (start_state P) ≡ Some next

-- what is compiled behind what was
module _ (P : Protocol) (before after : List Source) (st mid end : State) where
  pub compiled_behind : all_compiled P before st ≡ Some mid → all_compiled P after mid ≡ Some end → all_compiled P (before ++ after) st ≡ Some end
  compiled_behind first second = all_compiled-append P before after st ∙ (ap (option_and_then (all_compiled P after)) first ∙ second)

-- the first instance and the others, of a phase
apart : (phase : ℕ) (one : Source) (others : List Source) → of_phase phase (one ∷ others) ≡ of_phase phase (one ∷ []) ++ of_phase phase others
apart phase one others = go (nat_eq (stage_of one) phase)
  where
    go : (b : Bool) → cond b (one ∷ of_phase phase others) (of_phase phase others) ≡ cond b (one ∷ []) [] ++ of_phase phase others
    go true = refl
    go false = refl

one_at : (phase : ℕ) (instances : List Source) (one : Source) (i : ℕ) → slice_get instances i ≡ Some one → map (slice_get instances) (place_in phase one i) ≡ map Some (of_phase phase (one ∷ []))
one_at phase instances one i there = go (nat_eq (stage_of one) phase)
  where
    go : (b : Bool) → map (slice_get instances) (cond b (i ∷ []) []) ≡ map Some (cond b (one ∷ []) [])
    go true = ap (λ o. o ∷ []) there
    go false = refl

-- the instance of an index
pub record OneAt (all : List Source) (i : ℕ) : Type 0 where
  pub one : Source
  pub at : slice_get all i ≡ Some one

pub one_there : (a : List Term) (sources : List Source) (ids : List MadeInstance) (all : List Source) (i : ℕ) → i < length ids → NameInstances a sources ids all → OneAt all i
one_there a sources [] [] i within named = absurd (omega (arith, within))
one_there a sources [] (z ∷ zs) i within named = absurd named
one_there a sources (y ∷ ys) [] i within named = absurd named
one_there a sources (y ∷ ys) (z ∷ zs) zero within named = record { one = z; at = refl }
one_there a sources (y ∷ ys) (z ∷ zs) (suc i) within named = let next = one_there a sources ys zs i (omega (arith, within)) named.1 in record { one = next.one; at = next.at }

pub named_at : (a : List Term) (sources : List Source) (ids : List MadeInstance) (all : List Source) (i : ℕ) (x : MadeInstance) (one : Source) → x ≡ get_or ids i x → i < length ids → slice_get all i ≡ Some one → NameInstances a sources ids all
    → NamesInstance a sources x one
named_at a sources [] all i x one found within there named = absurd (omega (arith, within))
named_at a sources (y ∷ ys) [] i x one found within there named = absurd named
named_at a sources (y ∷ ys) (z ∷ zs) zero x one found within there named =
    let same : z ≡ one = cc in subst (λ (s : Source). NamesInstance a sources x s) same (subst (λ (w : MadeInstance). NamesInstance a sources w z) (sym found) named.0)
named_at a sources (y ∷ ys) (z ∷ zs) (suc i) x one found within there named = named_at a sources ys zs i x one found (omega (arith, within)) there named.1

-- how one instance went
module _ (P : Protocol) (phase : ℕ) (one : Source) (all : List Term) (st : State) (before after : Progress) (index : ℕ) where
  pub other_placed : nat_eq (stage_of one) phase ≡ false → IsState all after.state st → after.compiled.items ≡ before.compiled.items → IsPlaced P phase one all st before after index
  other_placed e is same = record {
    done = record { next = st; gives = ap (λ (b : Bool). all_compiled P (cond b (one ∷ []) []) st) e; is = is };
    places = same ∙ (sym (append-nil before.compiled.items) ∙ ap (λ (b : Bool). before.compiled.items ++ cond b (index ∷ []) []) (sym e));
  }

  pub own_placed : nat_eq (stage_of one) phase ≡ true → IsDoneBy (compile_in P phase (one ∷ [])) st all after.state → after.compiled.items ≡ before.compiled.items ++ index ∷ [] → IsPlaced P phase one all st before after index
  own_placed e done same = record { done = done; places = same ∙ ap (λ (b : Bool). before.compiled.items ++ cond b (index ∷ []) []) (sym e) }

-- the loop over the instances of a phase
module _ (P : Protocol) (phase : ℕ) (instances : List Source) (earlier : List ℕ) (st : State) where
  pub placed_start : (all : List Term) (ids : MadeState) → IsState all ids st → PlacedSoFar P phase instances (drop 0 instances) all st earlier earlier ids
  placed_start all ids is = record { before = []; split = refl; at = sym (append-nil (map (slice_get instances) earlier)); next = st; is = is; compiles = refl }

  module _ (all : List Term) (i : ℕ) (one : Source) (rest : drop i instances ≡ one ∷ drop (suc i) instances) (places : List ℕ) (ids : MadeState) (so_far : PlacedSoFar P phase instances (drop i instances) all st earlier places ids) where
    split_here : of_phase phase instances ≡ so_far.before ++ (of_phase phase (one ∷ []) ++ of_phase phase (drop (suc i) instances))
    split_here = so_far.split ∙ ap (λ xs. so_far.before ++ xs) (ap (of_phase phase) rest ∙ apart phase one (drop (suc i) instances))

    -- one that is compiled, or of another phase
    pub placed_more : (later : List Term) (before after : Progress) → before.compiled.items ≡ places → slice_get instances i ≡ Some one → IsPlaced P phase one later so_far.next before after i
        → PlacedSoFar P phase instances (drop (i + 1) instances) later st earlier after.compiled.items after.state
    placed_more later before after same there placed = record {
      before = so_far.before ++ of_phase phase (one ∷ []);
      split = split_here ∙ (sym (append_assoc so_far.before (of_phase phase (one ∷ [])) (of_phase phase (drop (suc i) instances))) ∙ ap (λ (n : ℕ). (so_far.before ++ of_phase phase (one ∷ [])) ++ of_phase phase (drop n instances)) (sym (add-one i)));
      at = ap (map (slice_get instances)) (placed.places ∙ ap (λ xs. xs ++ place_in phase one i) same) ∙ (map-append (slice_get instances) places (place_in phase one i) ∙ (ap (λ xs. xs ++ map (slice_get instances) (place_in phase one i)) so_far.at
          ∙ (ap (λ xs. (map (slice_get instances) earlier ++ map Some so_far.before) ++ xs) (one_at phase instances one i there) ∙ (append_assoc (map (slice_get instances) earlier) (map Some so_far.before) (map Some (of_phase phase (one ∷ [])))
          ∙ ap (λ xs. map (slice_get instances) earlier ++ xs) (sym (map-append Some so_far.before (of_phase phase (one ∷ []))))))));
      next = placed.done.next;
      is = placed.done.is;
      compiles = compiled_behind P so_far.before (of_phase phase (one ∷ [])) st so_far.next placed.done.next so_far.compiles placed.done.gives;
    }

    -- one that can't be
    pub placed_stop : (before progress : Progress) (stopped : Stopped) → before.compiled.items ≡ places → before.state ≡ ids → slice_get instances i ≡ Some one → StopsAtOne P phase one so_far.next before progress i stopped
        → IsStopIn P phase instances st earlier progress stopped
    placed_stop before progress stopped same state there stop = record {
      before = so_far.before;
      next = one;
      after = of_phase phase (drop (suc i) instances);
      split = split_here ∙ ap (λ xs. so_far.before ++ (xs ++ of_phase phase (drop (suc i) instances))) (ap (λ (b : Bool). cond b (one ∷ []) []) stop.is_one);
      before_at = ap (map (slice_get instances)) (stop.places ∙ same) ∙ so_far.at;
      next_at = ap (slice_get instances) stop.at ∙ there;
      so_far = so_far.next;
      compiles = so_far.compiles;
      steps_are = sym (ap length so_far.is.steps) ∙ (length-map ids.steps.items step_of ∙ (ap (λ (s : MadeState). length s.steps.items) (sym state) ∙ sym stop.steps));
      stops = λ next e. stop.stops next (one_in P phase one so_far.next stop.is_one ∙ e);
    }

  -- all of them
  pub placed_end : (all : List Term) (i : ℕ) (progress : Progress) → drop i instances ≡ [] → PlacedSoFar P phase instances (drop i instances) all st earlier progress.compiled.items progress.state → IsPastPhase P phase instances all st earlier progress
  placed_end all i progress e so_far =
      let whole : of_phase phase instances ≡ so_far.before = so_far.split ∙ (ap (λ xs. so_far.before ++ of_phase phase xs) e ∙ append-nil so_far.before) in
      record {
        at = so_far.at ∙ ap (λ xs. map (slice_get instances) earlier ++ map Some xs) (sym whole);
        next = so_far.next;
        is = so_far.is;
        compiles = ap (λ xs. all_compiled P xs st) whole ∙ so_far.compiles;
      }

-- the loop over phases
module _ (P : Protocol) (instances : List Source) where
  pub phases_begin : (all : List Term) (places : List ℕ) (ids : MadeState) → places ≡ [] → IsState all ids (start_state P) → PhasesPlaced P instances all 0 places ids
  phases_begin all places ids none is = record {
    before = [];
    split = ap (λ (n : ℕ). in_phases 0 n instances) (whole (suc (greatest_phase P.main)));
    at = ap (map (slice_get instances)) none;
    next = start_state P;
    is = is;
    compiles = refl;
  }
    where
      whole : (n : ℕ) → n ≡ n - 0
      whole n = omega arith

  module _ (all : List Term) (phase : ℕ) (places : List ℕ) (ids : MadeState) (so_far : PhasesPlaced P instances all phase places ids) where
    abbrev pub rest : List Source
    rest = in_phases (phase + 1) (suc (greatest_phase P.main) - (phase + 1)) instances

    here : phase < greatest_phase P.main + 1 → by_phase P instances ≡ so_far.before ++ (of_phase phase instances ++ rest)
    here less = so_far.split ∙ ap (λ (n : ℕ). so_far.before ++ in_phases phase n instances) (left (greatest_phase P.main) less)
      where
        left : (h : ℕ) → phase < h + 1 → suc h - phase ≡ suc (suc h - (phase + 1))
        left h less = omega (arith, less)

    -- a phase that is compiled
    pub phases_on : (later : List Term) (progress : Progress) → phase < greatest_phase P.main + 1 → IsPastPhase P phase instances later so_far.next places progress → PhasesPlaced P instances later (phase + 1) progress.compiled.items progress.state
    phases_on later progress less past = record {
      before = so_far.before ++ of_phase phase instances;
      split = here less ∙ sym (append_assoc so_far.before (of_phase phase instances) rest);
      at = past.at ∙ (ap (λ xs. xs ++ map Some (of_phase phase instances)) so_far.at ∙ sym (map-append Some so_far.before (of_phase phase instances)));
      next = past.next;
      is = past.is;
      compiles = compiled_behind P so_far.before (of_phase phase instances) (start_state P) so_far.next past.next so_far.compiles past.compiles;
    }

    -- one that isn't
    pub phases_stopped : (progress : Progress) (stopped : Stopped) → phase < greatest_phase P.main + 1 → IsStopIn P phase instances so_far.next places progress stopped → IsStop P instances progress.compiled.items stopped.steps stopped.instance
    phases_stopped progress stopped less stop = record {
      before = so_far.before ++ stop.before;
      next = stop.next;
      after = stop.after ++ rest;
      split = here less ∙ (ap (λ xs. so_far.before ++ (xs ++ rest)) stop.split ∙ (ap (λ xs. so_far.before ++ xs) (append_assoc stop.before (stop.next ∷ stop.after) rest) ∙ sym (append_assoc so_far.before stop.before (stop.next ∷ (stop.after ++ rest)))));
      before_at = stop.before_at ∙ (ap (λ xs. xs ++ map Some stop.before) so_far.at ∙ sym (map-append Some so_far.before stop.before));
      next_at = stop.next_at;
      so_far = stop.so_far;
      compiles = compiled_behind P so_far.before stop.before (start_state P) so_far.next stop.so_far so_far.compiles stop.compiles;
      steps_are = stop.steps_are;
      stops = stop.stops;
    }

    -- all of them
    pub phases_past : greatest_phase P.main + 1 ≤ phase → length ids.steps.items ≤ most_steps → AreAllCompiled P instances
    phases_past past few = record {
      end = so_far.next;
      compile = ap (λ xs. all_compiled P xs (start_state P)) (so_far.split ∙ (ap (λ (n : ℕ). so_far.before ++ in_phases phase n instances) (none (greatest_phase P.main) past) ∙ append-nil so_far.before)) ∙ so_far.compiles;
      short = omega (arith, few, ap length so_far.is.steps, length-map ids.steps.items step_of);
    }
      where
        none : (h : ℕ) → h + 1 ≤ phase → suc h - phase ≡ 0
        none h past = omega (arith, past)
