-- A walk goes on from a node that was done once.
use Rattle.std.proofs.Common.{◌≡◌, ℕ, ◌+◌, ◌-◌, ◌<◌, ◌≤◌, nat_eq, nat_lt, Bool, true, false, cond, List, [], ◌∷◌, ◌++◌, length, slice_get, take, Option, None, Some, option_and_then, option_map, refl, sym, ap, ◌∙◌, eqb-true, arith}
use Rattle.std.proofs.lemmas.List.{append-nil}
use Rattle.spec_calculus.specs.Syntax.{Process, Nil, Output, Input, Parallel, Replication, New, Let, Event, Phase, Insert, Get, Protocol}
use Rattle.spec_calculus.specs.Points.{point_after}
use Rattle.spec_calculus.specs.Runs.{Split, Copy, Mark, Put}
use Rattle.spec_calculus.proofs.Items.{if_some-is}
use Rattle.spec_terms.specs.Term.{Term}
use Rattle.spec_attack_runs.specs.Source.{Choice, Taken, Else}
use Rattle.spec_attack_runs.specs.Compiling.{Done, State}
use Rattle.spec_attack_runs.specs.Walking.{Walk, acts_at, plain_node, once, goes_below, below, next_of, sends, receives, makes, chooses, fetches, begin, with_message, with_copy, with_choice, with_entry, turns, branch, taken_messages, walked}
use Rattle.spec_attack_runs.specs.Attack.{most_steps}
use Rattle.spec_attack_runs.proofs.Longer.{walked_longer}
use Rattle.attack_compiling.specs.Walks.{once_at, Spot, with_next, branch_at, below_at}

-- points that differ
pub points_apart : (a b : ℕ) → (a ≡ b → ⊥) → nat_eq a b ≡ false
points_apart a b differ = go (nat_eq a b) refl
  where
    go : (t : Bool) → nat_eq a b ≡ t → nat_eq a b ≡ false
    go true e = absurd (differ (eqb-true a b e))
    go false e = e

-- the walk at a spot
abbrev pub goes_on : Protocol → State → Option Spot → Option State
goes_on P s None = None
goes_on P s (Some spot) = walked P spot.0 spot.1 spot.2 s

-- behind the node the walk ends where the node is the last of the way
abbrev pub goes : Protocol → Bool → State → Option Spot → Option State
goes P true s spot = Some s
goes P false s spot = goes_on P s spot

abbrev pub gone : Protocol → ℕ → Walk → (ℕ → Option Spot) → Option (Done × State) → Option State
gone P point walk spot None = None
gone P point walk spot (Some (done, s)) = goes P (nat_eq point walk.ahead.point) s (spot done.other)

below_gone : (P : Protocol) (point : ℕ) (walk : Walk) (go : Done → State → Option State) (spot : ℕ → Option Spot) → ((d : Done) (s : State) → go d s ≡ goes_on P s (spot d.other))
    → (o : Option (Done × State)) → below point walk go o ≡ gone P point walk spot o
below_gone P point walk go spot same None = refl
below_gone P point walk go spot same (Some (d, s)) = last (nat_eq point walk.ahead.point)
  where
    last : (b : Bool) → goes_below b d s go ≡ goes P b s (spot d.other)
    last true = refl
    last false = same d s

-- behind what comes next of a list
next_gone : {A : Type 0} (P : Protocol) (point : ℕ) (walk : Walk) (st : State) (node : A → Done) (acted : A → Option State) (go : A → List A → Done → State → Option State) (spot : A → List A → ℕ → Option Spot)
    → ((x : A) (xs : List A) (d : Done) (s : State) → go x xs d s ≡ goes_on P s (spot x xs d.other)) → (items : List A)
    → next_of items (λ x xs. below point walk (go x xs) (once st (node x) (acted x)))
    ≡ gone P point walk (λ other. with_next items (λ x xs. spot x xs other)) (option_and_then (λ n. once st n (next_of items (λ x xs. acted x))) (option_map node (slice_get items 0)))
next_gone P point walk st node acted go spot same [] = refl
next_gone P point walk st node acted go spot same (x ∷ xs) = below_gone P point walk (go x xs) (spot x xs) (same x xs) (once st (node x) (acted x))

-- the same where what is done doesn't depend on it
copy_gone : {A : Type 0} (P : Protocol) (point : ℕ) (walk : Walk) (st : State) (node : A → Done) (acted : Option State) (go : A → List A → Done → State → Option State) (spot : A → List A → ℕ → Option Spot)
    → ((x : A) (xs : List A) (d : Done) (s : State) → go x xs d s ≡ goes_on P s (spot x xs d.other)) → (items : List A)
    → next_of items (λ x xs. below point walk (go x xs) (once st (node x) acted))
    ≡ gone P point walk (λ other. with_next items (λ x xs. spot x xs other)) (option_and_then (λ n. once st n acted) (option_map node (slice_get items 0)))
copy_gone P point walk st node acted go spot same [] = refl
copy_gone P point walk st node acted go spot same (x ∷ xs) = below_gone P point walk (go x xs) (spot x xs) (same x xs) (once st (node x) acted)

-- no messages are taken where none are asked for
entry_none : (walk : Walk) (rest : List Choice) → with_entry walk 0 rest ≡ with_choice walk rest
entry_none walk rest = ap (λ (l : List Term). record walk { received = l; ahead = record walk.ahead { choices = rest } }) (append-nil walk.received)

module _ (P : Protocol) where
  branch_goes : (next otherwise : Process) (count point : ℕ) (walk : Walk) (choice : Choice) (rest : List Choice) (s : State)
      → branch choice (λ u. walked P next (point + 1) (with_entry walk count rest) s) (λ u. walked P otherwise (point_after (point + 1) next) (with_choice walk rest) s)
      ≡ goes_on P s (Some (branch_at next otherwise count point walk choice rest))
  branch_goes next otherwise count point walk (Taken label) rest s = refl
  branch_goes next otherwise count point walk Else rest s = refl

  choice_goes : (next otherwise : Process) (point : ℕ) (walk : Walk) (choice : Choice) (rest : List Choice) (s : State)
      → branch choice (λ u. walked P next (point + 1) (with_choice walk rest) s) (λ u. walked P otherwise (point_after (point + 1) next) (with_choice walk rest) s)
      ≡ goes_on P s (Some (branch_at next otherwise 0 point walk choice rest))
  choice_goes next otherwise point walk (Taken label) rest s = ap (λ (w : Walk). walked P next (point + 1) w s) (sym (entry_none walk rest))
  choice_goes next otherwise point walk Else rest s = refl

  turn_goes : (left right : Process) (point : ℕ) (walk : Walk) (other : ℕ) (s : State) (b : Bool)
      → turns b (λ u. walked P left (point + 1) walk s) (λ u. walked P right (point_after (point + 1) left) (record walk { thread = other }) s)
      ≡ goes_on P s (cond b (Some (left, point + 1, walk)) (Some (right, point_after (point + 1) left, record walk { thread = other })))
  turn_goes left right point walk other s true = refl
  turn_goes left right point walk other s false = refl

  pub walked_gone : (process : Process) (point : ℕ) (walk : Walk) (st : State) → walked P process point walk st ≡ gone P point walk (below_at process point walk) (once_at P process point walk st)
  unfolding walked
  walked_gone Nil point walk st = refl
  walked_gone (Output channel message next) point walk st =
      below_gone P point walk (λ done s. walked P next (point + 1) walk s) (below_at (Output channel message next) point walk) (λ d s. refl) (once st (plain_node point walk) (sends P point walk st))
  walked_gone (Input channel pattern next) point walk st =
      next_gone P point walk st (λ t. record (plain_node point walk) { messages = t ∷ [] }) (λ t. receives P point walk t st) (λ t ts done s. walked P next (point + 1) (with_message walk t ts) s)
      (λ t ts other. Some (next, point + 1, with_message walk t ts)) (λ t ts d s. refl) walk.ahead.messages
  walked_gone (Parallel left right) point walk st =
      below_gone P point walk (λ done s. turns (nat_lt walk.ahead.point (point_after (point + 1) left))
      (λ u. walked P left (point + 1) walk s) (λ u. walked P right (point_after (point + 1) left) (record walk { thread = done.other }) s))
      (below_at (Parallel left right) point walk) (λ d s. turn_goes left right point walk d.other s (nat_lt walk.ahead.point (point_after (point + 1) left)))
      (once st (record (plain_node point walk) { other = length st.configuration.threads + 1 }) (acts_at P point walk (Split walk.thread) st))
  walked_gone (Replication copied) point walk st =
      copy_gone P point walk st (λ t. record (plain_node point walk) { sessions = walk.copied ++ t ∷ []; other = length st.configuration.threads + 1 }) (acts_at P point walk (Copy walk.thread) st)
      (λ t ts done s. walked P copied (point + 1) (with_copy walk done.other t ts) s) (λ t ts other. Some (copied, point + 1, with_copy walk other t ts)) (λ t ts d s. refl) walk.ahead.sessions
  walked_gone (New word next) point walk st =
      below_gone P point walk (λ done s. walked P next (point + 1) walk s) (below_at (New word next) point walk) (λ d s. refl) (once st (plain_node point walk) (makes P point walk st))
  walked_gone (Let pattern expression next otherwise) point walk st =
      next_gone P point walk st (λ choice. record (plain_node point walk) { choice = choice }) (λ choice. chooses P point walk choice st)
      (λ choice rest done s. branch choice (λ u. walked P next (point + 1) (with_choice walk rest) s) (λ u. walked P otherwise (point_after (point + 1) next) (with_choice walk rest) s))
      (λ choice rest other. Some (branch_at next otherwise 0 point walk choice rest)) (λ choice rest d s. choice_goes next otherwise point walk choice rest s) walk.ahead.choices
  walked_gone (Event performed next) point walk st =
      below_gone P point walk (λ done s. walked P next (point + 1) walk s) (below_at (Event performed next) point walk) (λ d s. refl) (once st (plain_node point walk) (acts_at P point walk (Mark walk.thread) st))
  walked_gone (Phase number next) point walk st =
      below_gone P point walk (λ done s. walked P next (point + 1) walk s) (below_at (Phase number next) point walk) (λ d s. refl) (once st (plain_node point walk) (begin P (number - st.configuration.phase) st))
  walked_gone (Insert table arguments next) point walk st =
      below_gone P point walk (λ done s. walked P next (point + 1) walk s) (below_at (Insert table arguments next) point walk) (λ d s. refl) (once st (plain_node point walk) (acts_at P point walk (Put walk.thread) st))
  walked_gone (Get table patterns condition next otherwise) point walk st =
      next_gone P point walk st (λ choice. record (plain_node point walk) { choice = choice; messages = taken_messages choice (take (length patterns) walk.ahead.messages) })
      (λ choice. fetches P point walk table choice (take (length patterns) walk.ahead.messages) st)
      (λ choice rest done s. branch choice (λ u. walked P next (point + 1) (with_entry walk (length patterns) rest) s) (λ u. walked P otherwise (point_after (point + 1) next) (with_choice walk rest) s))
      (λ choice rest other. Some (branch_at next otherwise (length patterns) point walk choice rest)) (λ choice rest d s. branch_goes next otherwise (length patterns) point walk choice rest s) walk.ahead.choices

  -- a walk has no fewer steps than the node from which it goes on
  goes_longer : (b : Bool) (s next : State) (spot : Option Spot) → goes P b s spot ≡ Some next → length s.steps ≤ length next.steps
  goes_longer true s next spot e = let same : s ≡ next = cc in omega (arith, ap (λ (n : State). length n.steps) same)
  goes_longer false s next None e = cc
  goes_longer false s next (Some spot) e =
      if_some-is (λ (n : State). length s.steps ≤ length n.steps) (walked P spot.0 spot.1 spot.2 s) next (walked_longer P (length s.steps) spot.0 spot.1 spot.2 s (omega arith)) e

  pub gone_stuck : (point : ℕ) (walk : Walk) (spot : ℕ → Option Spot) (o : Option (Done × State)) → ((node : Done) (s : State) → o ≡ Some (node, s) → most_steps < length s.steps)
      → (next : State) → gone P point walk spot o ≡ Some next → most_steps < length next.steps
  gone_stuck point walk spot None stuck next e = cc
  gone_stuck point walk spot (Some (node, s)) stuck next e =
      let first = stuck node s refl in
      let second = goes_longer (nat_eq point walk.ahead.point) s next (spot node.other) e in omega (arith, first, second)

  -- the last node, and one that is not the last
  pub gone_last : (point : ℕ) (walk : Walk) (spot : ℕ → Option Spot) (node : Done) (s : State) (o : Option (Done × State)) → o ≡ Some (node, s) → nat_eq point walk.ahead.point ≡ true → gone P point walk spot o ≡ Some s
  gone_last point walk spot node s o e last = ap (gone P point walk spot) e ∙ ap (λ (b : Bool). goes P b s (spot node.other)) last

  pub gone_further : (point : ℕ) (walk : Walk) (spot : ℕ → Option Spot) (node : Done) (s : State) (o : Option (Done × State)) → o ≡ Some (node, s) → nat_eq point walk.ahead.point ≡ false → gone P point walk spot o ≡ goes_on P s (spot node.other)
  gone_further point walk spot node s o e further = ap (gone P point walk spot) e ∙ ap (λ (b : Bool). goes P b s (spot node.other)) further

  -- how a walk goes on that came to a node
  module _ (whole : Option State) (process : Process) (point : ℕ) (walk : Walk) (st : State) (same : whole ≡ walked P process point walk st) where
    gone_whole : whole ≡ gone P point walk (below_at process point walk) (once_at P process point walk st)
    gone_whole = same ∙ walked_gone process point walk st

    pub stuck_here : ((node : Done) (s : State) → once_at P process point walk st ≡ Some (node, s) → most_steps < length s.steps) → (next : State) → whole ≡ Some next → most_steps < length next.steps
    stuck_here stuck next e = gone_stuck point walk (below_at process point walk) (once_at P process point walk st) stuck next (sym gone_whole ∙ e)

    pub ends_here : (node : Done) (s : State) → once_at P process point walk st ≡ Some (node, s) → nat_eq point walk.ahead.point ≡ true → whole ≡ Some s
    ends_here node s e last = gone_whole ∙ gone_last point walk (below_at process point walk) node s (once_at P process point walk st) e last

    pub goes_as : (node : Done) (s : State) (other : ℕ) (spot : Option Spot) → once_at P process point walk st ≡ Some (node, s) → node.other ≡ other → nat_eq point walk.ahead.point ≡ false → below_at process point walk other ≡ spot → whole ≡ goes_on P s spot
    goes_as node s other spot e begun further below =
        gone_whole ∙ (gone_further point walk (below_at process point walk) node s (once_at P process point walk st) e further ∙ ap (goes_on P s) (ap (below_at process point walk) begun ∙ below))
