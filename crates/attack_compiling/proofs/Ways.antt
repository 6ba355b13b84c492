-- What is ahead of a walk behind a message, a copy or a choice.
use Rattle.std.proofs.Common.{◌≡◌, ℕ, zero, suc, ◌+◌, ◌<◌, ◌≤◌, List, [], ◌∷◌, ◌++◌, length, slice_get, take, drop, map, get_or, None, Some, refl, sym, ap, ◌∙◌, arith}
use Rattle.std.proofs.lemmas.List.{length-map, take-map, drop-map, map-append, take_more, drop-drop}
use Rattle.std.proofs.Math.Seq.{take-add}
use Rattle.spec_calculus.specs.Syntax.{Process, Nil, Output, Input, Parallel, Replication, New, Let, Event, Phase, Insert, Get}
use Rattle.spec_calculus.specs.Points.{nodes, point_after}
use Rattle.spec_terms.specs.Term.{Term}
use Rattle.term_tree.specs.Bank.{tree_at, Grows}
use Rattle.term_tree.proofs.BankLaws.{AreKnown-grows, trees_at-grow}
use Rattle.term_tree.specs.declared.bank.Id.{Id}
use Rattle.clause_form.proofs.Comparing.{map_drop, map_dropped}
use Rattle.spec_attack_runs.specs.Source.{Choice, Taken, Else}
use Rattle.spec_attack_runs.specs.Walking as spec
use Rattle.spec_attack_runs.specs.Walking.{with_message, with_copy, with_choice, with_entry}
use Rattle.attack_compiling.specs.declared.walking.Route.{Route}
use Rattle.attack_compiling.specs.declared.walking.Walk.{Walk}
use Rattle.attack_compiling.specs.Walks.{ahead_of, walk_of, IsKnownWay, with_next, branch_at, branches_at}

-- the item at an index of a list under a function
module _ {A B : Type 0} (f : A → B) (xs : List A) (i : ℕ) where
  pub mapped_ahead : (x : A) → x ≡ get_or xs i x → i < length xs → drop i (map f xs) ≡ f x ∷ drop (i + 1) (map f xs)
  mapped_ahead x is within =
      drop-map f i xs ∙ (map_drop f xs i x within ∙ (ap (λ (y : A). f y ∷ map f (drop (i + 1) xs)) (sym is) ∙ ap (λ l. f x ∷ l) (sym (drop-map f (i + 1) xs))))

  pub mapped_past : length xs ≤ i → drop i (map f xs) ≡ []
  mapped_past past = drop-map f i xs ∙ map_dropped f xs i past

  pub mapped_taken : (x : A) → x ≡ get_or xs i x → i < length xs → take (i + 1) (map f xs) ≡ take i (map f xs) ++ f x ∷ []
  mapped_taken x is within =
      take-map f (i + 1) xs ∙ (ap (map f) (take_more xs i x within) ∙ (map-append f (take i xs) (get_or xs i x ∷ [])
      ∙ (ap (λ (y : A). map f (take i xs) ++ f y ∷ []) (sym is) ∙ ap (λ l. l ++ f x ∷ []) (sym (take-map f i xs)))))

-- a process has a node
pub some_node : (process : Process) → 1 ≤ length (nodes process)
some_node Nil = omega arith
some_node (Output channel message next) = omega arith
some_node (Input channel pattern next) = omega arith
some_node (Parallel left right) = omega arith
some_node (Replication copied) = omega arith
some_node (New word next) = omega arith
some_node (Let pattern expression next otherwise) = omega arith
some_node (Event performed next) = omega arith
some_node (Phase number next) = omega arith
some_node (Insert table arguments next) = omega arith
some_node (Get table patterns condition next otherwise) = omega arith

-- as many as there are
take-counted : {A : Type 0} (n : ℕ) (xs : List A) → take (length (take n xs)) xs ≡ take n xs
take-counted zero xs = refl
take-counted (suc n) [] = refl
take-counted (suc n) (x ∷ xs) = ap (λ l. x ∷ l) (take-counted n xs)

drop-counted : {A : Type 0} (n : ℕ) (xs : List A) → drop (length (take n xs)) xs ≡ drop n xs
drop-counted zero xs = refl
drop-counted (suc n) [] = refl
drop-counted (suc n) (x ∷ xs) = drop-counted n xs

-- the first of what is ahead
pub first_ahead : {A : Type 0} (xs : List A) (i : ℕ) → slice_get (drop i xs) 0 ≡ slice_get xs i
first_ahead [] zero = refl
first_ahead [] (suc i) = refl
first_ahead (x ∷ xs) zero = refl
first_ahead (x ∷ xs) (suc i) = first_ahead xs i

rest_of : {A : Type 0} (xs : List A) (i : ℕ) (x : A) (rest : List A) → drop i xs ≡ x ∷ rest → rest ≡ drop (i + 1) xs
rest_of [] zero x rest e = cc
rest_of [] (suc i) x rest e = cc
rest_of (y ∷ xs) zero x rest e = cc
rest_of (y ∷ xs) (suc i) x rest e = rest_of xs i x rest e ∙ ap (λ n. drop n (y ∷ xs)) (next i)
  where
    next : (k : ℕ) → suc (k + 1) ≡ suc k + 1
    next k = omega arith

module _ (all : List Term) (route : Route) (walk : Walk) where
  -- behind a message
  pub message_spot : (next : Process) (point : ℕ) (x : Id) → x ≡ get_or route.messages.now walk.messages x → walk.messages < length route.messages.now
      → with_next (drop walk.messages (map (tree_at all) route.messages.now)) (λ t ts. Some (next, point + 1, with_message (walk_of all route walk) t ts)) ≡ Some (next, point + 1, walk_of all route (record walk { messages = walk.messages + 1 }))
  message_spot next point x is within =
      let messages : List Term = map (tree_at all) route.messages.now in
      let w = walk_of all route walk in
      ap (λ (l : List Term). with_next l (λ t ts. Some (next, point + 1, with_message w t ts))) (mapped_ahead (tree_at all) route.messages.now walk.messages x is within)
      ∙ ap (λ (l : List Term). Some (next, point + 1, record w { received = l; ahead = record w.ahead { messages = drop (walk.messages + 1) messages } })) (sym (mapped_taken (tree_at all) route.messages.now walk.messages x is within))

  -- in a copy
  pub copy_spot : (copied : Process) (point other : ℕ) (x : Id) → x ≡ get_or route.sessions.now walk.sessions x → walk.sessions < length route.sessions.now
      → with_next (drop walk.sessions (map (tree_at all) route.sessions.now)) (λ t ts. Some (copied, point + 1, with_copy (walk_of all route walk) other t ts)) ≡ Some (copied, point + 1, walk_of all route (record walk { sessions = walk.sessions + 1; thread = other }))
  copy_spot copied point other x is within =
      let sessions : List Term = map (tree_at all) route.sessions.now in
      let w = walk_of all route walk in
      ap (λ (l : List Term). with_next l (λ t ts. Some (copied, point + 1, with_copy w other t ts))) (mapped_ahead (tree_at all) route.sessions.now walk.sessions x is within)
      ∙ ap (λ (l : List Term). Some (copied, point + 1, record w { thread = other; copied = l; ahead = record w.ahead { sessions = drop (walk.sessions + 1) sessions } })) (sym (mapped_taken (tree_at all) route.sessions.now walk.sessions x is within))

  -- behind a choice, and so many messages
  entry_walk : (count : ℕ) → with_entry (walk_of all route walk) count (drop (walk.choices + 1) route.way.now.choices)
      ≡ walk_of all route (record walk { messages = walk.messages + length (take count (drop walk.messages route.messages.now)); choices = walk.choices + 1 })
  entry_walk count =
      let messages : List Term = map (tree_at all) route.messages.now in
      let rest : List Term = drop walk.messages messages in
      let k : ℕ = length (take count (drop walk.messages route.messages.now)) in
      let same : k ≡ length (take count rest) =
      sym (length-map (take count (drop walk.messages route.messages.now)) (tree_at all)) ∙ ap length (sym (take-map (tree_at all) count (drop walk.messages route.messages.now)) ∙ ap (take count) (sym (drop-map (tree_at all) walk.messages route.messages.now))) in
      let first : take (walk.messages + k) messages ≡ take walk.messages messages ++ take count rest = take-add walk.messages k messages ∙ ap (λ l. take walk.messages messages ++ l) (ap (λ n. take n rest) same ∙ take-counted count rest) in
      let later : drop (walk.messages + k) messages ≡ drop count rest = sym (drop-drop k walk.messages messages) ∙ (ap (λ n. drop n rest) same ∙ drop-counted count rest) in
      let w = walk_of all route (record walk { choices = walk.choices + 1 }) in
      ap (λ (l : List Term). record w { received = l; ahead = record w.ahead { messages = drop count rest } }) (sym first)
      ∙ ap (λ (l : List Term). record w { received = take (walk.messages + k) messages; ahead = record w.ahead { messages = l } }) (sym later)

  pub taken_spot : (next otherwise : Process) (count point : ℕ) (label : List ℕ) → Some (Taken label) ≡ slice_get route.way.now.choices walk.choices
      → branches_at next otherwise count point (walk_of all route walk) ≡ Some (next, point + 1, walk_of all route (record walk { messages = walk.messages + length (take count (drop walk.messages route.messages.now)); choices = walk.choices + 1 }))
  taken_spot next otherwise count point label is = go (drop walk.choices route.way.now.choices) refl (is ∙ sym (first_ahead route.way.now.choices walk.choices))
    where
      go : (l : List Choice) → drop walk.choices route.way.now.choices ≡ l → Some (Taken label) ≡ slice_get l 0
          → with_next l (λ choice rest. Some (branch_at next otherwise count point (walk_of all route walk) choice rest)) ≡ Some (next, point + 1, walk_of all route (record walk { messages = walk.messages + length (take count (drop walk.messages route.messages.now)); choices = walk.choices + 1 }))
      go [] e h = cc
      go (choice ∷ rest) e h =
          let here : choice ≡ Taken label = cc in
          let behind : rest ≡ drop (walk.choices + 1) route.way.now.choices = rest_of route.way.now.choices walk.choices choice rest e in
          ap (λ (o : Choice). Some (branch_at next otherwise count point (walk_of all route walk) o rest)) here
          ∙ (ap (λ (l : List Choice). Some (next, point + 1, with_entry (walk_of all route walk) count l)) behind ∙ ap (λ (w : spec.Walk). Some (next, point + 1, w)) (entry_walk count))

  pub else_spot : (next otherwise : Process) (count point : ℕ) → Some Else ≡ slice_get route.way.now.choices walk.choices
      → branches_at next otherwise count point (walk_of all route walk) ≡ Some (otherwise, point_after (point + 1) next, walk_of all route (record walk { choices = walk.choices + 1 }))
  else_spot next otherwise count point is = go (drop walk.choices route.way.now.choices) refl (is ∙ sym (first_ahead route.way.now.choices walk.choices))
    where
      go : (l : List Choice) → drop walk.choices route.way.now.choices ≡ l → Some Else ≡ slice_get l 0
          → with_next l (λ choice rest. Some (branch_at next otherwise count point (walk_of all route walk) choice rest)) ≡ Some (otherwise, point_after (point + 1) next, walk_of all route (record walk { choices = walk.choices + 1 }))
      go [] e h = cc
      go (choice ∷ rest) e h =
          let here : choice ≡ Else = cc in
          let behind : rest ≡ drop (walk.choices + 1) route.way.now.choices = rest_of route.way.now.choices walk.choices choice rest e in
          ap (λ (o : Choice). Some (branch_at next otherwise count point (walk_of all route walk) o rest)) here
          ∙ ap (λ (l : List Choice). Some (otherwise, point_after (point + 1) next, with_choice (walk_of all route walk) l)) behind

  pub no_choice_spot : (next otherwise : Process) (count point : ℕ) → None ≡ slice_get route.way.now.choices walk.choices → branches_at next otherwise count point (walk_of all route walk) ≡ None
  no_choice_spot next otherwise count point is = go (drop walk.choices route.way.now.choices) (is ∙ sym (first_ahead route.way.now.choices walk.choices))
    where
      go : (l : List Choice) → None ≡ slice_get l 0 → with_next l (λ choice rest. Some (branch_at next otherwise count point (walk_of all route walk) choice rest)) ≡ None
      go [] h = refl
      go (choice ∷ rest) h = cc

-- in a bank that grew
pub walk-grows : (a b : List Term) (route : Route) (walk : Walk) → Grows a b → IsKnownWay a route → walk_of b route walk ≡ walk_of a route walk
walk-grows a b route walk grows known =
    let w = walk_of b route walk in
    ap (λ (l : List Term). record w { received = take walk.messages l; ahead = record w.ahead { messages = drop walk.messages l } }) (trees_at-grow a b route.messages.now grows known.messages)
    ∙ ap (λ (l : List Term). record (walk_of a route walk) { copied = take walk.sessions l; ahead = record (ahead_of a route walk) { sessions = drop walk.sessions l } }) (trees_at-grow a b route.sessions.now grows known.sessions)

pub way_known-grows : (a b : List Term) (route : Route) → Grows a b → IsKnownWay a route → IsKnownWay b route
way_known-grows a b route grows known = record { messages = AreKnown-grows a b route.messages.now grows known.messages; sessions = AreKnown-grows a b route.sessions.now grows known.sessions }
