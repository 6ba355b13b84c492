-- Where the parts of a process stand: what is at the next point, and behind a left part, and how many arguments a name has that is made
-- there: one for each input, term of an entry and replication above.
use Rattle.std.proofs.Common.{◌≡◌, ◌∙◌, ℕ, zero, suc, ◌+◌, Some, List, [], ◌∷◌, ◌++◌, map, length, refl, ap, sym, append_assoc, append-nil, length-append, arith}
use Rattle.std.specs.Prelude.{slice_get, option_map}
use Rattle.std.proofs.lemmas.List.{map-append}
use Rattle.spec_calculus.specs.Syntax.{Process, Nil, Output, Input, Parallel, Replication, New, Let, Event, Phase, Insert, Get, Pattern, Expression, EventTerm, Condition}
use Rattle.spec_calculus.specs.Syntax as calculus
use Rattle.spec_calculus.specs.Points.{numbered, nodes, point_after, name_arguments}
use Rattle.spec_well_formed.specs.Processes.{HasLinearPatterns}

-- the nodes of a process in pre-order, each with how many arguments a name has that is made there
pub record Level : Type 0 where
  pub node : Process
  pub above : ℕ

abbrev level : Process → ℕ → Level
level node above = record { node = node; above = above }

abbrev pub levels : ℕ → Process → List Level
levels above Nil = level Nil above ∷ []
levels above (Output channel message next) = level (Output channel message next) above ∷ levels above next
levels above (Input channel pattern next) = level (Input channel pattern next) above ∷ levels (above + 1) next
levels above (Parallel left right) = level (Parallel left right) above ∷ (levels above left ++ levels above right)
levels above (Replication copied) = level (Replication copied) above ∷ levels (above + 1) copied
levels above (New word next) = level (New word next) above ∷ levels above next
levels above (Let pattern expression next otherwise) = level (Let pattern expression next otherwise) above ∷ (levels above next ++ levels above otherwise)
levels above (Event performed next) = level (Event performed next) above ∷ levels above next
levels above (Phase number next) = level (Phase number next) above ∷ levels above next
levels above (Insert table arguments next) = level (Insert table arguments next) above ∷ levels above next
levels above (Get table patterns condition next otherwise) =
    level (Get table patterns condition next otherwise) above ∷ (levels (above + length patterns) next ++ levels above otherwise)

-- they are the nodes, and what stands above them is what names have as arguments
pub level_nodes : (above : ℕ) (process : Process) → map (λ l. l.node) (levels above process) ≡ nodes process
level_nodes above Nil = refl
level_nodes above (Output channel message next) = ap (λ xs. Output channel message next ∷ xs) (level_nodes above next)
level_nodes above (Input channel pattern next) = ap (λ xs. Input channel pattern next ∷ xs) (level_nodes (above + 1) next)
level_nodes above (Parallel left right) =
    let first = level_nodes above left in
    let second = level_nodes above right in
    ap (λ xs. Parallel left right ∷ xs) (map-append (λ l. l.node) (levels above left) (levels above right) ∙ (λ i. first i ++ second i))
level_nodes above (Replication copied) = ap (λ xs. Replication copied ∷ xs) (level_nodes (above + 1) copied)
level_nodes above (New word next) = ap (λ xs. New word next ∷ xs) (level_nodes above next)
level_nodes above (Let pattern expression next otherwise) =
    let first = level_nodes above next in
    let second = level_nodes above otherwise in
    ap (λ xs. Let pattern expression next otherwise ∷ xs) (map-append (λ l. l.node) (levels above next) (levels above otherwise) ∙ (λ i. first i ++ second i))
level_nodes above (Event performed next) = ap (λ xs. Event performed next ∷ xs) (level_nodes above next)
level_nodes above (Phase number next) = ap (λ xs. Phase number next ∷ xs) (level_nodes above next)
level_nodes above (Insert table arguments next) = ap (λ xs. Insert table arguments next ∷ xs) (level_nodes above next)
level_nodes above (Get table patterns condition next otherwise) =
    let first = level_nodes (above + length patterns) next in
    let second = level_nodes above otherwise in
    ap (λ xs. Get table patterns condition next otherwise ∷ xs) (map-append (λ l. l.node) (levels (above + length patterns) next) (levels above otherwise) ∙ (λ i. first i ++ second i))

pub level_arguments : (above : ℕ) (process : Process) → map (λ l. l.above) (levels above process) ≡ name_arguments above process
level_arguments above Nil = refl
level_arguments above (Output channel message next) = ap (λ xs. above ∷ xs) (level_arguments above next)
level_arguments above (Input channel pattern next) = ap (λ xs. above ∷ xs) (level_arguments (above + 1) next)
level_arguments above (Parallel left right) =
    let first = level_arguments above left in
    let second = level_arguments above right in
    ap (λ xs. above ∷ xs) (map-append (λ l. l.above) (levels above left) (levels above right) ∙ (λ i. first i ++ second i))
level_arguments above (Replication copied) = ap (λ xs. above ∷ xs) (level_arguments (above + 1) copied)
level_arguments above (New word next) = ap (λ xs. above ∷ xs) (level_arguments above next)
level_arguments above (Let pattern expression next otherwise) =
    let first = level_arguments above next in
    let second = level_arguments above otherwise in
    ap (λ xs. above ∷ xs) (map-append (λ l. l.above) (levels above next) (levels above otherwise) ∙ (λ i. first i ++ second i))
level_arguments above (Event performed next) = ap (λ xs. above ∷ xs) (level_arguments above next)
level_arguments above (Phase number next) = ap (λ xs. above ∷ xs) (level_arguments above next)
level_arguments above (Insert table arguments next) = ap (λ xs. above ∷ xs) (level_arguments above next)
level_arguments above (Get table patterns condition next otherwise) =
    let first = level_arguments (above + length patterns) next in
    let second = level_arguments above otherwise in
    ap (λ xs. above ∷ xs) (map-append (λ l. l.above) (levels (above + length patterns) next) (levels above otherwise) ∙ (λ i. first i ++ second i))

pub levels_count : (above : ℕ) (process : Process) → length (levels above process) ≡ length (nodes process)
levels_count above process = sym (count (levels above process)) ∙ ap length (level_nodes above process) where
  count : (ls : List Level) → length (map (λ l. l.node) ls) ≡ length ls
  count [] = refl
  count (l ∷ ls) = ap (λ n. suc n) (count ls)

-- The process stands at the point of the main process, where a name has so many arguments, and its patterns are linear
-- where those of the main process are.
pub record Stands (main : Process) (point : ℕ) (process : Process) (above : ℕ) : Type 0 where
  pub front : List Level
  pub behind : List Level
  pub is : levels 0 main ≡ front ++ (levels above process ++ behind)
  pub at : point ≡ suc (length front)
  pub linear : HasLinearPatterns main → HasLinearPatterns process

pub whole_stands : (main : Process) → Stands main 1 main 0
whole_stands main = record { front = []; behind = []; is = sym (append-nil (levels 0 main)); at = refl; linear = λ h. h }

-- the first node of a process is the process
first_level : (above : ℕ) (process : Process) (behind : List Level) → slice_get (levels above process ++ behind) 0 ≡ Some (level process above)
first_level above Nil behind = refl
first_level above (Output channel message next) behind = refl
first_level above (Input channel pattern next) behind = refl
first_level above (Parallel left right) behind = refl
first_level above (Replication copied) behind = refl
first_level above (New word next) behind = refl
first_level above (Let pattern expression next otherwise) behind = refl
first_level above (Event performed next) behind = refl
first_level above (Phase number next) behind = refl
first_level above (Insert table arguments next) behind = refl
first_level above (Get table patterns condition next otherwise) behind = refl

behind_front : {X : Type 0} (xs ys : List X) → slice_get (xs ++ ys) (length xs) ≡ slice_get ys 0
behind_front [] ys = refl
behind_front (x ∷ xs) ys = behind_front xs ys

slice_get-map : {X Y : Type 0} (f : X → Y) (xs : List X) (k : ℕ) → slice_get (map f xs) k ≡ option_map f (slice_get xs k)
slice_get-map f [] k = refl
slice_get-map f (x ∷ xs) zero = refl
slice_get-map f (x ∷ xs) (suc k) = slice_get-map f xs k

level_at : (main : Process) (point : ℕ) (process : Process) (above : ℕ) → Stands main point process above → numbered (levels 0 main) point ≡ Some (level process above)
level_at main point process above s =
    ap (λ n. numbered (levels 0 main) n) s.at ∙ (ap (λ xs. slice_get xs (length s.front)) s.is ∙ (behind_front s.front (levels above process ++ s.behind) ∙ first_level above process s.behind))

numbered-map : {X Y : Type 0} (f : X → Y) (xs : List X) (n : ℕ) → numbered (map f xs) n ≡ option_map f (numbered xs n)
numbered-map f xs zero = refl
numbered-map f xs (suc k) = slice_get-map f xs k

-- what stands at a point is found there, and a name that is made there has as many arguments as stand above
pub stands_numbered : (main : Process) (point : ℕ) (process : Process) (above : ℕ) → Stands main point process above → numbered (nodes main) point ≡ Some process
stands_numbered main point process above s =
    ap (λ xs. numbered xs point) (sym (level_nodes 0 main)) ∙ (numbered-map (λ l. l.node) (levels 0 main) point ∙ ap (option_map (λ l. l.node)) (level_at main point process above s))

pub stands_counted : (main : Process) (point : ℕ) (process : Process) (above : ℕ) → Stands main point process above → numbered (name_arguments 0 main) point ≡ Some above
stands_counted main point process above s =
    ap (λ xs. numbered xs point) (sym (level_arguments 0 main)) ∙ (numbered-map (λ l. l.above) (levels 0 main) point ∙ ap (option_map (λ l. l.above)) (level_at main point process above s))

-- The next point, below a node of one part, and the points of two parts.
next_stands : (main node next : Process) (point above below : ℕ) → levels above node ≡ level node above ∷ levels below next → (HasLinearPatterns node → HasLinearPatterns next) → Stands main point node above → Stands main (point + 1) next below
next_stands main node next point above below e linear s =
    let at = s.at in
    let size : length (s.front ++ level node above ∷ []) ≡ length s.front + 1 = length-append s.front (level node above ∷ []) in
    record {
      front = s.front ++ level node above ∷ [];
      behind = s.behind;
      is = s.is ∙ (ap (λ xs. s.front ++ (xs ++ s.behind)) e ∙ sym (append_assoc s.front (level node above ∷ []) (levels below next ++ s.behind)));
      at = omega (arith, size, at);
      linear = λ h. linear (s.linear h);
    }

left_stands : (main node left right : Process) (point above below : ℕ) → levels above node ≡ level node above ∷ (levels below left ++ levels above right) → (HasLinearPatterns node → HasLinearPatterns left) → Stands main point node above → Stands main (point + 1) left below
left_stands main node left right point above below e linear s =
    let at = s.at in
    let size : length (s.front ++ level node above ∷ []) ≡ length s.front + 1 = length-append s.front (level node above ∷ []) in
    record {
      front = s.front ++ level node above ∷ [];
      behind = levels above right ++ s.behind;
      is = s.is ∙ (ap (λ xs. s.front ++ (xs ++ s.behind)) e ∙ (ap (λ xs. s.front ++ level node above ∷ xs) (append_assoc (levels below left) (levels above right) s.behind) ∙ sym (append_assoc s.front (level node above ∷ []) (levels below left ++ (levels above right ++ s.behind)))));
      at = omega (arith, size, at);
      linear = λ h. linear (s.linear h);
    }

right_stands : (main node left right : Process) (point above below : ℕ) → levels above node ≡ level node above ∷ (levels below left ++ levels above right) → (HasLinearPatterns node → HasLinearPatterns right) → Stands main point node above → Stands main (point_after (point + 1) left) right above
right_stands main node left right point above below e linear s =
    let at = s.at in
    let one : length (s.front ++ level node above ∷ levels below left) ≡ length s.front + length (level node above ∷ levels below left) = length-append s.front (level node above ∷ levels below left) in
    let two : length (level node above ∷ levels below left) ≡ suc (length (nodes left)) = ap (λ n. suc n) (levels_count below left) in
    record {
      front = s.front ++ level node above ∷ levels below left;
      behind = s.behind;
      is = s.is ∙ (ap (λ xs. s.front ++ (xs ++ s.behind)) e ∙ (ap (λ xs. s.front ++ level node above ∷ xs) (append_assoc (levels below left) (levels above right) s.behind) ∙ sym (append_assoc s.front (level node above ∷ levels below left) (levels above right ++ s.behind))));
      at = omega (arith, one, two, at);
      linear = λ h. linear (s.linear h);
    }

module _ (main : Process) (point above : ℕ) where
  pub output_next : (channel message : calculus.Term) (next : Process) → Stands main point (Output channel message next) above → Stands main (point + 1) next above
  output_next channel message next s = next_stands main (Output channel message next) next point above above refl (λ h. h) s

  pub input_next : (channel : calculus.Term) (pattern : Pattern) (next : Process) → Stands main point (Input channel pattern next) above → Stands main (point + 1) next (above + 1)
  input_next channel pattern next s = next_stands main (Input channel pattern next) next point above (above + 1) refl (λ h. h.1) s

  pub parallel_left : (left right : Process) → Stands main point (Parallel left right) above → Stands main (point + 1) left above
  parallel_left left right s = left_stands main (Parallel left right) left right point above above refl (λ h. h.0) s

  pub parallel_right : (left right : Process) → Stands main point (Parallel left right) above → Stands main (point_after (point + 1) left) right above
  parallel_right left right s = right_stands main (Parallel left right) left right point above above refl (λ h. h.1) s

  pub replication_next : (copied : Process) → Stands main point (Replication copied) above → Stands main (point + 1) copied (above + 1)
  replication_next copied s = next_stands main (Replication copied) copied point above (above + 1) refl (λ h. h) s

  pub new_next : (word : List ℕ) (next : Process) → Stands main point (New word next) above → Stands main (point + 1) next above
  new_next word next s = next_stands main (New word next) next point above above refl (λ h. h) s

  pub let_next : (pattern : Pattern) (expression : Expression) (next otherwise : Process) → Stands main point (Let pattern expression next otherwise) above → Stands main (point + 1) next above
  let_next pattern expression next otherwise s = left_stands main (Let pattern expression next otherwise) next otherwise point above above refl (λ h. h.1) s

  pub let_otherwise : (pattern : Pattern) (expression : Expression) (next otherwise : Process) → Stands main point (Let pattern expression next otherwise) above → Stands main (point_after (point + 1) next) otherwise above
  let_otherwise pattern expression next otherwise s = right_stands main (Let pattern expression next otherwise) next otherwise point above above refl (λ h. h.2) s

  pub event_next : (performed : EventTerm) (next : Process) → Stands main point (Event performed next) above → Stands main (point + 1) next above
  event_next performed next s = next_stands main (Event performed next) next point above above refl (λ h. h) s

  pub phase_next : (number : ℕ) (next : Process) → Stands main point (Phase number next) above → Stands main (point + 1) next above
  phase_next number next s = next_stands main (Phase number next) next point above above refl (λ h. h) s

  pub insert_next : (table : ℕ) (arguments : List calculus.Term) (next : Process) → Stands main point (Insert table arguments next) above → Stands main (point + 1) next above
  insert_next table arguments next s = next_stands main (Insert table arguments next) next point above above refl (λ h. h) s

  module _ (table : ℕ) (patterns : List Pattern) (condition : Condition) (next otherwise : Process) where
    pub get_next : Stands main point (Get table patterns condition next otherwise) above → Stands main (point + 1) next (above + length patterns)
    get_next s = left_stands main (Get table patterns condition next otherwise) next otherwise point above (above + length patterns) refl (λ h. h.1) s

    pub get_otherwise : Stands main point (Get table patterns condition next otherwise) above → Stands main (point_after (point + 1) next) otherwise above
    get_otherwise s = right_stands main (Get table patterns condition next otherwise) next otherwise point above (above + length patterns) refl (λ h. h.2) s
