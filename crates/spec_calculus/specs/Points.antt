-- Points: the nodes of a process, numbered from 1 in pre-order.
use Rattle.std.specs.Prelude.{ℕ, zero, suc, ◌+◌, max, Bool, true, false, List, [], ◌∷◌, ◌++◌, length, slice_get, slice_set, Option, None}
use Rattle.spec_calculus.specs.Syntax.{Process, Nil, Output, Input, Parallel, Replication, New, Let, Event, Phase, Insert, Get}

-- the item of that number, from 1
abbrev pub numbered : {A : Type 0} → List A → ℕ → Option A
numbered items zero = None
numbered items (suc index) = slice_get items index

-- the list with the item of that number, from 1, replaced
abbrev pub replaced : {A : Type 0} → List A → ℕ → A → List A
replaced items zero item = items
replaced items (suc index) item = slice_set items index item

-- the nodes of a process in pre-order, each `0` among them: point p stands at the p-th
abbrev pub nodes : Process → List Process
nodes Nil = Nil ∷ []
nodes (Output channel message next) = Output channel message next ∷ nodes next
nodes (Input channel pattern next) = Input channel pattern next ∷ nodes next
nodes (Parallel left right) = Parallel left right ∷ (nodes left ++ nodes right)
nodes (Replication copied) = Replication copied ∷ nodes copied
nodes (New word next) = New word next ∷ nodes next
nodes (Let pattern expression next otherwise) = Let pattern expression next otherwise ∷ (nodes next ++ nodes otherwise)
nodes (Event performed next) = Event performed next ∷ nodes next
nodes (Phase number next) = Phase number next ∷ nodes next
nodes (Insert table arguments next) = Insert table arguments next ∷ nodes next
nodes (Get table patterns condition next otherwise) = Get table patterns condition next otherwise ∷ (nodes next ++ nodes otherwise)

-- the point after a process that begins at the point
abbrev pub point_after : ℕ → Process → ℕ
point_after point process = point + length (nodes process)

-- whether the process is a restriction
abbrev pub is_restriction : Process → Bool
is_restriction (New word next) = true
is_restriction other = false

-- how many arguments a name has that is made at each point, `above` of them made above the process: one for
-- each message that is received above the point, one for each term of an entry that is taken, and one for each replication above it (Blanchet 2016, section 4: names as functions)
abbrev pub name_arguments : ℕ → Process → List ℕ
name_arguments above Nil = above ∷ []
name_arguments above (Output channel message next) = above ∷ name_arguments above next
name_arguments above (Input channel pattern next) = above ∷ name_arguments (above + 1) next
name_arguments above (Parallel left right) = above ∷ (name_arguments above left ++ name_arguments above right)
name_arguments above (Replication copied) = above ∷ name_arguments (above + 1) copied
name_arguments above (New word next) = above ∷ name_arguments above next
name_arguments above (Let pattern expression next otherwise) = above ∷ (name_arguments above next ++ name_arguments above otherwise)
name_arguments above (Event performed next) = above ∷ name_arguments above next
name_arguments above (Phase number next) = above ∷ name_arguments above next
name_arguments above (Insert table arguments next) = above ∷ name_arguments above next
name_arguments above (Get table patterns condition next otherwise) =
    above ∷ (name_arguments (above + length patterns) next ++ name_arguments above otherwise)

-- the greatest phase that a process names, 0 where it names none
abbrev pub greatest_phase : Process → ℕ
greatest_phase Nil = 0
greatest_phase (Output channel message next) = greatest_phase next
greatest_phase (Input channel pattern next) = greatest_phase next
greatest_phase (Parallel left right) = max (greatest_phase left) (greatest_phase right)
greatest_phase (Replication copied) = greatest_phase copied
greatest_phase (New word next) = greatest_phase next
greatest_phase (Let pattern expression next otherwise) = max (greatest_phase next) (greatest_phase otherwise)
greatest_phase (Event performed next) = greatest_phase next
greatest_phase (Phase number next) = max number (greatest_phase next)
greatest_phase (Insert table arguments next) = greatest_phase next
greatest_phase (Get table patterns condition next otherwise) = max (greatest_phase next) (greatest_phase otherwise)
