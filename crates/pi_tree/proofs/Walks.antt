-- Walks over the nodes of a process.
use Rattle.std.proofs.Common.{◌≡◌, ℕ, zero, suc, ◌+◌, ◌-◌, Some, List, [], ◌∷◌, ◌++◌, length, map, slice_get, refl, sym, ap, ap₂, ◌∙◌, subst, arith, length-append}
use Rattle.std.proofs.lemmas.List.{length-map, map-append}
use Rattle.spec_calculus.specs.Syntax.{Term, Pattern, Expression, EventTerm, Condition, Process, Nil, Output, Input, Parallel, Replication, New, Let, Event, Phase, Insert, Get}
use Rattle.spec_calculus.specs.Points.{nodes, name_arguments}
use Rattle.pi_tree.specs.Accessors.{capped}
use Rattle.pi_tree.specs.Processes.{process_of}
use Rattle.pi_tree.specs.Walks.{Ends}
use Rattle.pi_tree.specs.declared.points.Walk.{Walk}
use Rattle.pi_tree.specs.declared.points.Walk.TheVariants.{At, Past}

-- the first node is the process itself
pub first_node : (process : Process) → slice_get (nodes process) 0 ≡ Some process
first_node Nil = refl
first_node (Output channel message next) = refl
first_node (Input channel pattern next) = refl
first_node (Parallel left right) = refl
first_node (Replication copied) = refl
first_node (New word next) = refl
first_node (Let pattern expression next otherwise) = refl
first_node (Event performed next) = refl
first_node (Phase number next) = refl
first_node (Insert table arguments next) = refl
first_node (Get table patterns condition next otherwise) = refl

pub first_arguments : (above : ℕ) (process : Process) → above ≡ capped above → slice_get (map capped (name_arguments above process)) 0 ≡ Some above
first_arguments above Nil told = ap Some (sym told)
first_arguments above (Output channel message next) told = ap Some (sym told)
first_arguments above (Input channel pattern next) told = ap Some (sym told)
first_arguments above (Parallel left right) told = ap Some (sym told)
first_arguments above (Replication copied) told = ap Some (sym told)
first_arguments above (New word next) told = ap Some (sym told)
first_arguments above (Let pattern expression next otherwise) told = ap Some (sym told)
first_arguments above (Event performed next) told = ap Some (sym told)
first_arguments above (Phase number next) told = ap Some (sym told)
first_arguments above (Insert table arguments next) told = ap Some (sym told)
first_arguments above (Get table patterns condition next otherwise) told = ap Some (sym told)

-- items of two lists in a row, past a first item
pub slice_get-left : {A : Type 0} (xs ys : List A) (k : ℕ) (x : A) → slice_get xs k ≡ Some x → slice_get (xs ++ ys) k ≡ Some x
slice_get-left [] ys k x h = cc
slice_get-left (y ∷ xs) ys zero x h = h
slice_get-left (y ∷ xs) ys (suc k) x h = slice_get-left xs ys k x h

pub slice_get-right : {A : Type 0} (xs ys : List A) (k left : ℕ) → length xs + left ≡ k → slice_get (xs ++ ys) k ≡ slice_get ys left
slice_get-right [] ys k left h = let e : k ≡ left = omega (arith, h) in rw e refl
slice_get-right (x ∷ xs) ys zero left h = absurd (omega (arith, h))
slice_get-right (x ∷ xs) ys (suc k) left h = slice_get-right xs ys k left (omega (arith, h))

pub past_first : {A : Type 0} (first : A) (xs : List A) (k : ℕ) (x : A) → ¬ (k ≡ 0) → slice_get xs (k - 1) ≡ Some x → slice_get (first ∷ xs) k ≡ Some x
past_first first xs zero x h found = absurd (h refl)
past_first first xs (suc k) x h found = let e : suc k - 1 ≡ k = omega arith in subst (λ j. slice_get xs j ≡ Some x) e found

pub past_first-left : {A : Type 0} (first : A) (xs ys : List A) (k : ℕ) (x : A) → ¬ (k ≡ 0) → slice_get xs (k - 1) ≡ Some x → slice_get (first ∷ (xs ++ ys)) k ≡ Some x
past_first-left first xs ys k x h found = past_first first (xs ++ ys) k x h (slice_get-left xs ys (k - 1) x found)

pub past_first-right : {A : Type 0} (first : A) (xs ys : List A) (k left : ℕ) (x : A) → ¬ (k ≡ 0) → length xs + left ≡ k - 1 → slice_get ys left ≡ Some x → slice_get (first ∷ (xs ++ ys)) k ≡ Some x
past_first-right first xs ys k left x h passed found = past_first first (xs ++ ys) k x h (slice_get-right xs ys (k - 1) left passed ∙ found)

-- a name's arguments stand in the order of the points
pub length-name_arguments : (above : ℕ) (process : Process) → length (name_arguments above process) ≡ length (nodes process)
length-name_arguments above Nil = refl
length-name_arguments above (Output channel message next) = ap suc (length-name_arguments above next)
length-name_arguments above (Input channel pattern next) = ap suc (length-name_arguments (above + 1) next)
length-name_arguments above (Parallel left right) =
    omega (arith, length-name_arguments above left, length-name_arguments above right, length-append (name_arguments above left) (name_arguments above right), length-append (nodes left) (nodes right))
length-name_arguments above (Replication copied) = ap suc (length-name_arguments (above + 1) copied)
length-name_arguments above (New word next) = ap suc (length-name_arguments above next)
length-name_arguments above (Let pattern expression next otherwise) =
    omega (arith, length-name_arguments above next, length-name_arguments above otherwise, length-append (name_arguments above next) (name_arguments above otherwise), length-append (nodes next) (nodes otherwise))
length-name_arguments above (Event performed next) = ap suc (length-name_arguments above next)
length-name_arguments above (Phase number next) = ap suc (length-name_arguments above next)
length-name_arguments above (Insert table arguments next) = ap suc (length-name_arguments above next)
length-name_arguments above (Get table patterns condition next otherwise) =
    let at = above + length patterns in
    omega (arith, length-name_arguments at next, length-name_arguments above otherwise, length-append (name_arguments at next) (name_arguments above otherwise), length-append (nodes next) (nodes otherwise))

-- numbers that are told alike stay so when as many are added to both
pub capped-more : (above told count : ℕ) → capped above ≡ capped told → capped (above + count) ≡ capped (told + count)
capped-more above told count same = omega (arith, same)

capped-row : (above told : ℕ) (more others : List ℕ) → capped above ≡ capped told → map capped more ≡ map capped others → capped above ∷ map capped more ≡ capped told ∷ map capped others
capped-row above told more others same rest = ap₂ (λ n ns. n ∷ ns) same rest

capped-branches : (ms ns ks ls : List ℕ) → map capped ms ≡ map capped ks → map capped ns ≡ map capped ls → map capped (ms ++ ns) ≡ map capped (ks ++ ls)
capped-branches ms ns ks ls first second = map-append capped ms ns ∙ (ap₂ (λ xs ys. xs ++ ys) first second ∙ sym (map-append capped ks ls))

-- numbers of arguments as they are told rest on the number above as it is told
pub capped-arguments : (above told : ℕ) (process : Process) → capped above ≡ capped told → map capped (name_arguments above process) ≡ map capped (name_arguments told process)
capped-arguments above told Nil same = capped-row above told [] [] same refl
capped-arguments above told (Output channel message next) same =
    capped-row above told (name_arguments above next) (name_arguments told next) same (capped-arguments above told next same)
capped-arguments above told (Input channel pattern next) same =
    capped-row above told (name_arguments (above + 1) next) (name_arguments (told + 1) next) same (capped-arguments (above + 1) (told + 1) next (capped-more above told 1 same))
capped-arguments above told (Parallel left right) same =
    capped-row above told (name_arguments above left ++ name_arguments above right) (name_arguments told left ++ name_arguments told right) same
    (capped-branches (name_arguments above left) (name_arguments above right) (name_arguments told left) (name_arguments told right) (capped-arguments above told left same) (capped-arguments above told right same))
capped-arguments above told (Replication copied) same =
    capped-row above told (name_arguments (above + 1) copied) (name_arguments (told + 1) copied) same (capped-arguments (above + 1) (told + 1) copied (capped-more above told 1 same))
capped-arguments above told (New word next) same =
    capped-row above told (name_arguments above next) (name_arguments told next) same (capped-arguments above told next same)
capped-arguments above told (Let pattern expression next otherwise) same =
    capped-row above told (name_arguments above next ++ name_arguments above otherwise) (name_arguments told next ++ name_arguments told otherwise) same
    (capped-branches (name_arguments above next) (name_arguments above otherwise) (name_arguments told next) (name_arguments told otherwise) (capped-arguments above told next same) (capped-arguments above told otherwise same))
capped-arguments above told (Event performed next) same =
    capped-row above told (name_arguments above next) (name_arguments told next) same (capped-arguments above told next same)
capped-arguments above told (Phase number next) same =
    capped-row above told (name_arguments above next) (name_arguments told next) same (capped-arguments above told next same)
capped-arguments above told (Insert table arguments next) same =
    capped-row above told (name_arguments above next) (name_arguments told next) same (capped-arguments above told next same)
capped-arguments above told (Get table patterns condition next otherwise) same =
    let more = length patterns in
    capped-row above told (name_arguments (above + more) next ++ name_arguments above otherwise) (name_arguments (told + more) next ++ name_arguments told otherwise) same
    (capped-branches (name_arguments (above + more) next) (name_arguments above otherwise) (name_arguments (told + more) next) (name_arguments told otherwise)
    (capped-arguments (above + more) (told + more) next (capped-more above told more same)) (capped-arguments above told otherwise same))

pub capped-above : (above : ℕ) (process : Process) → map capped (name_arguments (capped above) process) ≡ map capped (name_arguments above process)
capped-above above process = capped-arguments (capped above) above process (omega arith)

-- past a form with one part behind it, a walk goes on in that part, above which `inside` arguments are told
pub ends_behind : (first next : Process) (skip above inside : ℕ) (walk : Walk) → nodes first ≡ first ∷ nodes next → map capped (name_arguments above first) ≡ capped above ∷ map capped (name_arguments inside next) → ¬ (skip ≡ 0) → Ends next (skip - 1) inside walk → Ends first skip above walk
ends_behind first next skip above inside (At node arguments) shape row h ends = (
  subst (λ ns. slice_get ns skip ≡ Some (process_of node.now)) (sym shape) (past_first first (nodes next) skip (process_of node.now) h ends.0),
  subst (λ ns. slice_get ns skip ≡ Some arguments) (sym row) (past_first (capped above) (map capped (name_arguments inside next)) skip arguments h ends.1),
)
ends_behind first next skip above inside (Past left) shape row h ends = let counted : length (nodes first) ≡ suc (length (nodes next)) = ap length shape in omega (arith, counted, ends, h)

pub ends_in-Output : (channel message : Term) (next : Process) (skip above : ℕ) (walk : Walk) → ¬ (skip ≡ 0) → Ends next (skip - 1) above walk → Ends (Output channel message next) skip above walk
ends_in-Output channel message next skip above walk h ends = ends_behind (Output channel message next) next skip above above walk refl refl h ends

pub ends_in-New : (word : List ℕ) (next : Process) (skip above : ℕ) (walk : Walk) → ¬ (skip ≡ 0) → Ends next (skip - 1) above walk → Ends (New word next) skip above walk
ends_in-New word next skip above walk h ends = ends_behind (New word next) next skip above above walk refl refl h ends

pub ends_in-Event : (performed : EventTerm) (next : Process) (skip above : ℕ) (walk : Walk) → ¬ (skip ≡ 0) → Ends next (skip - 1) above walk → Ends (Event performed next) skip above walk
ends_in-Event performed next skip above walk h ends = ends_behind (Event performed next) next skip above above walk refl refl h ends

pub ends_in-Phase : (number : ℕ) (next : Process) (skip above : ℕ) (walk : Walk) → ¬ (skip ≡ 0) → Ends next (skip - 1) above walk → Ends (Phase number next) skip above walk
ends_in-Phase number next skip above walk h ends = ends_behind (Phase number next) next skip above above walk refl refl h ends

pub ends_in-Insert : (table : ℕ) (arguments : List Term) (next : Process) (skip above : ℕ) (walk : Walk) → ¬ (skip ≡ 0) → Ends next (skip - 1) above walk → Ends (Insert table arguments next) skip above walk
ends_in-Insert table arguments next skip above walk h ends = ends_behind (Insert table arguments next) next skip above above walk refl refl h ends

-- an input and a replication give one argument more
pub ends_in-Input : (channel : Term) (pattern : Pattern) (next : Process) (skip above : ℕ) (walk : Walk) → ¬ (skip ≡ 0) → Ends next (skip - 1) (capped (above + 1)) walk → Ends (Input channel pattern next) skip above walk
ends_in-Input channel pattern next skip above walk h ends =
    ends_behind (Input channel pattern next) next skip above (capped (above + 1)) walk refl (ap (λ ns. capped above ∷ ns) (sym (capped-above (above + 1) next))) h ends

pub ends_in-Replication : (copied : Process) (skip above : ℕ) (walk : Walk) → ¬ (skip ≡ 0) → Ends copied (skip - 1) (capped (above + 1)) walk → Ends (Replication copied) skip above walk
ends_in-Replication copied skip above walk h ends =
    ends_behind (Replication copied) copied skip above (capped (above + 1)) walk refl (ap (λ ns. capped above ∷ ns) (sym (capped-above (above + 1) copied))) h ends

-- in the first of two branches, past which there are more numbers; above that of a `get` more arguments are told
pub past_first-told : (first : ℕ) (ms others : List ℕ) (k x : ℕ) → ¬ (k ≡ 0) → slice_get (map capped ms) (k - 1) ≡ Some x → slice_get (first ∷ map capped (ms ++ others)) k ≡ Some x
past_first-told first ms others k x h found =
    subst (λ ns. slice_get (first ∷ ns) k ≡ Some x) (sym (map-append capped ms others)) (past_first-left first (map capped ms) (map capped others) k x h found)

pub past_first-taken : (first above : ℕ) (next : Process) (others : List ℕ) (k x : ℕ) → ¬ (k ≡ 0) → slice_get (map capped (name_arguments (capped above) next)) (k - 1) ≡ Some x → slice_get (first ∷ map capped (name_arguments above next ++ others)) k ≡ Some x
past_first-taken first above next others k x h found =
    past_first-told first (name_arguments above next) others k x h (subst (λ ns. slice_get ns (k - 1) ≡ Some x) (capped-above above next) found)

module _ (first left right : Process) (skip above inside rest : ℕ) (h : ¬ (skip ≡ 0)) (passed : length (nodes left) + rest ≡ skip - 1) where
  pub node_in_second : (node : Process) → slice_get (nodes right) rest ≡ Some node → slice_get (first ∷ (nodes left ++ nodes right)) skip ≡ Some node
  node_in_second node found = past_first-right first (nodes left) (nodes right) skip rest node h passed found

  pub arguments_in_second : (arguments : ℕ) → slice_get (map capped (name_arguments above right)) rest ≡ Some arguments → slice_get (capped above ∷ map capped (name_arguments inside left ++ name_arguments above right)) skip ≡ Some arguments
  arguments_in_second arguments found =
      let before = name_arguments inside left in
      let behind = name_arguments above right in
      let counted : length (map capped before) + rest ≡ skip - 1 = omega (arith, passed, length-map before capped, length-name_arguments inside left) in
      subst (λ ns. slice_get (capped above ∷ ns) skip ≡ Some arguments) (sym (map-append capped before behind))
      (past_first-right (capped above) (map capped before) (map capped behind) skip rest arguments h counted found)

  pub past_both : (more : ℕ) → length (nodes right) + more ≡ rest → length (first ∷ (nodes left ++ nodes right)) + more ≡ skip
  past_both more ends = omega (arith, passed, ends, h, length-append (nodes left) (nodes right))

-- past the first of two branches, a walk goes on in the second
pub ends_in-Parallel : (left right : Process) (skip above rest : ℕ) (walk : Walk) → ¬ (skip ≡ 0) → length (nodes left) + rest ≡ skip - 1 → Ends right rest above walk → Ends (Parallel left right) skip above walk
ends_in-Parallel left right skip above rest (At node arguments) h passed ends = let first = Parallel left right in
    (node_in_second first left right skip above above rest h passed (process_of node.now) ends.0, arguments_in_second first left right skip above above rest h passed arguments ends.1)
ends_in-Parallel left right skip above rest (Past more) h passed ends = past_both (Parallel left right) left right skip above above rest h passed more ends

pub ends_in-Let : (pattern : Pattern) (expression : Expression) (left right : Process) (skip above rest : ℕ) (walk : Walk) → ¬ (skip ≡ 0) → length (nodes left) + rest ≡ skip - 1 → Ends right rest above walk → Ends (Let pattern expression left right) skip above walk
ends_in-Let pattern expression left right skip above rest (At node arguments) h passed ends = let first = Let pattern expression left right in
    (node_in_second first left right skip above above rest h passed (process_of node.now) ends.0, arguments_in_second first left right skip above above rest h passed arguments ends.1)
ends_in-Let pattern expression left right skip above rest (Past more) h passed ends = past_both (Let pattern expression left right) left right skip above above rest h passed more ends

pub ends_in-Get : (table : ℕ) (patterns : List Pattern) (condition : Condition) (left right : Process) (skip above rest : ℕ) (walk : Walk) → ¬ (skip ≡ 0) → length (nodes left) + rest ≡ skip - 1 → Ends right rest above walk → Ends (Get table patterns condition left right) skip above walk
ends_in-Get table patterns condition left right skip above rest (At node arguments) h passed ends = let first = Get table patterns condition left right in
    let inside = above + length patterns in
    (node_in_second first left right skip above inside rest h passed (process_of node.now) ends.0, arguments_in_second first left right skip above inside rest h passed arguments ends.1)
ends_in-Get table patterns condition left right skip above rest (Past more) h passed ends = past_both (Get table patterns condition left right) left right skip above above rest h passed more ends

pub ruleset of_walks = (first_node, first_arguments, past_first-left, past_first-told, past_first-taken, ends_in-Output, ends_in-Input, ends_in-Replication, ends_in-New, ends_in-Event, ends_in-Phase, ends_in-Insert, ends_in-Parallel, ends_in-Let, ends_in-Get)
