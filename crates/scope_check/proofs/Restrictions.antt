-- What is kept of restrictions.
use Rattle.std.proofs.Common.{◌≡◌, ℕ, suc, ◌+◌, Bool, true, false, if◌then◌else◌, List, [], ◌∷◌, ◌++◌, length, refl, sym, ap, ◌∙◌, arith, append_assoc, ◌⊎◌, inl, inr, Option, Box, Ok}
use Rattle.std.specs.Str.{bytes_eq}
use Rattle.std.specs.declared.alloc.Global.{Global}
use Rattle.spec_calculus.specs.Syntax.{Process, Nil, Output, Input, Parallel, Replication, New, Event, Phase, Insert, Get}
use Rattle.spec_calculus.specs.Syntax as calculus
use Rattle.spec_calculus.specs.Points.{nodes}
use Rattle.pi_tree.specs.declared.syntax.Process.{Process as Tree, Par, Let}
use Rattle.pi_tree.specs.declared.syntax.Process as tree
use Rattle.pi_tree.specs.declared.syntax.Term.{Term}
use Rattle.pi_tree.specs.declared.syntax.Pat.{Pat}
use Rattle.pi_tree.specs.declared.expressions.Expr.{Expr}
use Rattle.pi_tree.specs.Processes.{process_of}
use Rattle.spec_protocol_scope.specs.Answers.{Answer, Unknown, AmbiguousNew, fault}
use Rattle.spec_protocol_scope.specs.Queries.{points_of, only_point}
use Rattle.scope_check.specs.declared.queries.Seen.{Seen}
use Rattle.scope_check.specs.declared.queries.Seen.TheVariants.{Nowhere, Once, Often}
use Rattle.scope_check.specs.Restrictions.{summary}

-- one more of none is one, and of some they are many
pub more_of : Seen → ℕ → Seen
more_of Nowhere point = Once point
more_of (Once first) point = Often
more_of Often point = Often

pub one_more : (before : List ℕ) (point : ℕ) → summary (before ++ point ∷ []) ≡ more_of (summary before) point
unfolding more_of
one_more [] point = refl
one_more (a ∷ []) point = refl
one_more (a ∷ (b ∷ rest)) point = refl

-- the nodes behind the first one are numbered from the next point
behind : (word : List ℕ) (point : ℕ) (ps qs : List Process)
    → points_of word (point + 1) (ps ++ qs) ≡ points_of word (point + 1) ps ++ points_of word (point + 1 + length ps) qs
    → points_of word (point + 1) (ps ++ qs) ≡ points_of word (point + 1) ps ++ points_of word (point + suc (length ps)) qs
behind word point ps qs e = e ∙ ap (λ (n : ℕ). points_of word (point + 1) ps ++ points_of word n qs) (omega arith)

chosen : (b : Bool) (point : ℕ) (whole front back : List ℕ) → whole ≡ front ++ back
    → (if b then point ∷ whole else whole) ≡ (if b then point ∷ front else front) ++ back
chosen true point whole front back e = ap (λ (xs : List ℕ). point ∷ xs) e
chosen false point whole front back e = e

-- those among some nodes, and among those behind them
pub points_append : (word : List ℕ) (point : ℕ) (ps qs : List Process)
    → points_of word point (ps ++ qs) ≡ points_of word point ps ++ points_of word (point + length ps) qs
points_append word point [] qs = ap (λ (n : ℕ). points_of word n qs) (omega arith)
points_append word point (New made next ∷ ps) qs =
    chosen (bytes_eq made word) point (points_of word (point + 1) (ps ++ qs)) (points_of word (point + 1) ps) (points_of word (point + suc (length ps)) qs) (behind word point ps qs (points_append word (point + 1) ps qs))
points_append word point (Nil ∷ ps) qs = behind word point ps qs (points_append word (point + 1) ps qs)
points_append word point (Output c m next ∷ ps) qs = behind word point ps qs (points_append word (point + 1) ps qs)
points_append word point (Input c p next ∷ ps) qs = behind word point ps qs (points_append word (point + 1) ps qs)
points_append word point (Parallel left right ∷ ps) qs = behind word point ps qs (points_append word (point + 1) ps qs)
points_append word point (Replication copied ∷ ps) qs = behind word point ps qs (points_append word (point + 1) ps qs)
points_append word point (calculus.Let p e next otherwise ∷ ps) qs = behind word point ps qs (points_append word (point + 1) ps qs)
points_append word point (Event performed next ∷ ps) qs = behind word point ps qs (points_append word (point + 1) ps qs)
points_append word point (Phase number next ∷ ps) qs = behind word point ps qs (points_append word (point + 1) ps qs)
points_append word point (Insert table arguments next ∷ ps) qs = behind word point ps qs (points_append word (point + 1) ps qs)
points_append word point (Get table patterns condition next otherwise ∷ ps) qs = behind word point ps qs (points_append word (point + 1) ps qs)

-- what is kept behind two parts in a row
pub both_parts : (word : List ℕ) (point next : ℕ) (left right : List Process) (before : List ℕ) (after : Seen)
    → next ≡ point + 1 + length left
    → after ≡ summary ((before ++ points_of word (point + 1) left) ++ points_of word next right)
    → after ≡ summary (before ++ points_of word (point + 1) (left ++ right))
both_parts word point next left right before after stands is =
    is ∙ ap summary (append_assoc before (points_of word (point + 1) left) (points_of word next right)
    ∙ ap (λ (points : List ℕ). before ++ points) (ap (λ (n : ℕ). points_of word (point + 1) left ++ points_of word n right) stands ∙ sym (points_append word (point + 1) left right)))

-- a process of two parts: `|`, a `let` or a `get`
abbrev IsOfParts : Tree → Box Tree Global → Box Tree Global → Type 0
IsOfParts process left right =
    (process ≡ Par left right)
    ⊎ (((p : Pat) × (e : Expr) × (process ≡ Let p e left right))
    ⊎ ((table : ℕ) × (ps : List calculus.Pattern) × (x : Option (Term × Term)) × (process ≡ tree.Get table ps x left right)))

-- its points are the next one and those of both parts
module _ (word : List ℕ) (point : ℕ) (process : Tree) (left right : Box Tree Global) (one other : Tree) (l : one ≡ left.value) (r : other ≡ right.value) where
  by_parts : (whole : Tree) → points_of word (point + 1) (nodes (process_of left.value) ++ nodes (process_of right.value)) ≡ points_of word point (nodes (process_of whole)) → process ≡ whole
      → points_of word (point + 1) (nodes (process_of one) ++ nodes (process_of other)) ≡ points_of word point (nodes (process_of process))
  by_parts whole same is =
      ap (λ (x : Tree). points_of word (point + 1) (nodes (process_of x) ++ nodes (process_of other))) l
      ∙ (ap (λ (x : Tree). points_of word (point + 1) (nodes (process_of left.value) ++ nodes (process_of x))) r
      ∙ (same ∙ ap (λ (x : Tree). points_of word point (nodes (process_of x))) (sym is)))

  pub parts_of : IsOfParts process left right → points_of word (point + 1) (nodes (process_of one) ++ nodes (process_of other)) ≡ points_of word point (nodes (process_of process))
  parts_of (inl is) = by_parts (Par left right) refl is
  parts_of (inr (inl (p, e, is))) = by_parts (Let p e left right) refl is
  parts_of (inr (inr (table, ps, x, is))) = by_parts (tree.Get table ps x left right) refl is

-- the point of a name's one restriction, by what is kept of them
abbrev pub by_seen : ℕ → Seen → Answer ℕ
by_seen token Nowhere = fault Unknown token
by_seen token (Once point) = Ok point
by_seen token Often = fault AmbiguousNew token

kept_only : (token : ℕ) (points : List ℕ) → only_point token points ≡ by_seen token (summary points)
kept_only token [] = refl
kept_only token (a ∷ []) = refl
kept_only token (a ∷ (b ∷ rest)) = refl

pub decided : (token : ℕ) (word text : List ℕ) (ps : List Process) (seen kept : Seen)
    → seen ≡ summary (points_of word 1 ps) → word ≡ text → seen ≡ kept → only_point token (points_of text 1 ps) ≡ by_seen token kept
decided token word text ps seen kept all spelled is =
    kept_only token (points_of text 1 ps) ∙ ap (by_seen token) (ap (λ (w : List ℕ). summary (points_of w 1 ps)) (sym spelled) ∙ (sym all ∙ is))
