-- A derivation that is told so far has each entry that it needs among those that are told or due.
use Rattle.std.proofs.Common.{◌≡◌, ◌⊎◌, ℕ, List, [], ◌∷◌, ◌++◌, refl, sym, subst, inl, inr, append_assoc}
use Rattle.std.proofs.lemmas.List.{append-nil, map-append}
use Rattle.std.specs.List.{AllByRecursion}
use Rattle.spec_saturation.specs.Key.{Entry}
use Rattle.log_text.specs.declared.tree.Line.{Line}
use Rattle.log_text.specs.declared.tree.Part.{Part}
use Rattle.log_text.specs.Derived.{behind, Derives, begins, goes_on, IsAmong, entries_of, HasParents, IsWhole}

among_left : (xs ys : List ℕ) (n : ℕ) → IsAmong xs n → IsAmong (xs ++ ys) n
among_left [] ys n h = absurd h
among_left (x ∷ xs) ys n (inl e) = inl e
among_left (x ∷ xs) ys n (inr h) = inr (among_left xs ys n h)

among_right : (xs ys : List ℕ) (n : ℕ) → IsAmong ys n → IsAmong (xs ++ ys) n
among_right [] ys n h = h
among_right (x ∷ xs) ys n h = inr (among_right xs ys n h)

among_either : (xs ys : List ℕ) (n : ℕ) → IsAmong (xs ++ ys) n → IsAmong xs n ⊎ IsAmong ys n
among_either [] ys n h = inr h
among_either (x ∷ xs) ys n (inl e) = inl (inl e)
among_either (x ∷ xs) ys n (inr h) = go (among_either xs ys n h)
  where
    go : IsAmong xs n ⊎ IsAmong ys n → IsAmong (x ∷ xs) n ⊎ IsAmong ys n
    go (inl a) = inl (inr a)
    go (inr b) = inr b

-- the entries that are told or due
abbrev needed : List Line → List ℕ → List ℕ
needed lines rest = entries_of lines ++ rest

module _ (lines : List Line) (rest : List ℕ) (next : ℕ) (part : Part) where
  abbrev longer : List Line
  longer = lines ++ record { entry = next; part = part } ∷ []

  told : entries_of longer ≡ entries_of lines ++ next ∷ []
  told = map-append (λ (l : Line). l.entry) lines (record { entry = next; part = part } ∷ [])

  at_end : (n : ℕ) → IsAmong (entries_of lines ++ next ∷ []) n → IsAmong (needed longer (rest ++ behind part)) n
  at_end n h = among_left (entries_of longer) (rest ++ behind part) n (subst (λ (xs : List ℕ). IsAmong xs n) (sym told) h)

  -- what was told or due still is
  kept : (n : ℕ) → IsAmong (needed lines (rest ++ next ∷ [])) n → IsAmong (needed longer (rest ++ behind part)) n
  kept n h = first (among_either (entries_of lines) (rest ++ next ∷ []) n h)
    where
      second : IsAmong rest n ⊎ IsAmong (next ∷ []) n → IsAmong (needed longer (rest ++ behind part)) n
      second (inl a) = among_right (entries_of longer) (rest ++ behind part) n (among_left rest (behind part) n a)
      second (inr b) = at_end n (among_right (entries_of lines) (next ∷ []) n b)

      first : IsAmong (entries_of lines) n ⊎ IsAmong (rest ++ next ∷ []) n → IsAmong (needed longer (rest ++ behind part)) n
      first (inl a) = at_end n (among_left (entries_of lines) (next ∷ []) n a)
      first (inr b) = second (among_either rest (next ∷ []) n b)

  all_kept : (ns : List ℕ) → AllByRecursion (IsAmong (needed lines (rest ++ next ∷ []))) ns → AllByRecursion (IsAmong (needed longer (rest ++ behind part))) ns
  all_kept [] h = tt
  all_kept (n ∷ ns) h = (kept n h.0, all_kept ns h.1)

  lines_kept : (ls : List Line) → AllByRecursion (HasParents (needed lines (rest ++ next ∷ []))) ls → AllByRecursion (HasParents (needed longer (rest ++ behind part))) ls
  lines_kept [] h = tt
  lines_kept (l ∷ ls) h = (all_kept (behind l.part) h.0, lines_kept ls h.1)

  all_due : (before ns : List ℕ) → AllByRecursion (IsAmong (before ++ ns)) ns
  all_due before [] = tt
  all_due before (n ∷ ns) = (
    among_right before (n ∷ ns) n (inl refl),
    subst (λ (xs : List ℕ). AllByRecursion (IsAmong xs) ns) (append_assoc before (n ∷ []) ns) (all_due (before ++ n ∷ []) ns),
  )

  -- the entries that the next one is of are due
  parents_due : HasParents (needed longer (rest ++ behind part)) record { entry = next; part = part }
  parents_due = subst (λ (xs : List ℕ). AllByRecursion (IsAmong xs) (behind part)) (append_assoc (entries_of longer) rest (behind part)) (all_due (entries_of longer ++ rest) (behind part))

all_behind : {A : Type 0} (Q : A → Type 0) (xs : List A) (x : A) → AllByRecursion Q xs → Q x → AllByRecursion Q (xs ++ x ∷ [])
all_behind Q [] x h q = (q, tt)
all_behind Q (y ∷ ys) x h q = (h.0, all_behind Q ys x h.1 q)

-- what is told so far
record IsSoFar (number : ℕ) (lines : List Line) (rest : List ℕ) : Type 0 where
  first : IsAmong (needed lines rest) number
  parents : AllByRecursion (HasParents (needed lines rest)) lines

so_far : (log : List Entry) (number : ℕ) (lines : List Line) (rest : List ℕ) → Derives log number lines rest → IsSoFar number lines rest
so_far log number _ _ begins = record { first = inl refl; parents = tt }
so_far log number _ _ (goes_on lines rest next part h is) =
    let before = so_far log number lines (rest ++ next ∷ []) h in
    record {
      first = kept lines rest next part number before.first;
      parents = all_behind (HasParents (needed (longer lines rest next part) (rest ++ behind part))) lines (record { entry = next; part = part }) (lines_kept lines rest next part lines before.parents) (parents_due lines rest next part);
    }

pub whole : (log : List Entry) (number : ℕ) (lines : List Line) → Derives log number lines [] → IsWhole number lines
whole log number lines h =
    let told = so_far log number lines [] h in
    record {
      first = subst (λ (xs : List ℕ). IsAmong xs number) (append-nil (entries_of lines)) told.first;
      parents = subst (λ (xs : List ℕ). AllByRecursion (HasParents xs) lines) (append-nil (entries_of lines)) told.parents;
    }
