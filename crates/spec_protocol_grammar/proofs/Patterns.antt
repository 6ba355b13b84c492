-- Patterns and events are read as they are spelled.
use Rattle.std.proofs.Common.{◌≡◌, ℕ, zero, suc, ◌+◌, ◌<◌, ◌≤◌, true, false, List, [], ◌∷◌, ◌++◌, refl, ap, subst, inl, arith}
use Rattle.spec_calculus.specs.Bounds.{most_levels}
use Rattle.spec_protocol_grammar.specs.declared.class.Class.{Class}
use Rattle.spec_protocol_grammar.specs.declared.class.Class.TheVariants as w
use Rattle.spec_protocol_grammar.specs.Classes.{Source, fits}
use Rattle.spec_protocol_grammar.specs.Sketch.{none, PatternSketch, NamedPattern, Equal, GroupedPattern, PatternsSketch, no_patterns, more_patterns, AtomSketch, Named, patterns_sketch}
use Rattle.spec_protocol_grammar.specs.Spelling.{word, kept, more_of, term, pattern, pattern_arguments, patterns, commas_patterns, atom, Words, IsGreedy}
use Rattle.spec_protocol_grammar.specs.Refusals.{DeepAt}
use Rattle.spec_protocol_grammar.specs.Reading.{Reader, built, done, deep, with_place, then_marked, list_at, list_of, arguments_at, term_at, named_pattern, equal, grouped_pattern, begins_pattern, pattern_by, pattern_at, atom_from, begins_atom, atom_at}
use Rattle.spec_protocol_grammar.proofs.Good.{IsDeep, Outcome, Sound, Good}
use Rattle.spec_protocol_grammar.proofs.Combine.{All, numbered_items, then_items, done_items, good_numbered}
use Rattle.spec_protocol_grammar.proofs.Choose.{good_same, built_sound, built_complete, good_built, choice_sound, refused_sound, choice_outcome, good_deep}
use Rattle.spec_protocol_grammar.proofs.Lists.{list_items, arguments_items, NotOpen, good_parts, good_arguments}
use Rattle.spec_protocol_grammar.proofs.Terms.{never, begins_at, terms_list, terms_there, arguments_spelled, good_term}

-- patterns in a row, and their list
abbrev pub patterns_list : PatternsSketch → List PatternSketch
patterns_list no_patterns = []
patterns_list (more_patterns p ps) = p ∷ patterns_list ps

pub patterns_there : (ps : PatternsSketch) → patterns_sketch (patterns_list ps) ≡ ps
patterns_there no_patterns = refl
patterns_there (more_patterns p ps) = ap (more_patterns p) (patterns_there ps)

commas_spelled : (l : ℕ) (ps : List PatternSketch) → commas_patterns l (patterns_sketch ps) ≡ more_of l w.Comma (pattern (l + 1)) ps
commas_spelled l [] = refl
commas_spelled l (p ∷ ps) = ap (λ is. word l w.Comma ∷ (pattern (l + 1) p ++ is)) (commas_spelled l ps)

pub pattern_arguments_spelled : (l : ℕ) (ps : List PatternSketch) → pattern_arguments l (patterns_sketch ps) ≡ arguments_items l (pattern (l + 1)) ps
pattern_arguments_spelled l [] = refl
pattern_arguments_spelled l (p ∷ ps) = ap (λ is. word l w.Open ∷ ((pattern (l + 1) p ++ is) ++ (word l w.Close ∷ []))) (commas_spelled l ps)

patterns_spelled : (l : ℕ) (p : PatternSketch × List PatternSketch) → patterns l (patterns_sketch (list_of p)) ≡ list_items l w.Comma (pattern (l + 1)) p
patterns_spelled l p = ap (λ is. pattern (l + 1) p.0 ++ is) (commas_spelled l p.1)

module _ {most : ℕ} (left l : ℕ) (d : left + (l + 1) ≡ 513) (below : Reader PatternSketch) (g : Good most All false (pattern (l + 1)) NotOpen below) where
  h : l ≤ most_levels
  h = omega arith

  named_good : Good most All false (numbered_items l w.Name (arguments_items l (pattern (l + 1)))) NotOpen (with_place w.Name (arguments_at most below))
  named_good = good_numbered l h w.Name refl (good_arguments l h g)

  equal_good : Good most All false (numbered_items l w.Equals (term (l + 1))) NotOpen (with_place w.Equals (term_at most left))
  equal_good = good_numbered l h w.Equals refl (good_term most left (l + 1) d)

  grouped_good : Good most All false (numbered_items l w.Open (then_items (list_items l w.Comma (pattern (l + 1))) l w.Close done_items)) NotOpen (with_place w.Open (then_marked (list_at most w.Comma below) w.Close done))
  grouped_good = good_numbered l h w.Open refl (good_parts l h g)

  named_spelled : (p : ℕ × List PatternSketch) → pattern l (named_pattern p) ≡ numbered_items l w.Name (arguments_items l (pattern (l + 1))) p
  named_spelled p = ap (λ is. kept l p.0 w.Name ∷ is) (pattern_arguments_spelled l p.1)

  grouped_spelled : (p : ℕ × ((PatternSketch × List PatternSketch) × Unit {0})) → pattern l (grouped_pattern p) ≡ numbered_items l w.Open (then_items (list_items l w.Comma (pattern (l + 1))) l w.Close done_items) p
  grouped_spelled p = ap (λ is. kept l p.0 w.Open ∷ (is ++ (word l w.Close ∷ []))) (patterns_spelled l p.1.0)

  pattern_sound : (c : Class) → Sound false (pattern l) NotOpen (pattern_by most left below c)
  pattern_sound w.Name = built_sound (pattern l) named_pattern named_spelled named_good
  pattern_sound w.Equals = built_sound (pattern l) equal (λ p. refl) equal_good
  pattern_sound w.Open = built_sound (pattern l) grouped_pattern grouped_spelled grouped_good
  pattern_sound _ = refused_sound false (pattern l) NotOpen (NamedPattern 0 no_patterns) (λ s at. inl refl) (λ c i. (i, tt))

  pattern_complete : (s : Source) (at : ℕ) (p : PatternSketch) (end : ℕ) → All at → Words s at (pattern l p) end → IsGreedy (pattern l p) (s end).class → Outcome most s at (pattern l p) p end (pattern_by most left below (s at).class s at)
  pattern_complete s at (NamedPattern n ps) end low =
      let P : PatternsSketch → Type 0 = λ ps. Words s at (pattern l (NamedPattern n ps)) end → IsGreedy (pattern l (NamedPattern n ps)) (s end).class → Outcome most s at (pattern l (NamedPattern n ps)) (NamedPattern n ps) end (pattern_by most left below (s at).class s at) in
      subst P (patterns_there ps) (λ z y. choice_outcome (pattern_by most left below) w.Name (λ k e. e) z.0.1 (built_complete (pattern l) named_pattern named_spelled named_good s at (n, patterns_list ps) end tt z y))
  pattern_complete s at (Equal n t) end low = λ z y.
      choice_outcome (pattern_by most left below) w.Equals (λ k e. e) z.0.1 (built_complete (pattern l) equal (λ p. refl) equal_good s at (n, t) end tt z y)
  pattern_complete s at (GroupedPattern n no_patterns) end low = λ z y. absurd z.1
  pattern_complete s at (GroupedPattern n (more_patterns p ps)) end low =
      let P : PatternsSketch → Type 0 = λ ps. Words s at (pattern l (GroupedPattern n (more_patterns p ps))) end → IsGreedy (pattern l (GroupedPattern n (more_patterns p ps))) (s end).class → Outcome most s at (pattern l (GroupedPattern n (more_patterns p ps))) (GroupedPattern n (more_patterns p ps)) end (pattern_by most left below (s at).class s at) in
      subst P (patterns_there ps) (λ z y. choice_outcome (pattern_by most left below) w.Open (λ k e. e) z.0.1 (built_complete (pattern l) grouped_pattern grouped_spelled grouped_good s at (n, ((p, patterns_list ps), tt)) end tt z y))

  pattern_level : Good most All false (pattern l) NotOpen (λ s at. pattern_by most left below (s at).class s at)
  pattern_level = record { some = NamedPattern 0 no_patterns; some_firm = λ c i. (i, tt); sound = choice_sound pattern_sound; complete = pattern_complete }

-- patterns and events below the last level
module _ (l : ℕ) (h : most_levels < l) where
  pattern_begun : (s : Source) (at : ℕ) (c : Class) → (s at).class ≡ c → begins_pattern c ≡ true → IsDeep (pattern l) NotOpen s at at
  pattern_begun s at w.Name e b = record { other = NamedPattern (s at).number no_patterns; deep = ((refl, ap (fits w.Name) e), inl (h, refl)); firm = λ c i. (i, tt) }
  pattern_begun s at w.Equals e b = record { other = Equal (s at).number (Named 0 none); deep = ((refl, ap (fits w.Equals) e), inl (h, refl)); firm = λ c i. (i, tt) }
  pattern_begun s at w.Open e b = record {
    other = GroupedPattern (s at).number (more_patterns (NamedPattern 0 no_patterns) no_patterns);
    deep = ((refl, ap (fits w.Open) e), inl (h, refl));
    firm = λ c i. (λ e. cc, (λ e. cc, tt));
  }
  pattern_begun s at _ e b = never b

  pattern_sunk : (s : Source) (at : ℕ) (p : PatternSketch) (end : ℕ) → Words s at (pattern l p) end → (begins_pattern (s at).class ≡ true) × DeepAt s at (pattern l p) at
  pattern_sunk s at (NamedPattern n ps) end z = (begins_at begins_pattern w.Name (s at).class z.0.1 refl, (z.0, inl (h, refl)))
  pattern_sunk s at (Equal n t) end z = (begins_at begins_pattern w.Equals (s at).class z.0.1 refl, (z.0, inl (h, refl)))
  pattern_sunk s at (GroupedPattern n ps) end z = (begins_at begins_pattern w.Open (s at).class z.0.1 refl, (z.0, inl (h, refl)))

  pattern_deep : {most : ℕ} → Good most All false (pattern l) NotOpen (deep begins_pattern)
  pattern_deep = good_deep begins_pattern (NamedPattern 0 no_patterns) (λ s at. inl refl) (λ c i. (i, tt)) (λ s at b. pattern_begun s at (s at).class refl b) pattern_sunk

  atom_begun : (s : Source) (at : ℕ) (c : Class) → (s at).class ≡ c → begins_atom c ≡ true → IsDeep (atom l) NotOpen s at at
  atom_begun s at w.Name e b = record { other = record { first = (s at).number; arguments = none }; deep = ((refl, ap (fits w.Name) e), inl (h, refl)); firm = λ c i. (i, tt) }
  atom_begun s at _ e b = never b

  atom_sunk : (s : Source) (at : ℕ) (a : AtomSketch) (end : ℕ) → Words s at (atom l a) end → (begins_atom (s at).class ≡ true) × DeepAt s at (atom l a) at
  atom_sunk s at a end z = (begins_at begins_atom w.Name (s at).class z.0.1 refl, (z.0, inl (h, refl)))

  atom_deep : {most : ℕ} → Good most All false (atom l) NotOpen (deep begins_atom)
  atom_deep = good_deep begins_atom (record { first = 0; arguments = none }) (λ s at. inl refl) (λ c i. (i, tt)) (λ s at b. atom_begun s at (s at).class refl b) atom_sunk

-- patterns are read as they are spelled
pub good_pattern : (most left l : ℕ) → left + l ≡ 513 → Good most All false (pattern l) NotOpen (pattern_at most left)
unfolding pattern_at
good_pattern most zero l d = good_same (deep begins_pattern) (pattern_at most zero) (λ s at. refl) (pattern_deep l (omega arith))
good_pattern most (suc left) l d =
    good_same (λ s at. pattern_by most left (pattern_at most left) (s at).class s at) (pattern_at most (suc left)) (λ s at. refl)
    (pattern_level left l (omega arith) (pattern_at most left) (good_pattern most left (l + 1) (omega arith)))

-- and events
pub good_atom : (most left l : ℕ) → left + l ≡ 513 → Good most All false (atom l) NotOpen (atom_at most left)
unfolding atom_at
good_atom most zero l d = good_same (deep begins_atom) (atom_at most zero) (λ s at. refl) (atom_deep l (omega arith))
good_atom most (suc left) l d =
    good_same (built atom_from (with_place w.Name (arguments_at most (term_at most left)))) (atom_at most (suc left)) (λ s at. refl)
    (good_built (atom l) atom_from (λ p. ap (λ is. kept l p.0 w.Name ∷ is) (arguments_spelled l p.1))
    (good_numbered l (omega arith) w.Name refl (good_arguments l (omega arith) (good_term most left (l + 1) (omega arith))))
    (λ a. (a.first, terms_list a.arguments)) (λ a. ap (λ (ts : _). record { first = a.first; arguments = ts }) (terms_there a.arguments)))
