-- Units and processes are read as they are spelled.
use Rattle.std.proofs.Common.{◌≡◌, ◌≢◌, ℕ, zero, suc, ◌+◌, ◌<◌, ◌≤◌, true, false, List, [], ◌∷◌, ◌++◌, Option, Some, None, refl, ap, subst, inl, arith}
use Rattle.spec_calculus.specs.Bounds.{most_levels}
use Rattle.spec_protocol_grammar.specs.declared.class.Class.{Class}
use Rattle.spec_protocol_grammar.specs.declared.class.Class.TheVariants as w
use Rattle.spec_protocol_grammar.specs.Classes.{Source, fits}
use Rattle.spec_protocol_grammar.specs.Sketch.{TermSketch, Named, none, PatternSketch, NamedPattern, PatternsSketch, no_patterns, ConditionSketch, always, such_that, ProcessSketch, Process, BesideSketch, alone, beside, UnitSketch, Zero, Macro, Inner, Replicated, New, Output, Input, Happens, Let, If, Phase, Insert, Get, NextSketch, omitted, given}
use Rattle.spec_protocol_grammar.specs.Spelling.{Item, no, word, kept, term, pattern, atom, condition, process, besides, unit, next, Words, IsGreedy}
use Rattle.spec_protocol_grammar.specs.Refusals.{DeepAt}
use Rattle.spec_protocol_grammar.specs.Reading.{Reader, built, done, deep, with_place, then_marked, optional, both, arguments_at, term_at, pattern_at, atom_at, condition_from, condition_at, begins_unit, next_from, beside_from, next_at, zero_unit, macro, inner, replicated, new, output, input, happens, let_unit, if_unit, phase_unit, insert, get_unit, unit_by, unit_at, process_from, process_at}
use Rattle.spec_protocol_grammar.proofs.Items.{words-split, deep_front, greedy-append}
use Rattle.spec_protocol_grammar.proofs.Good.{IsDeep, Outcome, Sound, Good}
use Rattle.spec_protocol_grammar.proofs.Combine.{All, numbered_items, then_items, done_items, good_done, good_numbered, good_then}
use Rattle.spec_protocol_grammar.proofs.Choose.{good_same, good_built, good_firm, good_inner, choice_sound, refused_sound, good_deep, optional_items, both_items, good_optional, good_followed, Any, Way, way_sound, way_complete}
use Rattle.spec_protocol_grammar.proofs.Lists.{arguments_items, NotOpen, good_arguments}
use Rattle.spec_protocol_grammar.proofs.Terms.{never, begins_at, good_term}
use Rattle.spec_protocol_grammar.proofs.Patterns.{patterns_list, patterns_there, pattern_arguments_spelled, good_pattern, good_atom}

-- none of the words comes next that a unit may omit a part of
abbrev pub EndsUnit : Class → Type 0
EndsUnit c = (w.Open ≢ c) × (w.Semicolon ≢ c) × (w.Else ≢ c)

-- nor `|`
abbrev pub EndsProcess : Class → Type 0
EndsProcess c = EndsUnit c × (w.Bar ≢ c)

next_spelled : (c : Class) (l : ℕ) (o : Option UnitSketch) → next c l (next_from o) ≡ optional_items l c (unit (l + 1)) o
next_spelled c l None = refl
next_spelled c l (Some u) = refl

abbrev next_back : NextSketch → Option UnitSketch
next_back omitted = None
next_back (given u) = Some u

next_there : (k : NextSketch) → next_from (next_back k) ≡ k
next_there omitted = refl
next_there (given u) = refl

besides_spelled : (l : ℕ) (o : Option ProcessSketch) → besides l (beside_from o) ≡ optional_items l w.Bar (process (l + 1)) o
besides_spelled l None = refl
besides_spelled l (Some p) = refl

abbrev beside_back : BesideSketch → Option ProcessSketch
beside_back alone = None
beside_back (beside p) = Some p

beside_there : (b : BesideSketch) → beside_from (beside_back b) ≡ b
beside_there alone = refl
beside_there (beside p) = refl

condition_spelled : (l : ℕ) (o : Option (TermSketch × TermSketch)) → condition l (condition_from o) ≡ optional_items l w.Suchthat (then_items (term (l + 1)) l w.Equals (term (l + 1))) o
condition_spelled l None = refl
condition_spelled l (Some parts) = refl

abbrev condition_back : ConditionSketch → Option (TermSketch × TermSketch)
condition_back always = None
condition_back (such_that t v) = Some (t, v)

condition_there : (c : ConditionSketch) → condition_from (condition_back c) ≡ c
condition_there always = refl
condition_there (such_that t v) = refl

-- what may follow the patterns of an entry and the condition
abbrev EndsEntry : Class → Type 0
EndsEntry c = NotOpen c × (w.Suchthat ≢ c)

abbrev some_term : TermSketch
some_term = Named 0 none

abbrev process_back : ProcessSketch → UnitSketch × BesideSketch
process_back (Process u b) = (u, b)

process_there : (p : ProcessSketch) → process_from (process_back p) ≡ p
process_there (Process u b) = refl

module _ {most : ℕ} (left l : ℕ) (d : left + (l + 1) ≡ 513) (below : Reader UnitSketch) (inside : Reader ProcessSketch)
    (g : Good most All false (unit (l + 1)) EndsUnit below) (k : Good most All false (process (l + 1)) EndsProcess inside) where
  h : l ≤ most_levels
  h = omega arith

  t : Good most All false (term (l + 1)) NotOpen (term_at most left)
  t = good_term most left (l + 1) d

  p : Good most All false (pattern (l + 1)) NotOpen (pattern_at most left)
  p = good_pattern most left (l + 1) d

  -- what follows behind `;`
  continued : Good most All false (next w.Semicolon l) EndsUnit (next_at w.Semicolon below)
  continued = good_built (next w.Semicolon l) next_from (next_spelled w.Semicolon l) (good_optional l h w.Semicolon (λ k e. e) refl (λ c i. i.1) (λ at e low z. tt) g) next_back next_there

  -- a unit, and its else branch
  branches : Good most All false (both_items (unit (l + 1)) (next w.Else l)) EndsUnit (both below (next_at w.Else below))
  branches = good_inner (unit (l + 1)) (optional_items l w.Else (unit (l + 1))) below (optional w.Else below) (next w.Else l) next_from (next_spelled w.Else l) next_back next_there
      (good_followed l h w.Else (λ k e. e) refl (λ c i. i) (λ c i. i.2) (λ at e low z. tt) g g)

  -- behind `(`
  opened : {Y : Type 0} {sq : Y → List Item} {D : Class → Type 0} {q : Reader Y} → Good most All false sq D q → Good most All false (then_items done_items l w.Open sq) D (then_marked done w.Open q)
  opened q = good_then {C = Any} l h w.Open (λ k e. e) refl tt (good_done most) q

  zero_way : Way most (unit l) EndsUnit zero_unit (with_place w.Zero done)
  zero_way = record { items = _; spelled = λ x. refl; good = good_numbered l h w.Zero refl (good_done most) }

  macro_way : Way most (unit l) EndsUnit macro (with_place w.Name done)
  macro_way = record { items = _; spelled = λ x. refl; good = good_numbered l h w.Name refl (good_done most) }

  inner_way : Way most (unit l) EndsUnit inner (with_place w.Open (then_marked inside w.Close done))
  inner_way = record { items = _; spelled = λ x. refl; good = good_numbered l h w.Open refl (good_then l h w.Close (λ k e. e) refl ((λ e. cc, λ e. cc, λ e. cc), λ e. cc) k (good_done most)) }

  replicated_way : Way most (unit l) EndsUnit replicated (with_place w.Bang below)
  replicated_way = record { items = _; spelled = λ x. refl; good = good_numbered l h w.Bang refl g }

  new_way : Way most (unit l) EndsUnit new (with_place w.New (with_place w.Name (next_at w.Semicolon below)))
  new_way = record { items = _; spelled = λ x. refl; good = good_numbered l h w.New refl (good_numbered l h w.Name refl continued) }

  output_way : Way most (unit l) EndsUnit output (with_place w.Out (then_marked done w.Open (then_marked (term_at most left) w.Comma (then_marked (term_at most left) w.Close (next_at w.Semicolon below)))))
  output_way = record { items = _; spelled = λ x. refl; good = good_numbered l h w.Out refl (opened (good_then l h w.Comma (λ k e. e) refl (λ e. cc) t (good_then l h w.Close (λ k e. e) refl (λ e. cc) t continued))) }

  input_way : Way most (unit l) EndsUnit input (with_place w.In (then_marked done w.Open (then_marked (term_at most left) w.Comma (then_marked (pattern_at most left) w.Close (next_at w.Semicolon below)))))
  input_way = record { items = _; spelled = λ x. refl; good = good_numbered l h w.In refl (opened (good_then l h w.Comma (λ k e. e) refl (λ e. cc) t (good_then l h w.Close (λ k e. e) refl (λ e. cc) p continued))) }

  happens_way : Way most (unit l) EndsUnit happens (with_place w.Event (both (atom_at most left) (next_at w.Semicolon below)))
  happens_way = record {
    items = _;
    spelled = λ x. refl;
    good = good_numbered l h w.Event refl
        (good_inner (atom (l + 1)) (optional_items l w.Semicolon (unit (l + 1))) (atom_at most left) (optional w.Semicolon below) (next w.Semicolon l) next_from (next_spelled w.Semicolon l) next_back next_there
        (good_followed l h w.Semicolon (λ k e. e) refl (λ c i. i.0) (λ c i. i.1) (λ at e low z. tt) (good_atom most left (l + 1) d) g));
  }

  let_way : Way most (unit l) EndsUnit let_unit (with_place w.Let (then_marked (pattern_at most left) w.Equals (then_marked (term_at most left) w.In (both below (next_at w.Else below)))))
  let_way = record { items = _; spelled = λ x. refl; good = good_numbered l h w.Let refl (good_then l h w.Equals (λ k e. e) refl (λ e. cc) p (good_then l h w.In (λ k e. e) refl (λ e. cc) t branches)) }

  if_way : Way most (unit l) EndsUnit if_unit (with_place w.If (then_marked (term_at most left) w.Equals (then_marked (term_at most left) w.Then (both below (next_at w.Else below)))))
  if_way = record { items = _; spelled = λ x. refl; good = good_numbered l h w.If refl (good_then l h w.Equals (λ k e. e) refl (λ e. cc) t (good_then l h w.Then (λ k e. e) refl (λ e. cc) t branches)) }

  phase_way : Way most (unit l) EndsUnit phase_unit (with_place w.Phase (with_place w.Number (next_at w.Semicolon below)))
  phase_way = record { items = _; spelled = λ x. refl; good = good_numbered l h w.Phase refl (good_numbered l h w.Number refl continued) }

  insert_way : Way most (unit l) EndsUnit insert (with_place w.Insert (both (atom_at most left) (next_at w.Semicolon below)))
  insert_way = record {
    items = _;
    spelled = λ x. refl;
    good = good_numbered l h w.Insert refl
        (good_inner (atom (l + 1)) (optional_items l w.Semicolon (unit (l + 1))) (atom_at most left) (optional w.Semicolon below) (next w.Semicolon l) next_from (next_spelled w.Semicolon l) next_back next_there
        (good_followed l h w.Semicolon (λ k e. e) refl (λ c i. i.0) (λ c i. i.1) (λ at e low z. tt) (good_atom most left (l + 1) d) g));
  }

  -- the two sides of a condition
  sides : Good most All false (then_items (term (l + 1)) l w.Equals (term (l + 1))) EndsEntry (then_marked (term_at most left) w.Equals (term_at most left))
  sides = good_firm (λ c i. i.0) (good_then {D = NotOpen} l h w.Equals (λ k e. e) refl (λ e. cc) t t)

  -- the patterns of an entry, and the condition
  entry : Good most All false (both_items (arguments_items l (pattern (l + 1))) (condition l)) EndsEntry (both (arguments_at most (pattern_at most left)) (condition_at most left))
  entry = good_inner (arguments_items l (pattern (l + 1))) (optional_items l w.Suchthat (then_items (term (l + 1)) l w.Equals (term (l + 1))))
      (arguments_at most (pattern_at most left)) (optional w.Suchthat (then_marked (term_at most left) w.Equals (term_at most left)))
      (condition l) condition_from (condition_spelled l) condition_back condition_there
      (good_followed l h w.Suchthat (λ k e. e) refl (λ c i. i.0) (λ c i. i.1) (λ at e low z. tt) (good_arguments l h p) sides)

  get_spelled : (x : ℕ × (ℕ × ((List PatternSketch × ConditionSketch) × (UnitSketch × NextSketch))))
      → unit l (get_unit x) ≡ numbered_items l w.Get (numbered_items l w.Name (then_items (both_items (arguments_items l (pattern (l + 1))) (condition l)) l w.In (both_items (unit (l + 1)) (next w.Else l)))) x
  get_spelled x =
      ap (λ is. kept l x.0 w.Get ∷ kept l x.1.0 w.Name ∷ ((is ++ condition l x.1.1.0.1) ++ (word l w.In ∷ (unit (l + 1) x.1.1.1.0 ++ next w.Else l x.1.1.1.1)))) (pattern_arguments_spelled l x.1.1.0.0)

  get_way : Way most (unit l) EndsUnit get_unit (with_place w.Get (with_place w.Name (then_marked (both (arguments_at most (pattern_at most left)) (condition_at most left)) w.In (both below (next_at w.Else below)))))
  get_way = record {
    items = _;
    spelled = get_spelled;
    good = good_numbered l h w.Get refl (good_numbered l h w.Name refl (good_then l h w.In (λ k e. e) refl (λ e. cc, λ e. cc) entry branches));
  }

  unit_sound : (c : Class) → Sound false (unit l) EndsUnit (unit_by most left below inside c)
  unit_sound w.Zero = way_sound zero_way
  unit_sound w.Name = way_sound macro_way
  unit_sound w.Open = way_sound inner_way
  unit_sound w.Bang = way_sound replicated_way
  unit_sound w.New = way_sound new_way
  unit_sound w.Out = way_sound output_way
  unit_sound w.In = way_sound input_way
  unit_sound w.Event = way_sound happens_way
  unit_sound w.Let = way_sound let_way
  unit_sound w.If = way_sound if_way
  unit_sound w.Phase = way_sound phase_way
  unit_sound w.Insert = way_sound insert_way
  unit_sound w.Get = way_sound get_way
  unit_sound _ = refused_sound false (unit l) EndsUnit (Zero 0) (λ s at. inl refl) (λ c i. tt)

  abbrev by : Class → Reader UnitSketch
  by = unit_by most left below inside

  unit_complete : (s : Source) (at : ℕ) (u : UnitSketch) (end : ℕ) → All at → Words s at (unit l u) end → IsGreedy (unit l u) (s end).class → Outcome most s at (unit l u) u end (by (s at).class s at)
  unit_complete s at (Zero n) end low z y = way_complete by w.Zero (λ k e. e) zero_way (λ s at. refl) s at (n, tt) end z.0.1 z y
  unit_complete s at (Macro n) end low z y = way_complete by w.Name (λ k e. e) macro_way (λ s at. refl) s at (n, tt) end z.0.1 z y
  unit_complete s at (Inner n p) end low z y = way_complete by w.Open (λ k e. e) inner_way (λ s at. refl) s at (n, (p, tt)) end z.0.1 z y
  unit_complete s at (Replicated n u) end low z y = way_complete by w.Bang (λ k e. e) replicated_way (λ s at. refl) s at (n, u) end z.0.1 z y
  unit_complete s at (New n x k) end low z y = way_complete by w.New (λ k e. e) new_way (λ s at. refl) s at (n, (x, k)) end z.0.1 z y
  unit_complete s at (Output n c m k) end low z y = way_complete by w.Out (λ k e. e) output_way (λ s at. refl) s at (n, (tt, (c, (m, k)))) end z.0.1 z y
  unit_complete s at (Input n c p k) end low z y = way_complete by w.In (λ k e. e) input_way (λ s at. refl) s at (n, (tt, (c, (p, k)))) end z.0.1 z y
  unit_complete s at (Happens n a k) end low z y = way_complete by w.Event (λ k e. e) happens_way (λ s at. refl) s at (n, (a, k)) end z.0.1 z y
  unit_complete s at (Let n p t u k) end low z y = way_complete by w.Let (λ k e. e) let_way (λ s at. refl) s at (n, (p, (t, (u, k)))) end z.0.1 z y
  unit_complete s at (If n t v u k) end low z y = way_complete by w.If (λ k e. e) if_way (λ s at. refl) s at (n, (t, (v, (u, k)))) end z.0.1 z y
  unit_complete s at (Phase n x k) end low z y = way_complete by w.Phase (λ k e. e) phase_way (λ s at. refl) s at (n, (x, k)) end z.0.1 z y
  unit_complete s at (Insert n a k) end low z y = way_complete by w.Insert (λ k e. e) insert_way (λ s at. refl) s at (n, (a, k)) end z.0.1 z y
  unit_complete s at (Get n t ps c u k) end low z y =
      let P : PatternsSketch → Type 0 = λ ps. Words s at (unit l (Get n t ps c u k)) end → IsGreedy (unit l (Get n t ps c u k)) (s end).class → Outcome most s at (unit l (Get n t ps c u k)) (Get n t ps c u k) end (by (s at).class s at) in
      subst P (patterns_there ps) (λ z y. way_complete by w.Get (λ k e. e) get_way (λ s at. refl) s at (n, (t, ((patterns_list ps, c), (u, k)))) end z.0.1 z y) z y

  unit_level : Good most All false (unit l) EndsUnit (λ s at. by (s at).class s at)
  unit_level = record { some = Zero 0; some_firm = λ c i. tt; sound = choice_sound unit_sound; complete = unit_complete }

  process_level : Good most All false (process l) EndsProcess (built process_from (both below (built beside_from (optional w.Bar inside))))
  process_level = good_built (process l) process_from (λ x. refl)
      (good_inner (unit (l + 1)) (optional_items l w.Bar (process (l + 1))) below (optional w.Bar inside) (besides l) beside_from (besides_spelled l) beside_back beside_there
      (good_followed l h w.Bar (λ k e. e) refl (λ c i. i.0) (λ c i. i.1) (λ at e low z. tt) g k))
      process_back process_there

-- units and processes below the last level
module _ (l : ℕ) (h : most_levels < l) where
  abbrev fit : (s : Source) (at : ℕ) (c : Class) → (s at).class ≡ c → fits c (s at).class ≡ fits c c
  fit s at c e = ap (fits c) e

  unit_begun : (s : Source) (at : ℕ) (c : Class) → (s at).class ≡ c → begins_unit c ≡ true → IsDeep (unit l) EndsUnit s at at
  unit_begun s at w.Zero e b = record { other = Zero (s at).number; deep = ((refl, fit s at w.Zero e), inl (h, refl)); firm = λ c i. tt }
  unit_begun s at w.Name e b = record { other = Macro (s at).number; deep = ((refl, fit s at w.Name e), inl (h, refl)); firm = λ c i. tt }
  unit_begun s at w.Open e b = record { other = Inner (s at).number (Process (Zero 0) alone); deep = ((refl, fit s at w.Open e), inl (h, refl)); firm = λ c i. (λ e. cc, tt) }
  unit_begun s at w.Bang e b = record { other = Replicated (s at).number (Zero 0); deep = ((refl, fit s at w.Bang e), inl (h, refl)); firm = λ c i. tt }
  unit_begun s at w.New e b = record { other = New (s at).number 0 omitted; deep = ((refl, fit s at w.New e), inl (h, refl)); firm = λ c i. (i.1, tt) }
  unit_begun s at w.Out e b = record { other = Output (s at).number some_term some_term omitted; deep = ((refl, fit s at w.Out e), inl (h, refl)); firm = λ c i. (λ e. cc, (λ e. cc, (i.1, tt))) }
  unit_begun s at w.In e b = record { other = Input (s at).number some_term (NamedPattern 0 no_patterns) omitted; deep = ((refl, fit s at w.In e), inl (h, refl)); firm = λ c i. (λ e. cc, (λ e. cc, (i.1, tt))) }
  unit_begun s at w.Event e b = record { other = Happens (s at).number (record { first = 0; arguments = none }) omitted; deep = ((refl, fit s at w.Event e), inl (h, refl)); firm = λ c i. (i.0, (i.1, tt)) }
  unit_begun s at w.Let e b = record { other = Let (s at).number (NamedPattern 0 no_patterns) some_term (Zero 0) omitted; deep = ((refl, fit s at w.Let e), inl (h, refl)); firm = λ c i. (λ e. cc, (λ e. cc, (i.2, tt))) }
  unit_begun s at w.If e b = record { other = If (s at).number some_term some_term (Zero 0) omitted; deep = ((refl, fit s at w.If e), inl (h, refl)); firm = λ c i. (λ e. cc, (λ e. cc, (i.2, tt))) }
  unit_begun s at w.Phase e b = record { other = Phase (s at).number 0 omitted; deep = ((refl, fit s at w.Phase e), inl (h, refl)); firm = λ c i. (i.1, tt) }
  unit_begun s at w.Insert e b = record { other = Insert (s at).number (record { first = 0; arguments = none }) omitted; deep = ((refl, fit s at w.Insert e), inl (h, refl)); firm = λ c i. (i.0, (i.1, tt)) }
  unit_begun s at w.Get e b = record { other = Get (s at).number 0 no_patterns always (Zero 0) omitted; deep = ((refl, fit s at w.Get e), inl (h, refl)); firm = λ c i. (λ e. cc, (λ e. cc, (i.2, tt))) }
  unit_begun s at _ e b = never b

  unit_sunk : (s : Source) (at : ℕ) (u : UnitSketch) (end : ℕ) → Words s at (unit l u) end → (begins_unit (s at).class ≡ true) × DeepAt s at (unit l u) at
  unit_sunk s at (Zero n) end z = (begins_at begins_unit w.Zero (s at).class z.0.1 refl, (z.0, inl (h, refl)))
  unit_sunk s at (Macro n) end z = (begins_at begins_unit w.Name (s at).class z.0.1 refl, (z.0, inl (h, refl)))
  unit_sunk s at (Inner n p) end z = (begins_at begins_unit w.Open (s at).class z.0.1 refl, (z.0, inl (h, refl)))
  unit_sunk s at (Replicated n u) end z = (begins_at begins_unit w.Bang (s at).class z.0.1 refl, (z.0, inl (h, refl)))
  unit_sunk s at (New n x k) end z = (begins_at begins_unit w.New (s at).class z.0.1 refl, (z.0, inl (h, refl)))
  unit_sunk s at (Output n c m k) end z = (begins_at begins_unit w.Out (s at).class z.0.1 refl, (z.0, inl (h, refl)))
  unit_sunk s at (Input n c p k) end z = (begins_at begins_unit w.In (s at).class z.0.1 refl, (z.0, inl (h, refl)))
  unit_sunk s at (Happens n a k) end z = (begins_at begins_unit w.Event (s at).class z.0.1 refl, (z.0, inl (h, refl)))
  unit_sunk s at (Let n p t u k) end z = (begins_at begins_unit w.Let (s at).class z.0.1 refl, (z.0, inl (h, refl)))
  unit_sunk s at (If n t v u k) end z = (begins_at begins_unit w.If (s at).class z.0.1 refl, (z.0, inl (h, refl)))
  unit_sunk s at (Phase n x k) end z = (begins_at begins_unit w.Phase (s at).class z.0.1 refl, (z.0, inl (h, refl)))
  unit_sunk s at (Insert n a k) end z = (begins_at begins_unit w.Insert (s at).class z.0.1 refl, (z.0, inl (h, refl)))
  unit_sunk s at (Get n t ps c u k) end z = (begins_at begins_unit w.Get (s at).class z.0.1 refl, (z.0, inl (h, refl)))

  unit_deep : {most : ℕ} → Good most All false (unit l) EndsUnit (deep begins_unit)
  unit_deep = good_deep begins_unit (Zero 0) (λ s at. inl refl) (λ c i. tt) (λ s at b. unit_begun s at (s at).class refl b) unit_sunk

-- a process stands too deep where its first unit does
module _ (l : ℕ) (h : most_levels < l) where
  process_begun : (s : Source) (at : ℕ) → IsDeep (unit (l + 1)) EndsUnit s at at → IsDeep (process l) EndsProcess s at at
  process_begun s at f = record {
    other = Process f.other alone;
    deep = deep_front s (unit (l + 1) f.other) (no w.Bar ∷ []) at at f.deep;
    firm = λ c i. greedy-append (unit (l + 1) f.other) (no w.Bar ∷ []) c (f.firm c i.0) (i.1, tt);
  }

  process_sunk : (s : Source) (at : ℕ) (p : ProcessSketch) (end : ℕ) → Words s at (process l p) end → (begins_unit (s at).class ≡ true) × DeepAt s at (process l p) at
  process_sunk s at (Process u b) end z =
      let parts = words-split s (unit (l + 1) u) (besides l b) at end z in
      let sunk = unit_sunk (l + 1) (omega arith) s at u parts.0 parts.1 in
      (sunk.0, deep_front s (unit (l + 1) u) (besides l b) at at sunk.1)

  process_deep : {most : ℕ} → Good most All false (process l) EndsProcess (deep begins_unit)
  process_deep = good_deep begins_unit (Process (Zero 0) alone) (λ s at. inl refl) (λ c i. (i.1, tt))
      (λ s at b. process_begun s at (unit_begun (l + 1) (omega arith) s at (s at).class refl b)) process_sunk

mutual
  unfolding unit_at

  -- units are read as they are spelled
  pub good_unit : (most left l : ℕ) → left + l ≡ 513 → Good most All false (unit l) EndsUnit (unit_at most left)
  good_unit most zero l d = good_same (deep begins_unit) (unit_at most zero) (λ s at. refl) (unit_deep l (omega arith))
  good_unit most (suc left) l d =
      good_same (λ s at. unit_by most left (unit_at most left) (process_at most left) (s at).class s at) (unit_at most (suc left)) (λ s at. refl)
      (unit_level left l (omega arith) (unit_at most left) (process_at most left) (good_unit most left (l + 1) (omega arith)) (good_process most left (l + 1) (omega arith)))

  -- and processes
  pub good_process : (most left l : ℕ) → left + l ≡ 513 → Good most All false (process l) EndsProcess (process_at most left)
  good_process most zero l d = good_same (deep begins_unit) (process_at most zero) (λ s at. refl) (process_deep l (omega arith))
  good_process most (suc left) l d =
      good_same (built process_from (both (unit_at most left) (built beside_from (optional w.Bar (process_at most left))))) (process_at most (suc left)) (λ s at. refl)
      (process_level left l (omega arith) (unit_at most left) (process_at most left) (good_unit most left (l + 1) (omega arith)) (good_process most left (l + 1) (omega arith)))
