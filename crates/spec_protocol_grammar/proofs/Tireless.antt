-- Reading with more fuel than the file has words never tires.
use Rattle.std.proofs.Common.{◌≡◌, ℕ, zero, suc, ◌+◌, ◌<◌, ◌≤◌, Bool, true, false, cond, None, Some, inl, inr, refl, ap, ◌∙◌, sym, arith}
use Rattle.std.proofs.lemmas.Bool.{cases_lt}
use Rattle.spec_calculus.specs.Bounds.{most_levels}
use Rattle.spec_protocol_grammar.specs.declared.class.Class.{Class}
use Rattle.spec_protocol_grammar.specs.declared.class.Class.TheVariants as w
use Rattle.spec_protocol_grammar.specs.Classes.{Source, same, fits}
use Rattle.spec_protocol_grammar.specs.Sketch.{TermSketch, PatternSketch, ProcessSketch, UnitSketch, FileSketch}
use Rattle.spec_protocol_grammar.specs.Laws.{HasAnswer}
use Rattle.spec_protocol_grammar.proofs.Answers.{found_sketch, word_refused, deep_refused}
use Rattle.spec_protocol_grammar.specs.Reading.{Read, Found, Unexpected, TooDeep, Tired, Reader, step, built, done, with_place, then_marked, optional, both, either, deep, others_of, list_at, arguments_of, arguments_at, begins_term, named, grouped, term_by, term_at, begins_pattern, named_pattern, equal, grouped_pattern, pattern_by, pattern_at, begins_atom, atom_from, atom_at, condition_from, condition_at, begins_unit, next_from, beside_from, next_at, zero_unit, macro, inner, replicated, new, output, input, happens, let_unit, if_unit, phase_unit, insert, get_unit, unit_by, unit_at, process_from, process_at, name_from, name_at, happening_from, happening_at, alternative_from, alternative_at, alternatives_from, alternatives_at, phase_from, phase_at, attacker_from, correspondence, question_by, question_at, rule_from, rule_at, sized_at, names_at, free, fun, hidden, data_from, event_from, table_from, reduc, query, definition, declaration_by, declaration_at, main_at, declarations_from, declarations_at, file_from, file_at}

-- a choice, by its test
choice : {X : Type 0} (P : X → Type 0) (b : Bool) (x y : X) → (b ≡ true → P x) → (b ≡ false → P y) → P (cond b x y)
choice P true x y f g = f refl
choice P false x y f g = g refl

module _ (size : ℕ) where
  -- what was found ends at this place or later, within the file
  abbrev Rests : {X : Type 0} → ℕ → Read X → Type 0
  Rests low (Found x e) = (low ≤ e) × (e ≤ size)
  Rests low (Unexpected i) = Unit {0}
  Rests low (TooDeep i) = Unit {0}
  Rests low (Tired i) = ⊥

  -- reading did not tire
  abbrev pub Answers : {X : Type 0} → Read X → Type 0
  Answers (Found x e) = Unit {0}
  Answers (Unexpected i) = Unit {0}
  Answers (TooDeep i) = Unit {0}
  Answers (Tired i) = ⊥

  step_rests : {X Y : Type 0} (low middle : ℕ) (o : Read X) (f : X → ℕ → Read Y) → Rests middle o → ((x : X) (e : ℕ) → middle ≤ e → e ≤ size → Rests low (f x e)) → Rests low (step o f)
  step_rests low middle (Found x e) f h next = next x e h.0 h.1
  step_rests low middle (Unexpected i) f h next = tt
  step_rests low middle (TooDeep i) f h next = tt
  step_rests low middle (Tired i) f h next = h

  step_answers : {X Y : Type 0} (middle : ℕ) (o : Read X) (f : X → ℕ → Read Y) → Rests middle o → ((x : X) (e : ℕ) → middle ≤ e → e ≤ size → Answers (f x e)) → Answers (step o f)
  step_answers middle (Found x e) f h next = next x e h.0 h.1
  step_answers middle (Unexpected i) f h next = tt
  step_answers middle (TooDeep i) f h next = tt
  step_answers middle (Tired i) f h next = h

  built_answers : {X Y : Type 0} (o : Read X) (f : X → Y) → Answers o → Answers (step o (λ x e. Found (f x) e))
  built_answers (Found x e) f h = tt
  built_answers (Unexpected i) f h = tt
  built_answers (TooDeep i) f h = tt
  built_answers (Tired i) f h = h

  lower : {X : Type 0} (low high : ℕ) → low ≤ high → (o : Read X) → Rests high o → Rests low o
  lower low high l (Found x e) h = let above = h.0 in (omega arith, h.1)
  lower low high l (Unexpected i) h = tt
  lower low high l (TooDeep i) h = tt
  lower low high l (Tired i) h = h

  rests_answers : {X : Type 0} (low : ℕ) (o : Read X) → Rests low o → Answers o
  rests_answers low (Found x e) h = tt
  rests_answers low (Unexpected i) h = tt
  rests_answers low (TooDeep i) h = tt
  rests_answers low (Tired i) h = h

  module _ (s : Source) (ends : (s size).class ≡ w.End) where
    -- from each place of the file it ends at this place or later; or moves on
    record Steady {X : Type 0} (r : Reader X) : Type 0 where
      rests : (at : ℕ) → at ≤ size → Rests at (r s at)

    record Moving {X : Type 0} (r : Reader X) : Type 0 where
      moves : (at : ℕ) → at ≤ size → Rests (at + 1) (r s at)

    moving_steady : {X : Type 0} (r : Reader X) → Moving r → Steady r
    moving_steady r h = record { rests = λ at l. lower at (at + 1) (omega arith) (r s at) (h.moves at l) }

    -- a word that will do for ends_not end stands before the end
    word_before : (test : Class → Bool) → test w.End ≡ false → (at : ℕ) → at ≤ size → test (s at).class ≡ true → at < size
    word_before test ends_not at l h =
        elim (cases_lt at size) [
          | inl before ↦ before
          | inr behind ↦ absurd (contra (ap (λ (k : ℕ). test (s k).class) (let same : at ≡ size = omega arith in same) ∙ ap test ends) h)
        ]
      where
        contra : test (s at).class ≡ test w.End → test (s at).class ≡ true → ⊥
        contra e f = let g : true ≡ false = sym f ∙ (e ∙ ends_not) in cc

    built_steady : {X Y : Type 0} (f : X → Y) (r : Reader X) → Steady r → Steady (built f r)
    built_steady f r h = record { rests = λ at l. step_rests at at (r s at) (λ x e. Found (f x) e) (h.rests at l) (λ x e low high. (low, high)) }

    built_moving : {X Y : Type 0} (f : X → Y) (r : Reader X) → Moving r → Moving (built f r)
    built_moving f r h = record { moves = λ at l. step_rests (at + 1) (at + 1) (r s at) (λ x e. Found (f x) e) (h.moves at l) (λ x e low high. (low, high)) }

    done_steady : Steady done
    done_steady = record { rests = λ at l. (omega arith, l) }

    numbered_moving : {X : Type 0} (c : Class) (r : Reader X) → fits c w.End ≡ false → Steady r → Moving (with_place c r)
    numbered_moving c r ends_not h = record {
      moves = λ at l.
          choice (Rests (at + 1)) (fits c (s at).class) (step (r s (at + 1)) (λ x e. Found ((s at).number, x) e)) (Unexpected at)
          (λ t. let before = word_before (fits c) ends_not at l t in step_rests (at + 1) (at + 1) (r s (at + 1)) (λ x e. Found ((s at).number, x) e) (h.rests (at + 1) (omega arith)) (λ x e low high. (low, high)))
          (λ t. tt);
    }

    numbered_steady : {X : Type 0} (c : Class) (r : Reader X) → fits c w.End ≡ false → Steady r → Steady (with_place c r)
    numbered_steady c r ends_not h = moving_steady (with_place c r) (numbered_moving c r ends_not h)

    then_steady : {X Y : Type 0} (r : Reader X) (c : Class) (q : Reader Y) → fits c w.End ≡ false → Steady r → Steady q → Steady (then_marked r c q)
    then_steady r c q ends_not h k = record {
      rests = λ at l.
          step_rests at at (r s at) (λ x e. cond (fits c (s e).class) (step (q s (e + 1)) (λ y e'. Found (x, y) e')) (Unexpected e)) (h.rests at l)
          (λ x e low high. choice (Rests at) (fits c (s e).class) (step (q s (e + 1)) (λ y e'. Found (x, y) e')) (Unexpected e)
          (λ t. let before = word_before (fits c) ends_not e high t in
          step_rests at (e + 1) (q s (e + 1)) (λ y e'. Found (x, y) e') (k.rests (e + 1) (omega arith)) (λ y e' low' high'. (omega arith, high')))
          (λ t. tt));
    }

    both_steady : {X Y : Type 0} (r : Reader X) (q : Reader Y) → Steady r → Steady q → Steady (both r q)
    both_steady r q h k = record {
      rests = λ at l.
          step_rests at at (r s at) (λ x e. step (q s e) (λ y e'. Found (x, y) e')) (h.rests at l)
          (λ x e low high. step_rests at e (q s e) (λ y e'. Found (x, y) e') (k.rests e high) (λ y e' low' high'. (omega arith, high')));
    }

    -- what may be omitted: the reader behind the word need only go on from there
    optional_rests : {X : Type 0} (c : Class) (r : Reader X) → same c w.End ≡ false → (at : ℕ) → at ≤ size → (at < size → Rests (at + 1) (r s (at + 1))) → Rests at (optional c r s at)
    optional_rests c r ends_not at l h =
        choice (Rests at) (same c (s at).class) (step (r s (at + 1)) (λ x e. Found (Some x) e)) (Found None at)
        (λ t. step_rests at (at + 1) (r s (at + 1)) (λ x e. Found (Some x) e) (h (word_before (same c) ends_not at l t)) (λ x e low high. (omega arith, high)))
        (λ t. (omega arith, l))

    optional_steady : {X : Type 0} (c : Class) (r : Reader X) → same c w.End ≡ false → Steady r → Steady (optional c r)
    optional_steady c r ends_not h = record { rests = λ at l. optional_rests c r ends_not at l (λ before. h.rests (at + 1) (omega arith)) }

    either_steady : {X Y : Type 0} (c : Class) (r : Reader X) (q : Reader Y) → Steady r → Steady q → Steady (either c r q)
    either_steady c r q h k = record {
      rests = λ at l.
          choice (Rests at) (same c (s at).class) (step (r s at) (λ x e. Found (inl x) e)) (step (q s at) (λ y e. Found (inr y) e))
          (λ t. step_rests at at (r s at) (λ x e. Found (inl x) e) (h.rests at l) (λ x e low high. (low, high)))
          (λ t. step_rests at at (q s at) (λ y e. Found (inr y) e) (k.rests at l) (λ y e low high. (low, high)));
    }

    deep_steady : (X : Type 0) (begins : Class → Bool) → Steady (deep {X = X} begins)
    deep_steady X begins = record { rests = λ at l. choice (Rests at) (begins (s at).class) (TooDeep at) (Unexpected at) (λ t. tt) (λ t. tt) }

    -- a list with fuel to the end
    list_rests : {X : Type 0} (n : ℕ) (c : Class) (r : Reader X) → same c w.End ≡ false → Steady r → (at : ℕ) → at ≤ size → size < at + n → Rests at (list_at n c r s at)
    unfolding list_at
    list_rests zero c r ends_not h at l more = omega arith
    list_rests (suc n) c r ends_not h at l more =
        step_rests at at (r s at) (λ x e. step (built others_of (optional c (list_at n c r)) s e) (λ y e'. Found (x, y) e')) (h.rests at l)
        (λ x e low high. step_rests at e (built others_of (optional c (list_at n c r)) s e) (λ y e'. Found (x, y) e')
        (step_rests e e (optional c (list_at n c r) s e) (λ y e'. Found (others_of y) e')
        (optional_rests c (list_at n c r) ends_not e high (λ before. list_rests n c r ends_not h (e + 1) (omega arith) (omega arith))) (λ y e' low' high'. (low', high')))
        (λ y e' low' high'. (omega arith, high')))

    module _ (most : ℕ) (long : size < most) where
      list_steady : {X : Type 0} (c : Class) (r : Reader X) → same c w.End ≡ false → Steady r → Steady (list_at most c r)
      list_steady c r ends_not h = record { rests = λ at l. list_rests most c r ends_not h at l (omega arith) }

      arguments_steady : {X : Type 0} (r : Reader X) → Steady r → Steady (arguments_at most r)
      unfolding arguments_at
      arguments_steady r h = record {
        rests = λ at l.
            let whole = built_steady arguments_of (optional w.Open (then_marked (list_at most w.Comma r) w.Close done))
            (optional_steady w.Open _ refl (then_steady (list_at most w.Comma r) w.Close done refl (list_steady w.Comma r refl h) done_steady)) in
            whole.rests at l;
      }

      -- a list in parentheses
      parts_steady : {X : Type 0} (r : Reader X) → Steady r → Steady (then_marked (list_at most w.Comma r) w.Close done)
      parts_steady r h = then_steady (list_at most w.Comma r) w.Close done refl (list_steady w.Comma r refl h) done_steady

      term_by_steady : (below : Reader TermSketch) → Steady below → (c : Class) → Steady (term_by most below c)
      term_by_steady below h w.Name = built_steady named _ (numbered_steady w.Name _ refl (arguments_steady below h))
      term_by_steady below h w.Open = built_steady grouped _ (numbered_steady w.Open _ refl (parts_steady below h))
      term_by_steady below h _ = record { rests = λ at l. tt }

      term_steady : (left : ℕ) → Steady (term_at most left)
      unfolding term_at
      term_steady zero = record { rests = λ at l. let whole = deep_steady _ begins_term in whole.rests at l }
      term_steady (suc left) = record { rests = λ at l. let whole = term_by_steady (term_at most left) (term_steady left) (s at).class in whole.rests at l }

      pattern_by_steady : (left : ℕ) (below : Reader PatternSketch) → Steady below → (c : Class) → Steady (pattern_by most left below c)
      pattern_by_steady left below h w.Name = built_steady named_pattern _ (numbered_steady w.Name _ refl (arguments_steady below h))
      pattern_by_steady left below h w.Equals = built_steady equal _ (numbered_steady w.Equals _ refl (term_steady left))
      pattern_by_steady left below h w.Open = built_steady grouped_pattern _ (numbered_steady w.Open _ refl (parts_steady below h))
      pattern_by_steady left below h _ = record { rests = λ at l. tt }

      pattern_steady : (left : ℕ) → Steady (pattern_at most left)
      unfolding pattern_at
      pattern_steady zero = record { rests = λ at l. let whole = deep_steady _ begins_pattern in whole.rests at l }
      pattern_steady (suc left) = record { rests = λ at l. let whole = pattern_by_steady left (pattern_at most left) (pattern_steady left) (s at).class in whole.rests at l }

      atom_steady : (left : ℕ) → Steady (atom_at most left)
      unfolding atom_at
      atom_steady zero = record { rests = λ at l. let whole = deep_steady _ begins_atom in whole.rests at l }
      atom_steady (suc left) = record { rests = λ at l. let whole = built_steady atom_from (with_place w.Name (arguments_at most (term_at most left))) (numbered_steady w.Name _ refl (arguments_steady (term_at most left) (term_steady left))) in whole.rests at l }

      next_steady : (c : Class) (below : Reader UnitSketch) → same c w.End ≡ false → Steady below → Steady (next_at c below)
      next_steady c below ends_not h = built_steady next_from (optional c below) (optional_steady c below ends_not h)

      condition_steady : (left : ℕ) → Steady (condition_at most left)
      condition_steady left = built_steady condition_from _ (optional_steady w.Suchthat _ refl (then_steady (term_at most left) w.Equals (term_at most left) refl (term_steady left) (term_steady left)))

      unit_by_steady : (left : ℕ) (below : Reader UnitSketch) (inside : Reader ProcessSketch) → Steady below → Steady inside → (c : Class) → Steady (unit_by most left below inside c)
      unit_by_steady left below inside h k w.Zero = built_steady zero_unit _ (numbered_steady w.Zero done refl done_steady)
      unit_by_steady left below inside h k w.Name = built_steady macro _ (numbered_steady w.Name done refl done_steady)
      unit_by_steady left below inside h k w.Open = built_steady inner _ (numbered_steady w.Open _ refl (then_steady inside w.Close done refl k done_steady))
      unit_by_steady left below inside h k w.Bang = built_steady replicated _ (numbered_steady w.Bang below refl h)
      unit_by_steady left below inside h k w.New = built_steady new _ (numbered_steady w.New _ refl (numbered_steady w.Name _ refl (next_steady w.Semicolon below refl h)))
      unit_by_steady left below inside h k w.Out = built_steady output _ (numbered_steady w.Out _ refl (then_steady done w.Open _ refl done_steady
          (then_steady (term_at most left) w.Comma _ refl (term_steady left) (then_steady (term_at most left) w.Close _ refl (term_steady left) (next_steady w.Semicolon below refl h)))))
      unit_by_steady left below inside h k w.In = built_steady input _ (numbered_steady w.In _ refl (then_steady done w.Open _ refl done_steady
          (then_steady (term_at most left) w.Comma _ refl (term_steady left) (then_steady (pattern_at most left) w.Close _ refl (pattern_steady left) (next_steady w.Semicolon below refl h)))))
      unit_by_steady left below inside h k w.Event = built_steady happens _ (numbered_steady w.Event _ refl (both_steady (atom_at most left) _ (atom_steady left) (next_steady w.Semicolon below refl h)))
      unit_by_steady left below inside h k w.Let = built_steady let_unit _ (numbered_steady w.Let _ refl (then_steady (pattern_at most left) w.Equals _ refl (pattern_steady left)
          (then_steady (term_at most left) w.In _ refl (term_steady left) (both_steady below _ h (next_steady w.Else below refl h)))))
      unit_by_steady left below inside h k w.If = built_steady if_unit _ (numbered_steady w.If _ refl (then_steady (term_at most left) w.Equals _ refl (term_steady left)
          (then_steady (term_at most left) w.Then _ refl (term_steady left) (both_steady below _ h (next_steady w.Else below refl h)))))
      unit_by_steady left below inside h k w.Phase = built_steady phase_unit _ (numbered_steady w.Phase _ refl (numbered_steady w.Number _ refl (next_steady w.Semicolon below refl h)))
      unit_by_steady left below inside h k w.Insert = built_steady insert _ (numbered_steady w.Insert _ refl (both_steady (atom_at most left) _ (atom_steady left) (next_steady w.Semicolon below refl h)))
      unit_by_steady left below inside h k w.Get = built_steady get_unit _ (numbered_steady w.Get _ refl (numbered_steady w.Name _ refl
          (then_steady (both (arguments_at most (pattern_at most left)) (condition_at most left)) w.In _ refl (both_steady (arguments_at most (pattern_at most left)) _ (arguments_steady (pattern_at most left) (pattern_steady left)) (condition_steady left))
          (both_steady below _ h (next_steady w.Else below refl h)))))
      unit_by_steady left below inside h k _ = record { rests = λ at l. tt }

      process_steps : (left : ℕ) → Steady (unit_at most left) → Steady (process_at most left) → Steady (process_at most (suc left))
      unfolding process_at
      process_steps left h k = record {
        rests = λ at l. let whole = built_steady process_from (both (unit_at most left) (built beside_from (optional w.Bar (process_at most left))))
            (both_steady (unit_at most left) _ h (built_steady beside_from _ (optional_steady w.Bar (process_at most left) refl k))) in whole.rests at l;
      }

      -- units and processes, with so many levels left
      units_steady : (left : ℕ) → Steady (unit_at most left) × Steady (process_at most left)
      unfolding unit_at process_at
      units_steady zero = (deep_steady _ begins_unit, deep_steady _ begins_unit)
      units_steady (suc left) =
          let below = units_steady left in
          (record { rests = λ at l. let whole = unit_by_steady left (unit_at most left) (process_at most left) below.0 below.1 (s at).class in whole.rests at l }, process_steps left below.0 below.1)

      process_steady : Steady (process_at most most_levels)
      process_steady = (units_steady most_levels).1

      name_steady : Steady name_at
      name_steady = built_steady name_from _ (numbered_steady w.Name done refl done_steady)

      happening_steady : Steady (happening_at most)
      happening_steady = built_steady happening_from _ (then_steady done w.Event (atom_at most most_levels) refl done_steady (atom_steady most_levels))

      alternative_steady : Steady (alternative_at most)
      unfolding alternative_at
      alternative_steady = record { rests = λ at l. let whole = built_steady alternative_from _ (list_steady w.And (happening_at most) refl happening_steady) in whole.rests at l }

      alternatives_steady : Steady (alternatives_at most)
      unfolding alternatives_at
      alternatives_steady = record {
        rests = λ at l. let whole = built_steady alternatives_from (either w.False (then_marked done w.False done) (list_at most w.Or (alternative_at most)))
            (either_steady w.False _ _ (then_steady done w.False done refl done_steady done_steady) (list_steady w.Or (alternative_at most) refl alternative_steady)) in whole.rests at l;
      }

      phase_steady : Steady phase_at
      phase_steady = built_steady phase_from _ (optional_steady w.Phase _ refl (numbered_steady w.Number done refl done_steady))

      question_by_steady : (c : Class) → Steady (question_by most c)
      question_by_steady w.Attacker = built_steady attacker_from _ (numbered_steady w.Attacker _ refl (then_steady done w.Open _ refl done_steady
          (either_steady w.New _ _ (then_steady done w.New _ refl done_steady (numbered_steady w.Name _ refl (then_steady done w.Close phase_at refl done_steady phase_steady)))
          (then_steady (term_at most most_levels) w.Close phase_at refl (term_steady most_levels) phase_steady))))
      question_by_steady w.Event = built_steady correspondence _ (numbered_steady w.Event _ refl (then_steady (atom_at most most_levels) w.Implies _ refl (atom_steady most_levels) alternatives_steady))
      question_by_steady _ = record { rests = λ at l. tt }

      question_steady : Steady (question_at most)
      unfolding question_at
      question_steady = record { rests = λ at l. let whole = question_by_steady (s at).class in whole.rests at l }

      rule_steady : Steady (rule_at most)
      unfolding rule_at
      rule_steady = record {
        rests = λ at l. let whole = built_steady rule_from (with_place w.Name (then_marked done w.Open (then_marked (list_at most w.Comma (term_at most most_levels)) w.Close (then_marked done w.Arrow (term_at most most_levels)))))
            (numbered_steady w.Name _ refl (then_steady done w.Open _ refl done_steady (then_steady _ w.Close _ refl (list_steady w.Comma (term_at most most_levels) refl (term_steady most_levels))
            (then_steady done w.Arrow (term_at most most_levels) refl done_steady (term_steady most_levels))))) in whole.rests at l;
      }

      sized_steady : Steady sized_at
      sized_steady = numbered_steady w.Name _ refl (then_steady done w.Slash _ refl done_steady (numbered_steady w.Number _ refl (then_steady done w.Dot done refl done_steady done_steady)))

      names_steady : Steady (names_at most)
      names_steady = then_steady _ w.Dot done refl (list_steady w.Comma name_at refl name_steady) done_steady

      declaration_by_moving : (c : Class) → Moving (declaration_by most c)
      declaration_by_moving w.Private = built_moving hidden _ (numbered_moving w.Private _ refl (either_steady w.Free _ _
          (then_steady done w.Free (names_at most) refl done_steady names_steady) (then_steady done w.Fun sized_at refl done_steady sized_steady)))
      declaration_by_moving w.Free = built_moving (free true) _ (numbered_moving w.Free (names_at most) refl names_steady)
      declaration_by_moving w.Fun = built_moving (fun true) _ (numbered_moving w.Fun sized_at refl sized_steady)
      declaration_by_moving w.Data = built_moving data_from _ (numbered_moving w.Data sized_at refl sized_steady)
      declaration_by_moving w.Table = built_moving table_from _ (numbered_moving w.Table sized_at refl sized_steady)
      declaration_by_moving w.Reduc = built_moving reduc _ (numbered_moving w.Reduc _ refl (then_steady _ w.Dot done refl (list_steady w.Semicolon (rule_at most) refl rule_steady) done_steady))
      declaration_by_moving w.Event = built_moving event_from _ (numbered_moving w.Event sized_at refl sized_steady)
      declaration_by_moving w.Query = built_moving query _ (numbered_moving w.Query _ refl (then_steady (question_at most) w.Dot done refl question_steady done_steady))
      declaration_by_moving w.Let = built_moving definition _ (numbered_moving w.Let _ refl (numbered_steady w.Name _ refl (then_steady done w.Equals _ refl done_steady
          (then_steady (process_at most most_levels) w.Dot done refl process_steady done_steady))))
      declaration_by_moving _ = record { moves = λ at l. tt }

      declaration_moving : Moving (declaration_at most)
      unfolding declaration_at
      declaration_moving = record { moves = λ at l. let whole = declaration_by_moving (s at).class in whole.moves at l }

      -- the end of the file is read last, and reading does not tire
      marked_answers : {X : Type 0} (r : Reader X) (c : Class) (at : ℕ) → Rests at (r s at) → Answers (then_marked r c done s at)
      marked_answers r c at h = step_answers at (r s at) (λ x e. cond (fits c (s e).class) (step (done s (e + 1)) (λ y e'. Found (x, y) e')) (Unexpected e)) h
          (λ x e low high. choice Answers (fits c (s e).class) (step (done s (e + 1)) (λ y e'. Found (x, y) e')) (Unexpected e) (λ t. tt) (λ t. tt))

      main_answers : (at : ℕ) → at ≤ size → Answers (main_at most s at)
      unfolding main_at
      main_answers at l =
          choice Answers (fits w.Process (s at).class) (step (then_marked (process_at most most_levels) w.End done s (at + 1)) (λ x e. Found ((s at).number, x) e)) (Unexpected at)
          (λ t. let before = word_before (fits w.Process) refl at l t in
          built_answers (then_marked (process_at most most_levels) w.End done s (at + 1)) (λ x. ((s at).number, x)) (marked_answers (process_at most most_levels) w.End (at + 1) (process_steady.rests (at + 1) (omega arith))))
          (λ t. tt)

      declarations_answer : (rounds at : ℕ) → at ≤ size → size < at + rounds → Answers (declarations_at most rounds s at)
      unfolding declarations_at
      declarations_answer zero at l more = omega arith
      declarations_answer (suc rounds) at l more =
          built_answers (either w.Process (main_at most) (both (declaration_at most) (declarations_at most rounds)) s at) declarations_from
          (choice Answers (same w.Process (s at).class) (step (main_at most s at) (λ x e. Found (inl x) e)) (step (both (declaration_at most) (declarations_at most rounds) s at) (λ y e. Found (inr y) e))
          (λ t. built_answers (main_at most s at) (λ x. inl x) (main_answers at l))
          (λ t. built_answers (both (declaration_at most) (declarations_at most rounds) s at) (λ y. inr y)
          (step_answers (at + 1) (declaration_at most s at) (λ x e. step (declarations_at most rounds s e) (λ y e'. Found (x, y) e')) (declaration_moving.moves at l)
          (λ x e low high. built_answers (declarations_at most rounds s e) (λ y. (x, y)) (declarations_answer rounds e high (omega arith))))))

      -- reading a file does not tire
      pub file_answers : Answers (file_at most s 0)
      unfolding file_at
      file_answers = built_answers (declarations_at most most s 0) file_from (declarations_answer most 0 (omega arith) (omega arith))

-- so a file has an answer
by_reading : (s : Source) (size most : ℕ) → (s size).class ≡ w.End → (o : Read FileSketch) → Answers size o → file_at most s 0 ≡ o → HasAnswer s size
by_reading s size most ends (Found f e) h is = inl (f, found_sketch s most e f is)
by_reading s size most ends (Unexpected i) h is = inr (inl (i, word_refused s size most i ends is))
by_reading s size most ends (TooDeep i) h is = inr (inr (i, deep_refused s most i is))
by_reading s size most ends (Tired i) h is = absurd h

pub has_answer : (s : Source) (size : ℕ) → (s size).class ≡ w.End → HasAnswer s size
has_answer s size ends = by_reading s size (size + 1) ends (file_at (size + 1) s 0) (file_answers size s ends (size + 1) (omega arith)) refl
