-- What lines spell, by computation, and the texts that they stand in.
use Rattle.std.proofs.Common.{◌≡◌, ℕ, suc, ◌+◌, ◌≤◌, Bool, true, false, List, [], ◌∷◌, ◌++◌, length, map, refl, sym, ◌∙◌, ap, subst, arith, ◌⊎◌, inl, inr, Some, Result, Ok, Err, ◌↔◌}
use Rattle.std.specs.Prelude.{◌==◌}
use Rattle.std.specs.List.{AllByRecursion, concat, join_with_byte}
use Rattle.std.specs.Fmt.{decimal}
use Rattle.std.proofs.lemmas.Bool.{eqb-true}
use Rattle.spec_calculus.specs.Runs.{Step}
use Rattle.spec_run_text.specs.Lines.{onto_first, lines}
use Rattle.spec_run_text.specs.Spelling.{word_of, numbers_of, spaced, line_of, Spells}
use Rattle.spec_run_text.specs.Faults.{Fault, IsFaulty}
use Rattle.spec_run_text.specs.Text.{SpellEach, SpellsRun, FirstFault, text_of, unended_text_of, IsWritable}
use Rattle.spec_run_text.specs.Reading.{Action, action, read_line, preceded, read_lines}
use Rattle.spec_run_text.specs.Laws.{IsText}
use Rattle.spec_run_text.proofs.Fields.{Lacks}
use Rattle.spec_run_text.proofs.Actions.{action_of, action-word_of}
use Rattle.spec_run_text.proofs.Lacking.{Lacks-decimals, word_of-Lacks}
use Rattle.spec_run_text.proofs.OneLine.{Tells, read_line-Spells, read_line-tells, Spells-not_IsFaulty, IsFaulty-one}

-- what a result of reading lines says of them
abbrev pub TellsAll : ℕ → List (List ℕ) → Result (List Step) (Fault × ℕ) → Type 0
TellsAll from lines (Ok steps) = SpellEach lines steps
TellsAll from lines (Err refusal) = FirstFault from lines refusal.0 refusal.1

tells_first : (from : ℕ) (line : List ℕ) (lines : List (List ℕ)) (first : Result Step Fault) (later : Result (List Step) (Fault × ℕ)) → Tells line first → TellsAll (from + 1) lines later → TellsAll from (line ∷ lines) (preceded from first later)
tells_first from line lines (Err fault) later here there = inl (here, refl)
tells_first from line lines (Ok step) (Err refusal) here there = inr ((step, here), there)
tells_first from line lines (Ok step) (Ok steps) here there = (here, there)

-- what is read of lines holds of them
pub read_lines-tells : (from : ℕ) (lines : List (List ℕ)) → TellsAll from lines (read_lines from lines)
read_lines-tells from [] = tt
read_lines-tells from (line ∷ lines) =
    tells_first from line lines (read_line line) (read_lines (from + 1) lines) (read_line-tells line) (read_lines-tells (from + 1) lines)

-- lines that spell steps are read as these
pub read_lines-SpellEach : (from : ℕ) (lines : List (List ℕ)) (steps : List Step) → SpellEach lines steps → read_lines from lines ≡ Ok steps
read_lines-SpellEach from [] [] spelled = refl
read_lines-SpellEach from [] (step ∷ steps) spelled = absurd spelled
read_lines-SpellEach from (line ∷ lines) [] spelled = absurd spelled
read_lines-SpellEach from (line ∷ lines) (step ∷ steps) spelled =
    rw (read_line-Spells line step spelled.0, read_lines-SpellEach (from + 1) lines steps spelled.1)

read_line-IsFaulty : (line : List ℕ) (fault : Fault) → IsFaulty line fault → read_line line ≡ Err fault
read_line-IsFaulty line fault faulty = by (read_line line) (read_line-tells line)
  where
    by : (r : Result Step Fault) → Tells line r → r ≡ Err fault
    by (Ok step) spelled = absurd (Spells-not_IsFaulty line step fault spelled faulty)
    by (Err other) found = ap Err (IsFaulty-one line other fault found faulty)

-- and lines of which one is the first that spells none are refused there
pub read_lines-FirstFault : (from : ℕ) (lines : List (List ℕ)) (fault : Fault) (number : ℕ) → FirstFault from lines fault number → read_lines from lines ≡ Err (fault, number)
read_lines-FirstFault from [] fault number refused = absurd refused
read_lines-FirstFault from (line ∷ lines) fault number (inl here) =
    rw (read_line-IsFaulty line fault here.0) (ap (λ n. Err (fault, n)) (sym here.1))
read_lines-FirstFault from (line ∷ lines) fault number (inr later) =
    rw (read_line-Spells line later.0.0 later.0.1, read_lines-FirstFault (from + 1) lines fault number later.1)

-- lines that spell steps are those of the steps
SpellEach-lines : (ls : List (List ℕ)) (steps : List Step) → SpellEach ls steps → (ls ≡ map line_of steps) × AllByRecursion IsWritable steps
SpellEach-lines [] [] spelled = (refl, tt)
SpellEach-lines [] (step ∷ steps) spelled = absurd spelled
SpellEach-lines (line ∷ ls) [] spelled = absurd spelled
SpellEach-lines (line ∷ ls) (step ∷ steps) spelled =
    let later = SpellEach-lines ls steps spelled.1 in
    let here : line ≡ line_of step = spelled.0.text in
    ((λ i. here i ∷ later.0 i), (subst (λ l. Spells l step) here spelled.0, later.1))

SpellEach-writable : (steps : List Step) → AllByRecursion IsWritable steps → SpellEach (map line_of steps) steps
SpellEach-writable [] writable = tt
SpellEach-writable (step ∷ steps) writable = (writable.0, SpellEach-writable steps writable.1)

-- a text is its lines, each ended, or all but the last
pub ended : List (List ℕ) → List ℕ
ended [] = []
ended (line ∷ ls) = line ++ (10 ∷ ended ls)

text_is_ended : (steps : List Step) → text_of steps ≡ ended (map line_of steps)
unfolding ended
text_is_ended [] = refl
text_is_ended (step ∷ steps) = ap (λ xs. line_of step ++ (10 ∷ xs)) (text_is_ended steps)

abbrev IsTextOf : List ℕ → List (List ℕ) → Type 0
IsTextOf bytes ls = (bytes ≡ ended ls) ⊎ (bytes ≡ join_with_byte 10 ls)

text_of_feed : (bytes : List ℕ) (ls : List (List ℕ)) → IsTextOf bytes ls → IsTextOf (10 ∷ bytes) ([] ∷ ls)
unfolding ended
text_of_feed bytes ls (inl e) = inl (ap (λ xs. 10 ∷ xs) e)
text_of_feed bytes [] (inr e) = inl (ap (λ xs. 10 ∷ xs) e)
text_of_feed bytes (line ∷ ls) (inr e) = inr (ap (λ xs. 10 ∷ xs) e)

text_of_byte : (b : ℕ) (bytes : List ℕ) (ls : List (List ℕ)) → IsTextOf bytes ls → IsTextOf (b ∷ bytes) (onto_first b ls)
unfolding ended
text_of_byte b bytes [] (inl e) = inr (ap (λ xs. b ∷ xs) e)
text_of_byte b bytes [] (inr e) = inr (ap (λ xs. b ∷ xs) e)
text_of_byte b bytes (line ∷ ls) (inl e) = inl (ap (λ xs. b ∷ xs) e)
text_of_byte b bytes (line ∷ []) (inr e) = inr (ap (λ xs. b ∷ xs) e)
text_of_byte b bytes (line ∷ other ∷ ls) (inr e) = inr (ap (λ xs. b ∷ xs) e)

text_of_lines : (bytes : List ℕ) → IsTextOf bytes (lines bytes)
unfolding ended
text_of_lines [] = inl refl
text_of_lines (b ∷ bytes) = by (b == 10) refl (text_of_lines bytes)
  where
    by : (test : Bool) → (b == 10) ≡ test → IsTextOf bytes (lines bytes) → IsTextOf (b ∷ bytes) (lines (b ∷ bytes))
    by true here later = (let e = eqb-true b 10 here in rw here (subst (λ x. IsTextOf (x ∷ bytes) ([] ∷ lines bytes)) (sym e) (text_of_feed bytes (lines bytes) later)))
    by false here later = rw here (text_of_byte b bytes (lines bytes) later)

-- a line without line feed is the first of a text that it ends in
lines-front : (line rest : List ℕ) → Lacks 10 line → lines (line ++ (10 ∷ rest)) ≡ line ∷ lines rest
lines-front [] rest lacks = refl
lines-front (b ∷ line) rest lacks = rw (lacks.0, lines-front line rest lacks.1)

-- a line without line feed that is not empty is the only one of its text
lines-alone : (b : ℕ) (line : List ℕ) → Lacks 10 (b ∷ line) → lines (b ∷ line) ≡ (b ∷ line) ∷ []
lines-alone b [] lacks = rw lacks.0
lines-alone b (c ∷ line) lacks = rw (lacks.0, lines-alone c line lacks.1)

-- no line feed stands in the line of a step
Lacks-append : (b : ℕ) (xs ys : List ℕ) → Lacks b xs → Lacks b ys → Lacks b (xs ++ ys)
Lacks-append b [] ys p q = q
Lacks-append b (x ∷ xs) ys p q = (p.0, Lacks-append b xs ys p.1 q)

spaced-Lacks : (ns : List ℕ) → AllByRecursion (Lacks 10) (map decimal ns) → Lacks 10 (concat (map spaced ns))
spaced-Lacks [] lacks = tt
spaced-Lacks (n ∷ ns) lacks = Lacks-append 10 (spaced n) (concat (map spaced ns)) (refl, lacks.0) (spaced-Lacks ns lacks.1)

line_of-Lacks : (s : Step) → IsWritable s → Lacks 10 (line_of s)
line_of-Lacks s writable =
    Lacks-append 10 (word_of s) (concat (map spaced (numbers_of s))) (word_of-Lacks 10 s (omega arith))
    (spaced-Lacks (numbers_of s) (Lacks-decimals 10 (numbers_of s) (omega arith) writable.small))

lines-text_of : (steps : List Step) → AllByRecursion IsWritable steps → lines (text_of steps) ≡ map line_of steps
lines-text_of [] writable = refl
lines-text_of (step ∷ steps) writable =
    lines-front (line_of step) (text_of steps) (line_of-Lacks step writable.0) ∙ ap (λ ls. line_of step ∷ ls) (lines-text_of steps writable.1)

-- the line of a step is not empty
not_empty : (word : List ℕ) (a : Action) → action word ≡ Some a → 1 ≤ length word
not_empty [] a e = cc
not_empty (x ∷ xs) a e = omega arith

lines-some : (xs ys : List ℕ) → 1 ≤ length xs → Lacks 10 (xs ++ ys) → lines (xs ++ ys) ≡ (xs ++ ys) ∷ []
lines-some [] ys some lacks = absurd (omega arith)
lines-some (x ∷ xs) ys some lacks = lines-alone x (xs ++ ys) lacks

lines-line_of : (s : Step) → IsWritable s → lines (line_of s) ≡ line_of s ∷ []
lines-line_of s writable =
    lines-some (word_of s) (concat (map spaced (numbers_of s))) (not_empty (word_of s) (action_of s) (action-word_of s)) (line_of-Lacks s writable)

lines-unended_text_of : (steps : List Step) → AllByRecursion IsWritable steps → lines (unended_text_of steps) ≡ map line_of steps
lines-unended_text_of [] writable = refl
lines-unended_text_of (step ∷ []) writable = lines-line_of step writable.0
lines-unended_text_of (step ∷ next ∷ steps) writable =
    lines-front (line_of step) (unended_text_of (next ∷ steps)) (line_of-Lacks step writable.0) ∙ ap (λ ls. line_of step ∷ ls) (lines-unended_text_of (next ∷ steps) writable.1)

-- bytes spell steps exactly where they are the steps' text
SpellsRun-text : (bytes : List ℕ) (steps : List Step) → SpellsRun bytes steps → IsText bytes steps × AllByRecursion IsWritable steps
SpellsRun-text bytes steps spelled =
    let are = SpellEach-lines (lines bytes) steps spelled in
    let text = subst (IsTextOf bytes) are.0 (text_of_lines bytes) in
    (elim text as (λ t. IsText bytes steps) [ inl e ↦ inl (e ∙ sym (text_is_ended steps)) | inr e ↦ inr e ], are.1)

text-SpellsRun : (bytes : List ℕ) (steps : List Step) → IsText bytes steps × AllByRecursion IsWritable steps → SpellsRun bytes steps
text-SpellsRun bytes steps (inl e, writable) =
    subst (λ ls. SpellEach ls steps) (sym (ap lines e ∙ lines-text_of steps writable)) (SpellEach-writable steps writable)
text-SpellsRun bytes steps (inr e, writable) =
    subst (λ ls. SpellEach ls steps) (sym (ap lines e ∙ lines-unended_text_of steps writable)) (SpellEach-writable steps writable)

pub texts_are_exact : (bytes : List ℕ) (steps : List Step) → SpellsRun bytes steps ↔ (IsText bytes steps × AllByRecursion IsWritable steps)
texts_are_exact bytes steps = (SpellsRun-text bytes steps, text-SpellsRun bytes steps)

-- a text has no more lines than bytes
onto_first-length : (b : ℕ) (bytes : List ℕ) (ls : List (List ℕ)) → length ls ≤ length bytes → length (onto_first b ls) ≤ length (b ∷ bytes)
onto_first-length b bytes [] le = omega arith
onto_first-length b bytes (line ∷ ls) le = omega (arith, le)

lines-length : (bytes : List ℕ) → length (lines bytes) ≤ length bytes
lines-length [] = omega arith
lines-length (b ∷ bytes) = by (b == 10) refl (lines-length bytes)
  where
    by : (test : Bool) → (b == 10) ≡ test → length (lines bytes) ≤ length bytes → length (lines (b ∷ bytes)) ≤ length (b ∷ bytes)
    by true here le = rw here (omega (arith, le))
    by false here le = rw here (onto_first-length b bytes (lines bytes) le)

SpellEach-length : (ls : List (List ℕ)) (steps : List Step) → SpellEach ls steps → length steps ≡ length ls
SpellEach-length [] [] spelled = refl
SpellEach-length [] (step ∷ steps) spelled = absurd spelled
SpellEach-length (line ∷ ls) [] spelled = absurd spelled
SpellEach-length (line ∷ ls) (step ∷ steps) spelled = ap suc (SpellEach-length ls steps spelled.1)

-- and so no more steps
pub steps_are_few : (bytes : List ℕ) (steps : List Step) → SpellsRun bytes steps → length steps ≤ length bytes
steps_are_few bytes steps spelled = omega (arith, SpellEach-length (lines bytes) steps spelled, lines-length bytes)
