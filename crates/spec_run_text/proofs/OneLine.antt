-- What one line spells, by computation.
use Rattle.std.proofs.Common.{◌≡◌, ℕ, ◌<◌, ◌≤◌, Bool, true, false, List, [], ◌∷◌, ◌++◌, length, map, refl, sym, ◌∙◌, ap, subst, arith, Option, Some, None, Result, Ok, Err}
use Rattle.std.specs.Prelude.{nat_lt, ok_or}
use Rattle.std.specs.List.{AllByRecursion, concat}
use Rattle.std.specs.Fmt.{decimal}
use Rattle.std.proofs.lemmas.Bool.Decides.{nat_tests}
use Rattle.spec_calculus.specs.Bounds.{most_line_bytes}
use Rattle.spec_calculus.specs.Runs as runs
use Rattle.spec_calculus.specs.Runs.{Step}
use Rattle.spec_run_text.specs.Lines.{fields}
use Rattle.spec_run_text.specs.Spelling.{word_of, numbers_of, spaced, IsSmall, Spells}
use Rattle.spec_run_text.specs.Faults.{Fault, Word, Number, LongLine, first_word, IsFaulty}
use Rattle.spec_run_text.specs.Reading.{Action, Build, Reduce, Part, Fresh, Split, Copy, Make, Pass, Hear, Say, Take, Fail, Mark, Next, Put, Fetch, Miss, action, step_with, numerals, line_numbers, line_with, read_line}
use Rattle.spec_run_text.proofs.Numbers.{numerals_some, numerals-decimal}
use Rattle.spec_run_text.proofs.Fields.{joined, cut_line, fields-joined}
use Rattle.spec_run_text.proofs.Lacking.{Lacks-decimals, word_of-Lacks}
use Rattle.spec_run_text.proofs.Actions.{action_word, action-word_of, word_of-action, action-some, step_with-numbers_of, step_with-some}

joined-decimals : (ns : List ℕ) → joined (map decimal ns) ≡ concat (map spaced ns)
joined-decimals [] = refl
joined-decimals (n ∷ ns) = ap (λ xs. spaced n ++ xs) (joined-decimals ns)

-- the parts of a line that spells a step
pub record IsRead (line : List ℕ) (s : Step) : Type 0 where
  pub word : first_word line ≡ word_of s
  pub numbers : line_numbers line ≡ Some (numbers_of s)

pub IsRead-from_Spells : (line : List ℕ) (s : Step) → Spells line s → IsRead line s
IsRead-from_Spells line s spelled =
    let parts = cut_line line in
    let text : line ≡ word_of s ++ joined (map decimal (numbers_of s)) = spelled.text ∙ ap (λ xs. word_of s ++ xs) (sym (joined-decimals (numbers_of s))) in
    let cut : fields line ≡ word_of s ∷ map decimal (numbers_of s) =
    ap fields text ∙ fields-joined (word_of s) (map decimal (numbers_of s)) (word_of-Lacks 32 s (omega arith)) (Lacks-decimals 32 (numbers_of s) (omega arith) spelled.small) in
    let same : parts.first ∷ parts.others ≡ word_of s ∷ map decimal (numbers_of s) = sym parts.is.cut ∙ cut in
    record {
      word = sym parts.is.front ∙ cc same;
      numbers = rw cut (numerals-decimal (numbers_of s) spelled.small);
    }

pub Spells-from_parts : (line : List ℕ) (a : Action) (ns : List ℕ) (s : Step) → length line ≤ most_line_bytes → action (first_word line) ≡ Some a → line_numbers line ≡ Some ns → step_with a ns ≡ Some s → Spells line s
Spells-from_parts line a ns s short named numbered made =
    let parts = cut_line line in
    let comes = step_with-some a ns s made in
    let found : numerals parts.others ≡ Some ns = rw parts.is.cut at numbered in
    let are = numerals_some parts.others ns found in
    let word : parts.first ≡ word_of s = parts.is.front ∙ action-some (first_word line) a named ∙ ap action_word (sym comes.action_is) ∙ word_of-action s in
    let numbers : parts.others ≡ map decimal (numbers_of s) = are.0 ∙ ap (map decimal) (sym comes.numbers_are) in
    record {
      text = parts.is.whole ∙ (λ i. word i ++ joined (numbers i)) ∙ ap (λ xs. word_of s ++ xs) (joined-decimals (numbers_of s));
      small = subst (AllByRecursion IsSmall) (sym comes.numbers_are) are.1;
      short = short;
    }

-- a line that spells a step is read as it
pub read_line-Spells : (line : List ℕ) (s : Step) → Spells line s → read_line line ≡ Ok s
read_line-Spells line s spelled =
    let is = IsRead-from_Spells line s spelled in
    let fits : nat_lt most_line_bytes (length line) ≡ false = (let short = spelled.short in grind (arith, nat_tests)) in
    rw (fits, is.word, is.numbers, action-word_of s, step_with-numbers_of s)

-- a step with the word of each action
with_word : Action → Step
with_word Build = runs.Build 0 []
with_word Reduce = runs.Reduce 0 0 []
with_word Part = runs.Part 0 0
with_word Fresh = runs.Fresh
with_word Split = runs.Split 0
with_word Copy = runs.Copy 0
with_word Make = runs.Make 0
with_word Pass = runs.Pass 0 0
with_word Hear = runs.Hear 0
with_word Say = runs.Say 0 0
with_word Take = runs.Take 0 []
with_word Fail = runs.Fail 0
with_word Mark = runs.Mark 0
with_word Next = runs.Next
with_word Put = runs.Put 0
with_word Fetch = runs.Fetch 0 0
with_word Miss = runs.Miss 0

word_of-with_word : (a : Action) → action_word a ≡ word_of (with_word a)
unfolding with_word
word_of-with_word Build = refl
word_of-with_word Reduce = refl
word_of-with_word Part = refl
word_of-with_word Fresh = refl
word_of-with_word Split = refl
word_of-with_word Copy = refl
word_of-with_word Make = refl
word_of-with_word Pass = refl
word_of-with_word Hear = refl
word_of-with_word Say = refl
word_of-with_word Take = refl
word_of-with_word Fail = refl
word_of-with_word Mark = refl
word_of-with_word Next = refl
word_of-with_word Put = refl
word_of-with_word Fetch = refl
word_of-with_word Miss = refl

-- what a result of reading a line says of it
abbrev pub Tells : List ℕ → Result Step Fault → Type 0
Tells line (Ok s) = Spells line s
Tells line (Err fault) = IsFaulty line fault

tells_number : (line : List ℕ) (a : Action) → length line ≤ most_line_bytes → action (first_word line) ≡ Some a → read_line line ≡ Err Number → IsFaulty line Number
tells_number line a short named e =
    (short, (with_word a, action-some (first_word line) a named ∙ word_of-with_word a), λ spelled. (let f = sym e ∙ read_line-Spells line spelled.0 spelled.1 in cc f))

tells_step : (line : List ℕ) (a : Action) (ns : List ℕ) (o : Option Step) → length line ≤ most_line_bytes → action (first_word line) ≡ Some a → line_numbers line ≡ Some ns → step_with a ns ≡ o → read_line line ≡ ok_or o Number → Tells line (ok_or o Number)
tells_step line a ns None short named numbered made e = tells_number line a short named e
tells_step line a ns (Some s) short named numbered made e = Spells-from_parts line a ns s short named numbered made

tells_named : (line : List ℕ) (a : Action) (o : Option (List ℕ)) → length line ≤ most_line_bytes → action (first_word line) ≡ Some a → line_numbers line ≡ o → read_line line ≡ line_with (Some a) o → Tells line (line_with (Some a) o)
tells_named line a None short named numbered e = tells_number line a short named e
tells_named line a (Some ns) short named numbered e = tells_step line a ns (step_with a ns) short named numbered refl e

tells_short : (line : List ℕ) (o : Option Action) → length line ≤ most_line_bytes → action (first_word line) ≡ o → read_line line ≡ line_with o (line_numbers line) → Tells line (line_with o (line_numbers line))
tells_short line None short named e = (short, λ s same. (let f = sym named ∙ ap action same ∙ action-word_of s in cc f))
tells_short line (Some a) short named e = tells_named line a (line_numbers line) short named refl e

-- what is read of a line holds of it
pub read_line-tells : (line : List ℕ) → Tells line (read_line line)
read_line-tells line = by (nat_lt most_line_bytes (length line)) refl
  where
    by : (long : Bool) → nat_lt most_line_bytes (length line) ≡ long → Tells line (read_line line)
    by true h =
        let over : most_line_bytes < length line = grind (arith, nat_tests) in
        rw h over
    by false h =
        let short : length line ≤ most_line_bytes = grind (arith, nat_tests) in
        let e : read_line line ≡ line_with (action (first_word line)) (line_numbers line) = rw h in
        subst (Tells line) (sym e) (tells_short line (action (first_word line)) short refl e)

-- a line that spells a step has no fault
pub Spells-not_IsFaulty : (line : List ℕ) (s : Step) (fault : Fault) → Spells line s → IsFaulty line fault → ⊥
Spells-not_IsFaulty line s LongLine spelled faulty = omega (arith, spelled.short, faulty)
Spells-not_IsFaulty line s Word spelled faulty = faulty.1 s (IsRead-from_Spells line s spelled).word
Spells-not_IsFaulty line s Number spelled faulty = faulty.2 (s, spelled)

-- and a line has one fault at most
pub IsFaulty-one : (line : List ℕ) (f g : Fault) → IsFaulty line f → IsFaulty line g → f ≡ g
IsFaulty-one line LongLine LongLine p q = refl
IsFaulty-one line LongLine Word p q = absurd (omega (arith, p, q.0))
IsFaulty-one line LongLine Number p q = absurd (omega (arith, p, q.0))
IsFaulty-one line Word LongLine p q = absurd (omega (arith, p.0, q))
IsFaulty-one line Word Word p q = refl
IsFaulty-one line Word Number p q = absurd (p.1 q.1.0 q.1.1)
IsFaulty-one line Number LongLine p q = absurd (omega (arith, p.0, q))
IsFaulty-one line Number Word p q = absurd (q.1 p.1.0 p.1.1)
IsFaulty-one line Number Number p q = refl
