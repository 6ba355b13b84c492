-- Words and actions.
use Rattle.std.proofs.Common.{◌≡◌, ℕ, Bool, true, false, List, [], ◌∷◌, refl, ◌∙◌, ap, subst, Option, Some}
use Rattle.std.specs.Prelude.{cond, codes}
use Rattle.std.specs.Str.{bytes_eq}
use Rattle.std.proofs.lemmas.Slice.Eq.{bytes_eq-Decides}
use Rattle.spec_calculus.specs.Runs as runs
use Rattle.spec_calculus.specs.Runs.{Step}
use Rattle.spec_run_text.specs.Spelling.{word_of, numbers_of}
use Rattle.spec_run_text.specs.Reading.{Action, Build, Reduce, Part, Fresh, Split, Copy, Make, Pass, Hear, Say, Take, Fail, Mark, Next, Put, Fetch, Miss, action, step_with}

-- the word of an action
abbrev pub action_word : Action → List ℕ
action_word Build = codes "build"
action_word Reduce = codes "reduce"
action_word Part = codes "part"
action_word Fresh = codes "fresh"
action_word Split = codes "split"
action_word Copy = codes "copy"
action_word Make = codes "make"
action_word Pass = codes "pass"
action_word Hear = codes "hear"
action_word Say = codes "say"
action_word Take = codes "take"
action_word Fail = codes "fail"
action_word Mark = codes "mark"
action_word Next = codes "next"
action_word Put = codes "insert"
action_word Fetch = codes "get"
action_word Miss = codes "miss"

-- the action of a step
abbrev pub action_of : Step → Action
action_of (runs.Build constructor arguments) = Build
action_of (runs.Reduce destructor rule arguments) = Reduce
action_of (runs.Part value part) = Part
action_of runs.Fresh = Fresh
action_of (runs.Split thread) = Split
action_of (runs.Copy thread) = Copy
action_of (runs.Make thread) = Make
action_of (runs.Pass sender receiver) = Pass
action_of (runs.Hear thread) = Hear
action_of (runs.Say thread value) = Say
action_of (runs.Take thread label) = Take
action_of (runs.Fail thread) = Fail
action_of (runs.Mark thread) = Mark
action_of runs.Next = Next
action_of (runs.Put thread) = Put
action_of (runs.Fetch thread entry) = Fetch
action_of (runs.Miss thread) = Miss

pub action-word_of : (s : Step) → action (word_of s) ≡ Some (action_of s)
action-word_of (runs.Build constructor arguments) = refl
action-word_of (runs.Reduce destructor rule arguments) = refl
action-word_of (runs.Part value part) = refl
action-word_of runs.Fresh = refl
action-word_of (runs.Split thread) = refl
action-word_of (runs.Copy thread) = refl
action-word_of (runs.Make thread) = refl
action-word_of (runs.Pass sender receiver) = refl
action-word_of (runs.Hear thread) = refl
action-word_of (runs.Say thread value) = refl
action-word_of (runs.Take thread label) = refl
action-word_of (runs.Fail thread) = refl
action-word_of (runs.Mark thread) = refl
action-word_of runs.Next = refl
action-word_of (runs.Put thread) = refl
action-word_of (runs.Fetch thread entry) = refl
action-word_of (runs.Miss thread) = refl

pub word_of-action : (s : Step) → action_word (action_of s) ≡ word_of s
word_of-action (runs.Build constructor arguments) = refl
word_of-action (runs.Reduce destructor rule arguments) = refl
word_of-action (runs.Part value part) = refl
word_of-action runs.Fresh = refl
word_of-action (runs.Split thread) = refl
word_of-action (runs.Copy thread) = refl
word_of-action (runs.Make thread) = refl
word_of-action (runs.Pass sender receiver) = refl
word_of-action (runs.Hear thread) = refl
word_of-action (runs.Say thread value) = refl
word_of-action (runs.Take thread label) = refl
word_of-action (runs.Fail thread) = refl
word_of-action (runs.Mark thread) = refl
word_of-action runs.Next = refl
word_of-action (runs.Put thread) = refl
word_of-action (runs.Fetch thread entry) = refl
word_of-action (runs.Miss thread) = refl

pub step_with-numbers_of : (s : Step) → step_with (action_of s) (numbers_of s) ≡ Some s
step_with-numbers_of (runs.Build constructor arguments) = refl
step_with-numbers_of (runs.Reduce destructor rule arguments) = refl
step_with-numbers_of (runs.Part value part) = refl
step_with-numbers_of runs.Fresh = refl
step_with-numbers_of (runs.Split thread) = refl
step_with-numbers_of (runs.Copy thread) = refl
step_with-numbers_of (runs.Make thread) = refl
step_with-numbers_of (runs.Pass sender receiver) = refl
step_with-numbers_of (runs.Hear thread) = refl
step_with-numbers_of (runs.Say thread value) = refl
step_with-numbers_of (runs.Take thread label) = refl
step_with-numbers_of (runs.Fail thread) = refl
step_with-numbers_of (runs.Mark thread) = refl
step_with-numbers_of runs.Next = refl
step_with-numbers_of (runs.Put thread) = refl
step_with-numbers_of (runs.Fetch thread entry) = refl
step_with-numbers_of (runs.Miss thread) = refl

-- a test of a word at the head of others
tested : (word : List ℕ) (name : List ℕ) (a b : Action) (later : Option Action) → name ≡ action_word a → (cond (bytes_eq word name) (Some a) later) ≡ Some b → (later ≡ Some b → word ≡ action_word b) → word ≡ action_word b
tested word name a b later named e onward = by (bytes_eq word name) refl
  where
    by : (test : Bool) → bytes_eq word name ≡ test → word ≡ action_word b
    by true passes =
        let same : a ≡ b = (let f = rw passes at e in cc) in
        (bytes_eq-Decides word name).0 passes ∙ named ∙ ap action_word same
    by false fails = onward (rw fails at e)

pub action-some : (word : List ℕ) (a : Action) → action word ≡ Some a → word ≡ action_word a
action-some word a e =
    tested word _ Build a _ refl e λ e. tested word _ Reduce a _ refl e λ e. tested word _ Part a _ refl e λ e. tested word _ Fresh a _ refl e
    λ e. tested word _ Split a _ refl e λ e. tested word _ Copy a _ refl e λ e. tested word _ Make a _ refl e λ e. tested word _ Pass a _ refl e
    λ e. tested word _ Hear a _ refl e λ e. tested word _ Say a _ refl e λ e. tested word _ Take a _ refl e λ e. tested word _ Fail a _ refl e
    λ e. tested word _ Mark a _ refl e λ e. tested word _ Next a _ refl e λ e. tested word _ Put a _ refl e λ e. tested word _ Fetch a _ refl e
    λ e. tested word _ Miss a _ refl e λ e. cc

-- a step comes of its action and its numbers alone
pub record Comes (a : Action) (ns : List ℕ) (s : Step) : Type 0 where
  pub action_is : action_of s ≡ a
  pub numbers_are : numbers_of s ≡ ns

comes : (a : Action) (ns : List ℕ) (r s : Step) → action_of r ≡ a → numbers_of r ≡ ns → Some r ≡ Some s → Comes a ns s
comes a ns r s p q e = let same : r ≡ s = cc in subst (λ t. Comes a ns t) same (record { action_is = p; numbers_are = q })

pub step_with-some : (a : Action) (ns : List ℕ) (s : Step) → step_with a ns ≡ Some s → Comes a ns s
step_with-some Build (f ∷ ks) s e = comes _ _ _ s refl refl e
step_with-some Reduce (d ∷ r ∷ ks) s e = comes _ _ _ s refl refl e
step_with-some Part (k ∷ i ∷ []) s e = comes _ _ _ s refl refl e
step_with-some Fresh [] s e = comes _ _ _ s refl refl e
step_with-some Split (i ∷ []) s e = comes _ _ _ s refl refl e
step_with-some Copy (i ∷ []) s e = comes _ _ _ s refl refl e
step_with-some Make (i ∷ []) s e = comes _ _ _ s refl refl e
step_with-some Pass (i ∷ j ∷ []) s e = comes _ _ _ s refl refl e
step_with-some Hear (i ∷ []) s e = comes _ _ _ s refl refl e
step_with-some Say (j ∷ k ∷ []) s e = comes _ _ _ s refl refl e
step_with-some Take (i ∷ label) s e = comes _ _ _ s refl refl e
step_with-some Fail (i ∷ []) s e = comes _ _ _ s refl refl e
step_with-some Mark (i ∷ []) s e = comes _ _ _ s refl refl e
step_with-some Next [] s e = comes _ _ _ s refl refl e
step_with-some Put (i ∷ []) s e = comes _ _ _ s refl refl e
step_with-some Fetch (i ∷ j ∷ []) s e = comes _ _ _ s refl refl e
step_with-some Miss (i ∷ []) s e = comes _ _ _ s refl refl e
step_with-some other numbers s e = cc
