-- A parse that has no fault never stops at `clap`'s own word `help`.
use Rattle.std.proofs.Common.{◌≡◌, ℕ, Bool, true, false, not, cond, List, [], ◌∷◌, Option, Some, None, refl, codes, is_some, ◌&&◌}
use Rattle.std.specs.List.{fold}
use Rattle.std.specs.Str.{bytes_eq}
use Rattle.clap.specs.Lexer.{long_of, short_of}
use Rattle.clap.specs.Kinds.{or_else}
use Rattle.clap.specs.Simple.{Shape}
use Rattle.clap.specs.Walk.{Held, Names, Outcome, Rule, Step, Text, Waiting, Walk, after_flag, after_step, arg_by_index, done, idle, long_or_other, next, option, plain, plain_word, positional, refused, short_or_plain, subcommand, subcommand_met, subcommand_or_other, to_positional, trailing, value, waits, walked, walked_from, word_met}
use Rattle.clap.specs.Faults.{other_fault, step_fault, turn_fault, walk_fault, word_fault}
use Rattle.clap.specs.declared.error.kind.ErrorKind.TheVariants.{DisplayHelp, InvalidSubcommand}
use Rattle.command_words.proofs.Walking.{neither}

-- a word is no call for help
abbrev IsNoHelp : Step → Type 0
IsNoHelp (subcommand name) = bytes_eq name (codes "help") ≡ false
IsNoHelp _ = Unit {0}

-- and the walk did not stop at one
abbrev pub StopsElsewhere : Option (Text × List Text) → Type 0
StopsElsewhere None = Unit {0}
StopsElsewhere (Some p) = bytes_eq p.0 (codes "help") ≡ false

module _ (s : Shape) (enabled : s.disable_help_subcommand ≡ false) where
  plain_step : (waiting : Waiting) (word : Text) (h : Held) → IsNoHelp (plain_word s.rules waiting word h).1
  plain_step idle word h = tt
  plain_step positional word h = tt
  plain_step (option id) word h = tt

  after_step_is : (waiting : Waiting) (word : Text) (h : Held) (o : Outcome) → IsNoHelp (after_flag s.rules waiting word h o).1
  after_step_is waiting word h done = tt
  after_step_is waiting word h (waits id) = tt
  after_step_is waiting word h plain = plain_step waiting word h
  after_step_is waiting word h refused = plain_step waiting word h

  short_step : (waiting : Waiting) (word : Text) (o : Option Text) (h : Held) → IsNoHelp (short_or_plain s.rules waiting word o h).1
  short_step waiting word None h = plain_step waiting word h
  short_step waiting word (Some flags) h = after_step_is waiting word _ _

  flag_step : (waiting : Waiting) (word : Text) (o : Option (Text × Option Text)) (h : Held) → IsNoHelp (long_or_other s.rules waiting word o h).1
  flag_step waiting word None h = short_step waiting word (short_of word) h
  flag_step waiting word (Some p) h = after_step_is waiting word _ _

  named : (b off : Bool) → off ≡ false → cond (b && not off) (DisplayHelp ∷ InvalidSubcommand ∷ []) [] ≡ [] → b ≡ false
  named false off is e = refl
  named true false is e = cc
  named true true is e = cc

  word_step_is : (names : Names) (is_trailing : Bool) (waiting : Waiting) (position : ℕ) (word : Text) (h : Held)
      → word_fault s names is_trailing waiting word h ≡ [] → IsNoHelp (word_met s.rules names is_trailing waiting position word h).1
  word_step_is names true waiting position word h e = tt
  word_step_is names false waiting position word h e = go (subcommand_met names waiting word) e
    where
      other : (b : Bool) → IsNoHelp (cond b (h, trailing position) (long_or_other s.rules waiting word (long_of word) h)).1
      other true = tt
      other false = flag_step waiting word (long_of word) h

      go : (o : Option Text) → other_fault s o word h ≡ [] → IsNoHelp (subcommand_or_other s.rules o waiting position word h).1
      go (Some name) none = named (bytes_eq name (codes "help")) s.disable_help_subcommand enabled none
      go None none = other (bytes_eq word (45 ∷ 45 ∷ []))

  step_stops : (w : Walk) (word : Text) (h : Held) (step : Step) → IsNoHelp step → StopsElsewhere w.stopped → StopsElsewhere (after_step s.rules word w h step).stopped
  step_stops w word h (next waiting) named elsewhere = elsewhere
  step_stops w word h (trailing position) named elsewhere = elsewhere
  step_stops w word h (subcommand name) named elsewhere = named
  step_stops w word h value named elsewhere = go (arg_by_index s.rules w.position)
    where
      go : (o : Option Rule) → StopsElsewhere (to_positional s.rules o word w h).stopped
      go None = elsewhere
      go (Some a) = tt

  turn_stops : (names : Names) (w : Walk) (word : Text) → turn_fault s names w word ≡ [] → StopsElsewhere w.stopped → StopsElsewhere (walked s.rules names w word).stopped
  unfolding walked
  turn_stops names w word e elsewhere = go w.stopped elsewhere e
    where
      go : (o : Option (Text × List Text)) → StopsElsewhere o
          → (let met = word_met s.rules names w.is_trailing w.waiting w.position word w.held in
          cond (is_some o) [] (or_else (word_fault s names w.is_trailing w.waiting word w.held) (step_fault s w.position met.0 met.1)) ≡ [])
          → StopsElsewhere (walked_from s.rules names o w word).stopped
      go (Some p) named none = named
      go None named none =
          let parts = neither (word_fault s names w.is_trailing w.waiting word w.held) _ none in
          step_stops w word _ _ (word_step_is names w.is_trailing w.waiting w.position word w.held parts.0) elsewhere

  pub walk_stops : (names : Names) (w : Walk) (words : List Text) → walk_fault s names w words ≡ [] → StopsElsewhere w.stopped
      → StopsElsewhere (fold (walked s.rules names) w words).stopped
  unfolding walk_fault
  walk_stops names w [] e elsewhere = elsewhere
  walk_stops names w (x ∷ xs) e elsewhere =
      let parts = neither (turn_fault s names w x) _ e in
      walk_stops names (walked s.rules names w x) xs parts.1 (turn_stops names w x parts.0 elsewhere)
