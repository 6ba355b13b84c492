-- What a command makes of words that do not begin with a dash.
use Rattle.std.proofs.Common.{◌≡◌, ◌∙◌, ◌==◌, ℕ, Bool, false, cond, List, [], ◌∷◌, Some, None, refl, ap, slice_index}
use Rattle.std.specs.Option.{option_map_or}
use Rattle.std.specs.Str.{bytes_eq}
use Rattle.std.proofs.lemmas.Bool.{ne_eqb}
use Rattle.clap.specs.Lexer.{long_of, short_of}
use Rattle.clap.specs.Kinds.{Kinds, or_else}
use Rattle.clap.specs.Simple.{Shape, rows_at, subcommand_of}
use Rattle.clap.specs.Walk.{Held, Rule, Step, Text, Walk, after_step, arg_by_index, finished, idle, is_empty, long_or_other, nothing_held, settled, short_or_plain, to_positional, trailing, value, walk, walk_from, walked, word_met}
use Rattle.clap.specs.Faults.{bundle_fault, check_fault, defaults_fault, fault_of, flag_word_fault, level_fault, settle_fault, step_fault, turn_fault, walk_fault, word_fault}
use Rattle.clap.specs.declared.error.kind.ErrorKind.{ErrorKind}
use Rattle.command_words.specs.Commands.{program_app}
use Rattle.command_words.specs.Request.{asked, request_of}
use Rattle.command_words.proofs.Reading.{chosen}

-- the word is no flag
pub record IsPlain (word : Text) : Type 0 where
  pub no_end : bytes_eq word (45 ∷ 45 ∷ []) ≡ false
  pub no_long : long_of word ≡ None
  pub no_short : short_of word ≡ None

pub plain_text : (word : Text) → (slice_index word 0 ≡ 45 → ⊥) → IsPlain word
plain_text [] plain = record { no_end = refl; no_long = refl; no_short = refl }
plain_text (x ∷ xs) plain =
    let no_dash : (x == 45) ≡ false = ne_eqb x 45 plain in
    record { no_end = rw no_dash refl; no_long = rw no_dash refl; no_short = rw no_dash refl }

-- the walk stands before the positional of this place
abbrev pub before : ℕ → Held → Walk
before position h = record { held = h; waiting = idle; position = position; is_trailing = false; stopped = None }

-- and behind it, where it took the word
abbrev pub placed : Shape → ℕ → Held → Text → Walk
placed s position h word = to_positional s.rules (arg_by_index s.rules position) word (before position h) h

-- what a word comes to, by whether it is `--`
abbrev met_by : List Rule → ℕ → Text → Held → Bool → Held × Step
met_by rules position word h ends = cond ends (h, trailing position) (long_or_other rules idle word (long_of word) h)

met_plain : (rules : List Rule) (position : ℕ) (word : Text) (h : Held) → IsPlain word → word_met rules [] false idle position word h ≡ (h, value)
met_plain rules position word h plain =
    ap (met_by rules position word h) plain.no_end
    ∙ (ap (λ o. long_or_other rules idle word o h) plain.no_long ∙ ap (λ o. short_or_plain rules idle word o h) plain.no_short)

fault_plain : (s : Shape) (word : Text) (h : Held) → IsPlain word → word_fault s [] false idle word h ≡ []
fault_plain s word h plain =
    ap (λ ends. cond ends [] (flag_word_fault s.rules s.args_override_self (long_of word) word h)) plain.no_end
    ∙ (ap (λ o. flag_word_fault s.rules s.args_override_self o word h) plain.no_long
    ∙ ap (λ o. option_map_or (λ flags. bundle_fault s.rules s.args_override_self flags h) o []) plain.no_short)

pub after_plain : (s : Shape) (position : ℕ) (h : Held) (word : Text) → IsPlain word → walked s.rules [] (before position h) word ≡ placed s position h word
unfolding walked
after_plain s position h word plain = ap (λ (met : Held × Step). after_step s.rules word (before position h) met.0 met.1) (met_plain s.rules position word h plain)

pub turn_plain : (s : Shape) (position : ℕ) (h : Held) (word : Text) → IsPlain word → step_fault s position h value ≡ [] → turn_fault s [] (before position h) word ≡ []
turn_plain s position h word plain none =
    let met = word_met s.rules [] false idle position word h in
    ap (λ k. or_else k (step_fault s position met.0 met.1)) (fault_plain s word h plain)
    ∙ (ap (λ (m : Held × Step). step_fault s position m.0 m.1) (met_plain s.rules position word h plain) ∙ none)

-- ---- a level whose words are one such word, or two

pub one_plain : (s : Shape) (word : Text) → IsPlain word → step_fault s 1 nothing_held value ≡ [] → walk_fault s [] (walk_from nothing_held) (word ∷ []) ≡ []
unfolding walk_fault
one_plain s word plain none = ap (λ k. or_else k []) (turn_plain s 1 nothing_held word plain none)

pub two_walked : (s : Shape) (h : Held) (first second : Text) → IsPlain first → IsPlain second → placed s 1 nothing_held first ≡ before 2 h
    → walk s.rules [] nothing_held (first ∷ second ∷ []) ≡ placed s 2 h second
two_walked s h first second plain plain_second is =
    ap (λ (w : Walk). walked s.rules [] w second) (after_plain s 1 nothing_held first plain ∙ is) ∙ after_plain s 2 h second plain_second

pub two_plain : (s : Shape) (h : Held) (first second : Text) → IsPlain first → IsPlain second → placed s 1 nothing_held first ≡ before 2 h
    → step_fault s 1 nothing_held value ≡ [] → step_fault s 2 h value ≡ [] → walk_fault s [] (walk_from nothing_held) (first ∷ second ∷ []) ≡ []
unfolding walk_fault
two_plain s h first second plain plain_second is none none_second =
    ap (λ k. or_else k (walk_fault s [] (walked s.rules [] (walk_from nothing_held) first) (second ∷ []))) (turn_plain s 1 nothing_held first plain none)
    ∙ (ap (λ (w : Walk). walk_fault s [] w (second ∷ [])) (after_plain s 1 nothing_held first plain ∙ is)
    ∙ ap (λ k. or_else k []) (turn_plain s 2 h second plain_second none_second))

-- ---- a level, by the walk over its words

abbrev pub end_fault : Shape → Walk → Kinds
end_fault s w = or_else (settle_fault s.rules s.args_override_self w.held)
    (or_else (defaults_fault (settled s.rules w.held).rows s.rules) (check_fault s (finished s.rules w.held) false))

pub level_by : (s : Shape) (words : List Text) (w : Walk) → walk_fault s [] (walk_from nothing_held) words ≡ [] → walk s.rules [] nothing_held words ≡ w
    → level_fault s [] nothing_held words false [] ≡ end_fault s w
level_by s words w none is = ap (λ k. or_else k (end_fault s (walk s.rules [] nothing_held words))) none ∙ ap (end_fault s) is

-- ---- the request of words of which all but the first two are those of a command

pub asked_by : (s : Shape) (words given : List Text) (w : Walk) → fault_of program_app words ≡ or_else (level_fault s [] nothing_held given false []) []
    → subcommand_of program_app words ≡ Some (rows_at s given) → walk_fault s [] (walk_from nothing_held) given ≡ [] → walk s.rules [] nothing_held given ≡ w
    → end_fault s w ≡ [] → request_of words ≡ asked (Some (s.name, finished s.rules w.held))
asked_by s words given w faults rows none is ends =
    let free : fault_of program_app words ≡ [] = faults ∙ ap (λ k. or_else k []) (level_by s given w none is ∙ ends) in
    chosen (fault_of program_app words) (asked (subcommand_of program_app words)) free
    ∙ (ap asked rows ∙ ap (λ (v : Walk). asked (Some (s.name, finished s.rules v.held))) is)

pub refused_by : (s : Shape) (words given : List Text) (kind : ErrorKind) → fault_of program_app words ≡ or_else (level_fault s [] nothing_held given false []) []
    → level_fault s [] nothing_held given false [] ≡ kind ∷ [] → request_of words ≡ None
refused_by s words given kind faults fails =
    ap (λ k. cond (is_empty k) (asked (subcommand_of program_app words)) None) (faults ∙ ap (λ k. or_else k []) fails)
