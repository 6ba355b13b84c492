-- Words that `clap` takes make a request.
use Rattle.std.proofs.Common.{◌≡◌, ◌≤◌, ◌∙◌, ◌&&◌, ◌||◌, ℕ, Bool, true, false, not, cond, List, [], ◌∷◌, Option, Some, None, refl, sym, ap, subst, is_some, codes, arith, length}
use Rattle.std.specs.Prelude.{◌↔◌, IsSome, IsTrue, option_and_then, option_map, slice_get, unwrap_or}
use Rattle.std.specs.List.{find}
use Rattle.std.specs.Option.{option_map_or}
use Rattle.std.specs.Str.{bytes_eq}
use Rattle.clap.specs.ValueTests.{is_unsigned_in}
use Rattle.clap.specs.Kinds.{check_kinds, range_kinds, value_kinds}
use Rattle.clap.specs.Takes.{is_given}
use Rattle.clap.specs.Simple.{App, Shape, argument_words, built, entered, filled, help_rule, names_of, rows_at, subcommand_of, with_index}
use Rattle.clap.specs.Walk.{Row, Rule, Text, finished, first_of, has_row, nothing_held, one_of, rows_after, settled, walk, walk_from, with_default}
use Rattle.clap.specs.Faults.{check_fault, defaults_fault, entered_fault, fault_of, level_fault, settle_fault, values_fault, walk_fault}
use Rattle.clap.specs.declared.builder.value_parser.ValueParser.TheVariants.{Unsigned}
use Rattle.clap.specs.declared.error.kind.ErrorKind.TheVariants.{DisplayHelp, ValueValidation}
use Rattle.clap.specs.declared.parser.matches.ValueSource.TheVariants.{CommandLine}
use Rattle.std.proofs.lemmas.Slice.Eq.{bytes_eq-Decides}
use Rattle.clap.proofs.SimpleLemmas.{is_nil}
use Rattle.spec_calculus.specs.Bounds.{most_queries, most_budget, most_keys}
use Rattle.command_words.specs.Commands.{budget_rule, format_rule, name_rule, program_app, query_rule, stages_rule}
use Rattle.command_words.specs.Request.{Request, Check, ListOf, Replay, RingOf, Verify, asked, check_in, is_taken, list_in, number_of, replay_in, request_of, request_seen, ring_in, verify_in}
use Rattle.command_words.specs.declared.Request.{Request as Request'}
use Rattle.command_words.proofs.Rows.{bounds_of, default_good, default_there, first_there, given_there, good, kept_rows, row_from, number_there, number_within, one_keeps, still_found}
use Rattle.command_words.proofs.Stopping.{StopsElsewhere, walk_stops}
use Rattle.command_words.proofs.Walking.{AllFit, Fits, level_good, neither}

-- ---- the arguments, as `clap` fills them in

abbrev name_at : ℕ → Text → Rule
name_at i id = with_index i (filled (name_rule id))

abbrev budget : Rule
budget = filled budget_rule

abbrev format : Rule
format = filled format_rule

abbrev query : Rule
query = with_index 2 (filled query_rule)

abbrev stages : Rule
stages = with_index 1 (filled stages_rule)

abbrev help : Rule
help = filled help_rule

unbounded : (o : Option (ℕ × ℕ)) (holds : ℕ × ℕ → Bool) → o ≡ None → (true && option_map_or holds o true) ≡ true
unbounded None holds e = refl
unbounded (Some bounds) holds e = cc

name_fits : (i : ℕ) (id : Text) → bounds_of id ≡ None → Fits good (name_at i id)
name_fits i id free = record {
  keeps = one_keeps (name_at i id) (λ v e. unbounded (bounds_of id) _ free);
  default_keeps = λ rows g. kept_rows (has_row id rows) rows g;
}

accepted : (b : Bool) → cond b [] (ValueValidation ∷ []) ≡ [] → b ≡ true
accepted true e = refl
accepted false e = cc

budget_passes : (v : Text) → values_fault budget (v ∷ []) ≡ [] → good (row_from budget CommandLine v) ≡ true
budget_passes v e =
    let parts = neither (value_kinds false (Unsigned 0 most_budget) v) [] e in
    rw (accepted (is_unsigned_in 0 most_budget v) parts.0) refl

budget_fits : Fits good budget
budget_fits = record {
  keeps = one_keeps budget budget_passes;
  default_keeps = λ rows g. default_good budget (codes "10000") rows refl g;
}

format_passes : (v : Text) → values_fault format (v ∷ []) ≡ [] → good (row_from format CommandLine v) ≡ true
format_passes v e =
    let parts = neither (value_kinds false (Unsigned 1 2) v) [] e in
    rw (accepted (is_unsigned_in 1 2 v) parts.0) refl

format_fits : Fits good format
format_fits = record {
  keeps = one_keeps format format_passes;
  default_keeps = λ rows g. default_good format (codes "2") rows refl g;
}

query_passes : (v : Text) → values_fault query (v ∷ []) ≡ [] → good (row_from query CommandLine v) ≡ true
query_passes v e =
    let parts = neither (value_kinds false (Unsigned 1 most_queries) v) [] e in
    rw (accepted (is_unsigned_in 1 most_queries v) parts.0) refl

query_fits : Fits good query
query_fits = record {
  keeps = one_keeps query query_passes;
  default_keeps = λ rows g. kept_rows (has_row (codes "query") rows) rows g;
}

stages_passes : (v : Text) → values_fault stages (v ∷ []) ≡ [] → good (row_from stages CommandLine v) ≡ true
stages_passes v e =
    let parts = neither (value_kinds false (Unsigned 2 most_keys) v) [] e in
    rw (accepted (is_unsigned_in 2 most_keys v) parts.0) refl

stages_fits : Fits good stages
stages_fits = record {
  keeps = one_keeps stages stages_passes;
  default_keeps = λ rows g. kept_rows (has_row (codes "stages") rows) rows g;
}

help_fits : Fits good help
help_fits = record {
  keeps = λ values rows e g.
      let parts = neither (range_kinds 0 0 (length values)) _ e in
      let bad : DisplayHelp ∷ [] ≡ [] = parts.1 in cc;
  default_keeps = λ rows g. kept_rows (has_row (codes "help") rows) rows g;
}

-- ---- the commands, as `clap` builds them

abbrev program : App
program = built program_app

abbrev pub verify : Shape
verify = unwrap_or (slice_get program.subs 0) program.top

abbrev pub check : Shape
check = unwrap_or (slice_get program.subs 1) program.top

abbrev pub list : Shape
list = unwrap_or (slice_get program.subs 2) program.top

abbrev pub replay : Shape
replay = unwrap_or (slice_get program.subs 3) program.top

abbrev pub ring : Shape
ring = unwrap_or (slice_get program.subs 4) program.top

verify_fits : AllFit good verify.rules
verify_fits = (name_fits 1 (codes "file") refl, (budget_fits, (format_fits, (help_fits, tt))))

check_fits : AllFit good check.rules
check_fits = (name_fits 1 (codes "file") refl, (name_fits 2 (codes "report") refl, (help_fits, tt)))

list_fits : AllFit good list.rules
list_fits = (name_fits 1 (codes "file") refl, (query_fits, (help_fits, tt)))

replay_fits : AllFit good replay.rules
replay_fits = (name_fits 1 (codes "file") refl, (name_fits 2 (codes "run") refl, (help_fits, tt)))

ring_fits : AllFit good ring.rules
ring_fits = (stages_fits, (help_fits, tt))

-- a budget that is asked for is within the limit, a format is 1 or 2, and a ring has at least 2 keys, and no more than the limit
abbrev pub WithinBounds : Option Request → Type 0
WithinBounds None = Unit {0}
WithinBounds (Some (Verify file n m)) = (n ≤ most_budget) × ((1 ≤ m) × (m ≤ 2))
WithinBounds (Some (Check file report)) = Unit {0}
WithinBounds (Some (ListOf file n)) = Unit {0}
WithinBounds (Some (Replay file run)) = Unit {0}
WithinBounds (Some (RingOf n)) = (2 ≤ n) × (n ≤ most_keys)

verify_bound : (f : Option Text) (n m : Option ℕ) → ((k : ℕ) → n ≡ Some k → k ≤ most_budget) → ((k : ℕ) → m ≡ Some k → (1 ≤ k) × (k ≤ 2)) → WithinBounds (option_and_then (λ file. option_and_then (λ budget. option_map (Verify file budget) m) n) f)
verify_bound None n m bound known = tt
verify_bound (Some f) None m bound known = tt
verify_bound (Some f) (Some n) None bound known = tt
verify_bound (Some f) (Some n) (Some m) bound known = (bound n refl, known m refl)

check_bound : (f r : Option Text) → WithinBounds (option_and_then (λ file. option_map (Check file) r) f)
check_bound None r = tt
check_bound (Some f) None = tt
check_bound (Some f) (Some r) = tt

list_bound : (f : Option Text) (n : Option ℕ) → WithinBounds (option_and_then (λ file. option_map (ListOf file) n) f)
list_bound None n = tt
list_bound (Some f) None = tt
list_bound (Some f) (Some n) = tt

replay_bound : (f r : Option Text) → WithinBounds (option_and_then (λ file. option_map (Replay file) r) f)
replay_bound None r = tt
replay_bound (Some f) None = tt
replay_bound (Some f) (Some r) = tt

ring_bound : (n : Option ℕ) → ((m : ℕ) → n ≡ Some m → (2 ≤ m) × (m ≤ most_keys)) → WithinBounds (option_map RingOf n)
ring_bound None bound = tt
ring_bound (Some m) bound = bound m refl

-- what is required was given
one_given : (a : Bool) → check_kinds false false (not a || false) ≡ [] → a ≡ true
one_given true e = refl
one_given false e = cc

both_given : (a b : Bool) → check_kinds false false (not a || (not b || false)) ≡ [] → (a ≡ true) × (b ≡ true)
both_given true true e = (refl, refl)
both_given true false e = cc
both_given false b e = cc

some_both : {X Y Z : Type 0} (f : X → Y → Z) (x : Option X) (y : Option Y) → is_some x ≡ true → is_some y ≡ true
    → is_some (option_and_then (λ a. option_map (f a) y) x) ≡ true
some_both f (Some a) (Some b) e g = refl
some_both f (Some a) None e g = cc
some_both f None y e g = cc

some_three : {X Y Z W : Type 0} (f : X → Y → Z → W) (x : Option X) (y : Option Y) (z : Option Z) → is_some x ≡ true → is_some y ≡ true → is_some z ≡ true
    → is_some (option_and_then (λ a. option_and_then (λ b. option_map (f a b) z) y) x) ≡ true
some_three f (Some a) (Some b) (Some c) e g h = refl
some_three f (Some a) (Some b) None e g h = cc
some_three f (Some a) None z e g h = cc
some_three f None y z e g h = cc

some_mapped : {X Y : Type 0} (f : X → Y) (o : Option X) → is_some (option_map f o) ≡ is_some o
some_mapped f None = refl
some_mapped f (Some x) = refl

still_there : (b : Bool) (rows : List Row) (p : Row → Bool) → is_some (find p rows) ≡ true → is_some (find p (cond b rows rows)) ≡ true
still_there true rows p e = e
still_there false rows p e = e

-- the rows of `verify` before the defaults of its options
abbrev verify_named : List Text → List Row
verify_named words = with_default (settled verify.rules (walk verify.rules [] nothing_held words).held).rows (name_at 1 (codes "file"))

budget_there : (words : List Text) → is_some (find (λ r. bytes_eq r.id (codes "budget")) (rows_after verify.rules [] words)) ≡ true
budget_there words =
    let first = with_default (verify_named words) budget in
    let second = with_default first format in
    still_there (has_row (codes "help") second) second (λ r. bytes_eq r.id (codes "budget"))
    (still_found format (codes "2") first (λ r. bytes_eq r.id (codes "budget")) (default_there budget (codes "10000") (verify_named words)))

format_there : (words : List Text) → is_some (find (λ r. bytes_eq r.id (codes "format")) (rows_after verify.rules [] words)) ≡ true
format_there words =
    let first = with_default (verify_named words) budget in
    let second = with_default first format in
    still_there (has_row (codes "help") second) second (λ r. bytes_eq r.id (codes "format")) (default_there format (codes "2") first)

verify_within : (words : List Text) → level_fault verify [] nothing_held words false [] ≡ [] → WithinBounds (verify_in (rows_after verify.rules [] words))
verify_within words e =
    let level = level_good good verify refl verify_fits [] words false [] e in
    let rows = rows_after verify.rules [] words in
    verify_bound (first_of (codes "file") rows) (option_and_then number_of (one_of (codes "budget") rows)) (option_and_then number_of (one_of (codes "format") rows))
    (λ n is. (number_within rows (codes "budget") (0, most_budget) refl (omega arith) level.0 (budget_there words) n is).1)
    (λ n is. number_within rows (codes "format") (1, 2) refl (omega arith) level.0 (format_there words) n is)

verify_some : (words : List Text) → level_fault verify [] nothing_held words false [] ≡ [] → is_some (verify_in (rows_after verify.rules [] words)) ≡ true
verify_some words e =
    let level = level_good good verify refl verify_fits [] words false [] e in
    let rows = rows_after verify.rules [] words in
    let file = given_there _ (one_given (is_given (codes "file") rows) level.1) in
    some_three Verify (first_of (codes "file") rows) (option_and_then number_of (one_of (codes "budget") rows)) (option_and_then number_of (one_of (codes "format") rows))
    (first_there rows (codes "file") level.0 file) (number_there rows (codes "budget") (0, most_budget) refl (omega arith) level.0 (budget_there words))
    (number_there rows (codes "format") (1, 2) refl (omega arith) level.0 (format_there words))

check_some : (words : List Text) → level_fault check [] nothing_held words false [] ≡ [] → is_some (check_in (rows_after check.rules [] words)) ≡ true
check_some words e =
    let level = level_good good check refl check_fits [] words false [] e in
    let rows = rows_after check.rules [] words in
    let given = both_given (is_given (codes "file") rows) (is_given (codes "report") rows) level.1 in
    some_both Check (first_of (codes "file") rows) (first_of (codes "report") rows)
    (first_there rows (codes "file") level.0 (given_there _ given.0)) (first_there rows (codes "report") level.0 (given_there _ given.1))

list_some : (words : List Text) → level_fault list [] nothing_held words false [] ≡ [] → is_some (list_in (rows_after list.rules [] words)) ≡ true
list_some words e =
    let level = level_good good list refl list_fits [] words false [] e in
    let rows = rows_after list.rules [] words in
    let given = both_given (is_given (codes "file") rows) (is_given (codes "query") rows) level.1 in
    some_both ListOf (first_of (codes "file") rows) (option_and_then number_of (one_of (codes "query") rows))
    (first_there rows (codes "file") level.0 (given_there _ given.0)) (number_there rows (codes "query") (1, most_queries) refl (omega arith) level.0 (given_there _ given.1))

replay_some : (words : List Text) → level_fault replay [] nothing_held words false [] ≡ [] → is_some (replay_in (rows_after replay.rules [] words)) ≡ true
replay_some words e =
    let level = level_good good replay refl replay_fits [] words false [] e in
    let rows = rows_after replay.rules [] words in
    let given = both_given (is_given (codes "file") rows) (is_given (codes "run") rows) level.1 in
    some_both Replay (first_of (codes "file") rows) (first_of (codes "run") rows)
    (first_there rows (codes "file") level.0 (given_there _ given.0)) (first_there rows (codes "run") level.0 (given_there _ given.1))

ring_within : (words : List Text) → level_fault ring [] nothing_held words false [] ≡ [] → WithinBounds (ring_in (rows_after ring.rules [] words))
ring_within words e =
    let level = level_good good ring refl ring_fits [] words false [] e in
    let rows = rows_after ring.rules [] words in
    let number = given_there _ (one_given (is_given (codes "stages") rows) level.1) in
    ring_bound (option_and_then number_of (one_of (codes "stages") rows)) (number_within rows (codes "stages") (2, most_keys) refl (omega arith) level.0 number)

ring_some : (words : List Text) → level_fault ring [] nothing_held words false [] ≡ [] → is_some (ring_in (rows_after ring.rules [] words)) ≡ true
ring_some words e =
    let level = level_good good ring refl ring_fits [] words false [] e in
    let rows = rows_after ring.rules [] words in
    let number = given_there _ (one_given (is_given (codes "stages") rows) level.1) in
    some_mapped RingOf (option_and_then number_of (one_of (codes "stages") rows)) ∙ number_there rows (codes "stages") (2, most_keys) refl (omega arith) level.0 number

-- ---- the program

-- the subcommand at which a parse stopped, by the tests of its name
abbrev met : Bool → Bool → Bool → Bool → Bool → Bool → Option Shape
met is_verify is_check is_list is_replay is_ring is_help =
    cond (is_verify || false) (Some verify) (cond (is_check || false) (Some check) (cond (is_list || false) (Some list)
    (cond (is_replay || false) (Some replay) (cond (is_ring || false) (Some ring) (cond (is_help || false) (slice_get program.subs 5) None)))))

-- a command is wanted
command_met : (b : Bool) (rows : List Row) → check_fault program.top rows b ≡ [] → b ≡ true
command_met true rows e = refl
command_met false rows e = cc

not_help_either : (name : Text) → bytes_eq name (codes "help") ≡ false → bytes_eq (codes "help") name ≡ false
not_help_either name not_help = go (bytes_eq (codes "help") name) refl
  where
    go : (b : Bool) → bytes_eq (codes "help") name ≡ b → b ≡ false
    go false is = refl
    go true is =
        let same : codes "help" ≡ name = (bytes_eq-Decides (codes "help") name).0 is in
        let bad : bytes_eq (codes "help") (codes "help") ≡ false = subst (λ x. bytes_eq x (codes "help") ≡ false) (sym same) not_help in
        cc

command_some : (is_verify is_check is_list is_replay is_ring is_help : Bool) (words : List Text) → is_help ≡ false
    → option_map_or (λ s. level_fault s [] nothing_held words false []) (met is_verify is_check is_list is_replay is_ring is_help) [] ≡ []
    → is_some (option_map (λ s. rows_at s words) (met is_verify is_check is_list is_replay is_ring is_help)) ≡ true
    → is_some (asked (option_map (λ s. rows_at s words) (met is_verify is_check is_list is_replay is_ring is_help))) ≡ true
command_some true c l r n h words no_help e there = verify_some words e
command_some false true l r n h words no_help e there = check_some words e
command_some false false true r n h words no_help e there = list_some words e
command_some false false false true n h words no_help e there = replay_some words e
command_some false false false false true h words no_help e there = ring_some words e
command_some false false false false false true words no_help e there = cc
command_some false false false false false false words no_help e there = cc

command_within : (is_verify is_check is_list is_replay is_ring is_help : Bool) (words : List Text) → is_help ≡ false
    → option_map_or (λ s. level_fault s [] nothing_held words false []) (met is_verify is_check is_list is_replay is_ring is_help) [] ≡ []
    → WithinBounds (asked (option_map (λ s. rows_at s words) (met is_verify is_check is_list is_replay is_ring is_help)))
command_within true c l r n h words no_help e = verify_within words e
command_within false true l r n h words no_help e = check_bound (first_of (codes "file") (rows_after check.rules [] words)) (first_of (codes "report") (rows_after check.rules [] words))
command_within false false true r n h words no_help e = list_bound (first_of (codes "file") (rows_after list.rules [] words)) (option_and_then number_of (one_of (codes "query") (rows_after list.rules [] words)))
command_within false false false true n h words no_help e = replay_bound (first_of (codes "file") (rows_after replay.rules [] words)) (first_of (codes "run") (rows_after replay.rules [] words))
command_within false false false false true h words no_help e = ring_within words e
command_within false false false false false true words no_help e = cc
command_within false false false false false false words no_help e = tt

stopped_some : (stop : Option (Text × List Text)) → StopsElsewhere stop → entered_fault program stop ≡ [] → is_some (entered program stop) ≡ true
    → is_some (asked (entered program stop)) ≡ true
stopped_some None elsewhere e there = cc
stopped_some (Some p) elsewhere e there =
    command_some (bytes_eq (codes "verify") p.0) (bytes_eq (codes "check") p.0) (bytes_eq (codes "list") p.0) (bytes_eq (codes "replay") p.0) (bytes_eq (codes "ring") p.0) (bytes_eq (codes "help") p.0) p.1 (not_help_either p.0 elsewhere) e there

stopped_within : (stop : Option (Text × List Text)) → StopsElsewhere stop → entered_fault program stop ≡ [] → WithinBounds (asked (entered program stop))
stopped_within None elsewhere e = tt
stopped_within (Some p) elsewhere e =
    command_within (bytes_eq (codes "verify") p.0) (bytes_eq (codes "check") p.0) (bytes_eq (codes "list") p.0) (bytes_eq (codes "replay") p.0) (bytes_eq (codes "ring") p.0) (bytes_eq (codes "help") p.0) p.1 (not_help_either p.0 elsewhere) e

-- words at which no step of the parse has a fault make a request
pub taken_asks : (words : List Text) → fault_of program_app words ≡ [] → is_some (asked (subcommand_of program_app words)) ≡ true
taken_asks words e =
    let given = argument_words program_app words in
    let end = walk program.top.rules (names_of program) nothing_held given in
    let from_walk = neither (walk_fault program.top (names_of program) (walk_from nothing_held) given) _ e in
    let from_below = neither (entered_fault program end.stopped) _ from_walk.1 in
    let from_settle = neither (settle_fault program.top.rules false end.held) _ from_below.1 in
    let from_defaults = neither (defaults_fault (settled program.top.rules end.held).rows program.top.rules) _ from_settle.1 in
    let there = command_met (is_some (entered program end.stopped)) (finished program.top.rules end.held) from_defaults.1 in
    stopped_some end.stopped (walk_stops program.top refl (names_of program) (walk_from nothing_held) given from_walk.0 tt) from_below.0 there

-- and a budget in it is bounded
asks_within : (words : List Text) → fault_of program_app words ≡ [] → WithinBounds (asked (subcommand_of program_app words))
asks_within words e =
    let given = argument_words program_app words in
    let end = walk program.top.rules (names_of program) nothing_held given in
    let from_walk = neither (walk_fault program.top (names_of program) (walk_from nothing_held) given) _ e in
    let from_below = neither (entered_fault program end.stopped) _ from_walk.1 in
    stopped_within end.stopped (walk_stops program.top refl (names_of program) (walk_from nothing_held) given from_walk.0 tt) from_below.0

within_where_chosen : (b : Bool) (x : Option Request) → (b ≡ true → WithinBounds x) → WithinBounds (cond b x None)
within_where_chosen true x within = within refl
within_where_chosen false x within = tt

pub request_within : (words : List Text) → WithinBounds (request_of words)
request_within words = within_where_chosen (is_taken words) (asked (subcommand_of program_app words)) (λ t. asks_within words (is_nil _ t))

-- a choice is made where its test holds
chosen : {X : Type 0} (b : Bool) (x : Option X) → (IsTrue b → IsSome x) → IsTrue b ↔ IsSome (cond b x None)
chosen true x h = (λ t. h t, λ some. refl)
chosen false x h = (λ t. cc, λ some. some)

pub taken_is : (words : List Text) → IsTrue (is_taken words) ↔ IsSome (request_of words)
taken_is words = chosen (is_taken words) (asked (subcommand_of program_app words)) (λ t. taken_asks words (is_nil _ t))

-- an answer that stands for the request of the words is there where the words are taken
pub taken_answer : (r : Option Request') (words : List Text) → option_map request_seen r ≡ request_of words → IsSome r ↔ IsTrue (is_taken words)
taken_answer r words e = (
  λ some. (taken_is words).1 (sym (ap is_some e) ∙ (some_mapped request_seen r ∙ some)),
  λ taken. sym (some_mapped request_seen r) ∙ (ap is_some e ∙ (taken_is words).0 taken),
)
