-- Rows that are good stay so over a parse that has no fault.
use Rattle.std.proofs.Common.{◌≡◌, ℕ, zero, suc, Bool, true, false, cond, List, [], ◌∷◌, length, drop, Option, Some, None, refl, subst, is_some}
use Rattle.std.specs.Prelude.{encode_utf8, slice_get}
use Rattle.std.specs.List.{find, fold, list_all}
use Rattle.std.specs.Option.{option_map_or}
use Rattle.std.specs.Str.{bytes_eq, chars}
use Rattle.clap.specs.Lexer.{long_of, short_of}
use Rattle.clap.specs.Kinds.{Kinds, or_else}
use Rattle.clap.specs.Simple.{Shape}
use Rattle.clap.specs.Walk.{Held, Names, Outcome, Row, Rule, Step, Text, Waiting, Walk, after_flag, after_step, arg_by_id, arg_by_index, arg_by_long, arg_by_short, attached_value, bundle_met, bundle_step, done, finished, flag_met, idle, long_met, long_or_other, next, nothing_held, option, option_met, option_word, plain, plain_word, positional, reacted, refused, settled, settled_rows, short_met, short_or_plain, subcommand, subcommand_met, subcommand_or_other, takes_values, to_positional, trailing, used, used_by_id, value, waits, walk, walk_from, walked, walked_from, with_default, word_met}
use Rattle.clap.specs.Faults.{bundle_fault, bundle_step_fault, check_fault, defaults_fault, flag_word_fault, flags_fault, level_fault, long_fault, option_fault, other_fault, positional_fault, react_fault, settle_fault, short_fault, step_fault, stray_fault, turn_fault, use_fault, walk_fault, word_fault}
use Rattle.clap.specs.declared.error.kind.ErrorKind.TheVariants.{TooManyValues}

-- a use of the argument that has no fault, and its default, keep the rows good
pub record Fits (good : Row → Bool) (a : Rule) : Type 0 where
  pub keeps : (values : List Text) (rows : List Row) → use_fault false a values rows ≡ [] → list_all good rows ≡ true → list_all good (used a values rows) ≡ true
  pub default_keeps : (rows : List Row) → list_all good rows ≡ true → list_all good (with_default rows a) ≡ true

abbrev pub AllFit : (Row → Bool) → List Rule → Type 0
AllFit good [] = Unit {0}
AllFit good (a ∷ rest) = Fits good a × AllFit good rest

abbrev pub FitsSome : (Row → Bool) → Option Rule → Type 0
FitsSome good None = Unit {0}
FitsSome good (Some a) = Fits good a

find_fits : (good : Row → Bool) (p : Rule → Bool) (xs : List Rule) → AllFit good xs → FitsSome good (find p xs)
find_fits good p [] h = tt
find_fits good p (x ∷ xs) h = go (p x) (find_fits good p xs h.1)
  where
    go : (b : Bool) → FitsSome good (find p xs) → FitsSome good (cond b (Some x) (find p xs))
    go true rest = h.0
    go false rest = rest

-- two steps have no fault where neither has
pub neither : (a b : Kinds) → or_else a b ≡ [] → (a ≡ []) × (b ≡ [])
neither [] b e = (refl, e)
neither (k ∷ ks) b e = cc

module _ (good : Row → Bool) (s : Shape) (once : s.args_override_self ≡ false) (all : AllFit good s.rules) where
  pending_good : (p : Option (Text × List Text)) (rows : List Row)
      → option_map_or (λ q. option_map_or (λ a. use_fault false a q.1 rows) (arg_by_id s.rules q.0) []) p [] ≡ []
      → list_all good rows ≡ true → list_all good (settled_rows s.rules p rows) ≡ true
  pending_good None rows e g = g
  pending_good (Some q) rows e g = go (arg_by_id s.rules q.0) (find_fits good (λ a. bytes_eq a.id q.0) s.rules all) e
    where
      go : (o : Option Rule) → FitsSome good o → option_map_or (λ a. use_fault false a q.1 rows) o [] ≡ [] → list_all good (used_by_id o q.1 rows) ≡ true
      go None fit none = g
      go (Some a) fit none = fit.keeps q.1 rows none g

  settled_good : (h : Held) → settle_fault s.rules false h ≡ [] → list_all good h.rows ≡ true → list_all good (settled s.rules h).rows ≡ true
  settled_good h e g = pending_good h.pending h.rows e g

  reacted_good : (a : Rule) → Fits good a → (values : List Text) (h : Held) → react_fault s.rules false a values h ≡ [] → list_all good h.rows ≡ true
      → list_all good (reacted s.rules a values h).rows ≡ true
  reacted_good a fit values h e g =
      let parts = neither (settle_fault s.rules false h) _ e in
      fit.keeps values (settled s.rules h).rows parts.1 (settled_good h parts.0 g)

  option_good : (a : Rule) → Fits good a → (v : Option Text) (h : Held) → option_fault s.rules false a v h ≡ [] → list_all good h.rows ≡ true
      → list_all good (option_met s.rules a v h).0.rows ≡ true
  option_good a fit (Some v) h e g = reacted_good a fit (v ∷ []) h e g
  option_good a fit None h e g = settled_good h e g

  long_good : (o : Option Rule) → FitsSome good o → (v : Option Text) (h : Held) → long_fault s.rules false o v h ≡ [] → list_all good h.rows ≡ true
      → list_all good (long_met s.rules o v h).0.rows ≡ true
  long_good None fit v h e g = g
  long_good (Some a) fit v h e g = go (takes_values a) v e
    where
      go : (b : Bool) (v : Option Text) → cond b (option_fault s.rules false a v h) (cond (is_some v) (TooManyValues ∷ []) (react_fault s.rules false a [] h)) ≡ []
          → list_all good (cond b (option_met s.rules a v h) (flag_met s.rules a v h)).0.rows ≡ true
      go true v none = option_good a fit v h none g
      go false (Some v) none = g
      go false None none = reacted_good a fit [] h none g

  -- what the rest of a bundle keeps good, of at most k characters
  abbrev BundleGood : ℕ → Type 0
  BundleGood k = (flags : Text) (skip : ℕ) (so_far : Outcome) (h : Held) → flags_fault s.rules false k flags skip h ≡ [] → list_all good h.rows ≡ true
      → list_all good (bundle_met s.rules k flags skip so_far h).0.rows ≡ true

  short_good : (k : ℕ) → BundleGood k → (o : Option Rule) → FitsSome good o → (rest : Text) (h : Held)
      → short_fault s.rules false o rest h (flags_fault s.rules false k rest 0) ≡ [] → list_all good h.rows ≡ true
      → list_all good (short_met s.rules o rest h (bundle_met s.rules k rest 0 done)).0.rows ≡ true
  short_good k more None fit rest h e g = g
  short_good k more (Some a) fit rest h e g = go (takes_values a) e
    where
      go : (b : Bool) → cond b (option_fault s.rules false a (attached_value rest) h) (or_else (react_fault s.rules false a [] h) (flags_fault s.rules false k rest 0 (reacted s.rules a [] h))) ≡ []
          → list_all good (cond b (option_met s.rules a (attached_value rest) h) (bundle_met s.rules k rest 0 done (reacted s.rules a [] h))).0.rows ≡ true
      go true none = option_good a fit (attached_value rest) h none g
      go false none =
          let parts = neither (react_fault s.rules false a [] h) _ none in
          more rest 0 done (reacted s.rules a [] h) parts.1 (reacted_good a fit [] h parts.0 g)

  step_bundle_good : (k : ℕ) → BundleGood k → (o : Option ℕ) (flags : Text) (skip : ℕ) (so_far : Outcome) (h : Held)
      → bundle_step_fault s.rules false o flags skip h (flags_fault s.rules false k) ≡ [] → list_all good h.rows ≡ true
      → list_all good (bundle_step s.rules o flags skip so_far h (bundle_met s.rules k)).0.rows ≡ true
  step_bundle_good k more None flags skip so_far h e g = g
  step_bundle_good k more (Some x) flags zero so_far h e g =
      short_good k more (arg_by_short s.rules x) (find_fits good _ s.rules all) (drop (length (encode_utf8 x)) flags) h e g
  step_bundle_good k more (Some x) flags (suc skip) so_far h e g = more (drop (length (encode_utf8 x)) flags) skip so_far h e g

  bundle_good : (k : ℕ) → BundleGood k
  unfolding bundle_met flags_fault
  bundle_good zero flags skip so_far h e g = g
  bundle_good (suc k) flags skip so_far h e g = step_bundle_good k (bundle_good k) (slice_get (chars flags) 0) flags skip so_far h e g

  plain_good : (waiting : Waiting) (word : Text) (h : Held) → list_all good h.rows ≡ true → list_all good (plain_word s.rules waiting word h).0.rows ≡ true
  plain_good idle word h g = g
  plain_good positional word h g = g
  plain_good (option id) word h g = go (arg_by_id s.rules id)
    where
      go : (o : Option Rule) → list_all good (option_word o id word h).0.rows ≡ true
      go None = g
      go (Some a) = g

  after_good : (waiting : Waiting) (word : Text) (h : Held) (o : Outcome) → list_all good h.rows ≡ true → list_all good (after_flag s.rules waiting word h o).0.rows ≡ true
  after_good waiting word h done g = g
  after_good waiting word h (waits id) g = g
  after_good waiting word h plain g = plain_good waiting word h g
  after_good waiting word h refused g = plain_good waiting word h g

  flag_good : (waiting : Waiting) (word : Text) (h : Held) → flag_word_fault s.rules false (long_of word) word h ≡ [] → list_all good h.rows ≡ true
      → list_all good (long_or_other s.rules waiting word (long_of word) h).0.rows ≡ true
  flag_good waiting word h e g = go (long_of word) e
    where
      short : (o : Option Text) → option_map_or (λ flags. bundle_fault s.rules false flags h) o [] ≡ [] → list_all good (short_or_plain s.rules waiting word o h).0.rows ≡ true
      short None none = plain_good waiting word h g
      short (Some flags) none = after_good waiting word _ _ (bundle_good (length flags) flags h.skip plain (record h { skip = 0 }) none g)

      go : (o : Option (Text × Option Text)) → flag_word_fault s.rules false o word h ≡ [] → list_all good (long_or_other s.rules waiting word o h).0.rows ≡ true
      go None none = short (short_of word) none
      go (Some p) none = after_good waiting word _ _ (long_good (arg_by_long s.rules p.0) (find_fits good _ s.rules all) p.1 h none g)

  word_good : (names : Names) (is_trailing : Bool) (waiting : Waiting) (position : ℕ) (word : Text) (h : Held)
      → word_fault s names is_trailing waiting word h ≡ [] → list_all good h.rows ≡ true
      → list_all good (word_met s.rules names is_trailing waiting position word h).0.rows ≡ true
  word_good names true waiting position word h e g = g
  word_good names false waiting position word h e g = go (subcommand_met names waiting word) e
    where
      other : (b : Bool) → cond b [] (flag_word_fault s.rules s.args_override_self (long_of word) word h) ≡ []
          → list_all good (cond b (h, trailing position) (long_or_other s.rules waiting word (long_of word) h)).0.rows ≡ true
      other true none = g
      other false none = flag_good waiting word h (subst (λ again. flag_word_fault s.rules again (long_of word) word h ≡ []) once none) g

      go : (o : Option Text) → other_fault s o word h ≡ [] → list_all good (subcommand_or_other s.rules o waiting position word h).0.rows ≡ true
      go (Some name) none = g
      go None none = other (bytes_eq word (45 ∷ 45 ∷ [])) none

  step_good : (w : Walk) (word : Text) (h : Held) (step : Step) → step_fault s w.position h step ≡ [] → list_all good h.rows ≡ true
      → list_all good (after_step s.rules word w h step).held.rows ≡ true
  step_good w word h (next waiting) e g = g
  step_good w word h (trailing position) e g = g
  step_good w word h (subcommand name) e g = g
  step_good w word h value e g = go (arg_by_index s.rules w.position) e
    where
      placed : (a : Rule) (b : Bool) → cond b [] (settle_fault s.rules s.args_override_self h) ≡ [] → list_all good (cond b h (settled s.rules h)).rows ≡ true
      placed a true none = g
      placed a false none = settled_good h (subst (λ again. settle_fault s.rules again h ≡ []) once none) g

      go : (o : Option Rule) → option_map_or (λ a. positional_fault s.rules s.args_override_self a h) o (stray_fault s) ≡ []
          → list_all good (to_positional s.rules o word w h).held.rows ≡ true
      go None none = g
      go (Some a) none = placed a _ none

  turn_good : (names : Names) (w : Walk) (word : Text) → turn_fault s names w word ≡ [] → list_all good w.held.rows ≡ true
      → list_all good (walked s.rules names w word).held.rows ≡ true
  unfolding walked
  turn_good names w word e g = go w.stopped e
    where
      go : (o : Option (Text × List Text))
          → (let met = word_met s.rules names w.is_trailing w.waiting w.position word w.held in
          cond (is_some o) [] (or_else (word_fault s names w.is_trailing w.waiting word w.held) (step_fault s w.position met.0 met.1)) ≡ [])
          → list_all good (walked_from s.rules names o w word).held.rows ≡ true
      go (Some p) none = g
      go None none =
          let parts = neither (word_fault s names w.is_trailing w.waiting word w.held) _ none in
          step_good w word _ _ parts.1 (word_good names w.is_trailing w.waiting w.position word w.held parts.0 g)

  walk_good : (names : Names) (w : Walk) (words : List Text) → walk_fault s names w words ≡ [] → list_all good w.held.rows ≡ true
      → list_all good (fold (walked s.rules names) w words).held.rows ≡ true
  unfolding walk_fault
  walk_good names w [] e g = g
  walk_good names w (x ∷ xs) e g =
      let parts = neither (turn_fault s names w x) _ e in
      walk_good names (walked s.rules names w x) xs parts.1 (turn_good names w x parts.0 g)

  defaults_good : (rules : List Rule) → AllFit good rules → (rows : List Row) → list_all good rows ≡ true → list_all good (fold with_default rows rules) ≡ true
  defaults_good [] fit rows g = g
  defaults_good (a ∷ rest) fit rows g = defaults_good rest fit.1 (with_default rows a) (fit.0.default_keeps rows g)

  -- the rows of a level that has no fault are good, and its last checks pass
  pub level_good : (names : Names) (words : List Text) (has : Bool) (below : Kinds) → level_fault s names nothing_held words has below ≡ []
      → (list_all good (finished s.rules (walk s.rules names nothing_held words).held) ≡ true)
      × (check_fault s (finished s.rules (walk s.rules names nothing_held words).held) has ≡ [])
  level_good names words has below e =
      let end = (walk s.rules names nothing_held words).held in
      let from_walk = neither (walk_fault s names (walk_from nothing_held) words) _ e in
      let from_below = neither below _ from_walk.1 in
      let from_settle = neither (settle_fault s.rules s.args_override_self end) _ from_below.1 in
      let from_defaults = neither (defaults_fault (settled s.rules end).rows s.rules) _ from_settle.1 in
      let walked_rows = walk_good names (walk_from nothing_held) words from_walk.0 refl in
      let settles : settle_fault s.rules false end ≡ [] = subst (λ again. settle_fault s.rules again end ≡ []) once from_settle.0 in
      (defaults_good s.rules all (settled s.rules end).rows (settled_good end settles walked_rows), from_defaults.1)
