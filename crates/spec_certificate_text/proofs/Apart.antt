-- Loose trees are told apart by their texts, whatever follows.
use Rattle.std.proofs.Common.{◌≡◌, ◌⊎◌, ℕ, Bool, true, false, ◌==◌, ◌||◌, ◌&&◌, List, [], ◌∷◌, ◌++◌, inl, inr, refl, sym, ◌∙◌, ap, subst, arith}
use Rattle.std.specs.Char.{is_ascii_digit}
use Rattle.std.specs.Int.{is_in_range}
use Rattle.std.specs.List.{list_all}
use Rattle.spec_trees.specs.Tree.{Leaf, Node, none, more}
use Rattle.spec_trees.proofs.Occurrence.{or_false}
use Rattle.spec_protocol_tokens.specs.Bytes.{is_in_word}
use Rattle.spec_certificate_text.specs.Loose.{Head, Applied, Tupled, Made, Attackers, Loose, LooseRow, opening, closing, onto, row, behind}
use Rattle.spec_certificate_text.specs.Spelled.{IsWord, IsBoundWord, IsHead, IsLoose, AreLoose, Stops, goes_on, EndsBehind}
use Rattle.spec_certificate_text.proofs.Runs.{both_left, both_right, first_same, later_same, run_apart}

-- digits are bytes of words
pub digit_in_word : (b : ℕ) → is_ascii_digit b ≡ true → is_in_word b ≡ true
digit_in_word b e = ap (λ c. (((c || is_in_range 65 90 b) || is_in_range 97 122 b) || (b == 95)) || (b == 39)) e

pub digits_in_word : (bytes : List ℕ) → list_all is_ascii_digit bytes ≡ true → list_all is_in_word bytes ≡ true
digits_in_word [] e = refl
digits_in_word (b ∷ bytes) e =
    ap (λ c. c && list_all is_in_word bytes) (digit_in_word b (both_left (is_ascii_digit b) (list_all is_ascii_digit bytes) e))
    ∙ digits_in_word bytes (both_right (is_ascii_digit b) (list_all is_ascii_digit bytes) e)

pub no_word : IsWord [] → ⊥
no_word h = let e : false ≡ true = h.begins in cc

-- the bytes of the word that a text begins with, if it does, and what stands behind them
front : Head → List ℕ
front (Applied word) = word
front Tupled = []
front (Made word digits) = word
front Attackers = []

tail : Head → List ℕ → List ℕ
tail (Applied word) rest = 40 ∷ rest
tail Tupled rest = 40 ∷ rest
tail (Made word digits) rest = 64 ∷ (digits ++ (91 ∷ rest))
tail Attackers rest = 64 ∷ 91 ∷ rest

opening-front : (h : Head) (rest : List ℕ) → opening h rest ≡ front h ++ tail h rest
unfolding front tail
opening-front (Applied word) rest = refl
opening-front Tupled rest = refl
opening-front (Made word digits) rest = refl
opening-front Attackers rest = refl

front_is_word : (h : Head) → IsHead h → list_all is_in_word (front h) ≡ true
unfolding front
front_is_word (Applied word) is = is.goes_on
front_is_word Tupled is = refl
front_is_word (Made word digits) is = is.0.goes_on
front_is_word Attackers is = refl

tail_stops : (h : Head) (rest : List ℕ) → Stops is_in_word (tail h rest)
unfolding tail
tail_stops (Applied word) rest = refl
tail_stops Tupled rest = refl
tail_stops (Made word digits) rest = refl
tail_stops Attackers rest = refl

pub record HeadsApart (h i : Head) (x y : List ℕ) : Type 0 where
  pub head : h ≡ i
  pub inside : x ≡ y

differ : (x y : List ℕ) → 40 ∷ x ≡ 64 ∷ y → ⊥
differ x y e = let first = first_same 40 64 x y e in absurd (omega arith)

by_parts : (h i : Head) (x y : List ℕ) → IsHead h → IsHead i → front h ≡ front i → tail h x ≡ tail i y → HeadsApart h i x y
unfolding front tail
by_parts (Applied v) (Applied w) x y is_h is_i fronts tails = record { head = ap Applied fronts; inside = later_same 40 40 x y tails }
by_parts (Applied v) Tupled x y is_h is_i fronts tails = absurd (no_word (subst IsWord fronts is_h))
by_parts (Applied v) (Made w d) x y is_h is_i fronts tails = absurd (differ _ _ tails)
by_parts (Applied v) Attackers x y is_h is_i fronts tails = absurd (differ _ _ tails)
by_parts Tupled (Applied w) x y is_h is_i fronts tails = absurd (no_word (subst IsWord (sym fronts) is_i))
by_parts Tupled Tupled x y is_h is_i fronts tails = record { head = refl; inside = later_same 40 40 x y tails }
by_parts Tupled (Made w d) x y is_h is_i fronts tails = absurd (differ _ _ tails)
by_parts Tupled Attackers x y is_h is_i fronts tails = absurd (differ _ _ tails)
by_parts (Made v c) (Applied w) x y is_h is_i fronts tails = absurd (differ _ _ (sym tails))
by_parts (Made v c) Tupled x y is_h is_i fronts tails = absurd (differ _ _ (sym tails))
by_parts (Made v c) (Made w d) x y is_h is_i fronts tails =
    let digits = run_apart is_ascii_digit c d (91 ∷ x) (91 ∷ y) is_h.1 is_i.1 refl refl (later_same 64 64 _ _ tails) in
    record { head = ap (λ u. Made u c) fronts ∙ ap (Made w) digits.run; inside = later_same 91 91 x y digits.rest }
by_parts (Made v c) Attackers x y is_h is_i fronts tails = absurd (no_word (subst IsWord fronts is_h.0))
by_parts Attackers (Applied w) x y is_h is_i fronts tails = absurd (differ _ _ (sym tails))
by_parts Attackers Tupled x y is_h is_i fronts tails = absurd (differ _ _ (sym tails))
by_parts Attackers (Made w d) x y is_h is_i fronts tails = absurd (no_word (subst IsWord (sym fronts) is_i.0))
by_parts Attackers Attackers x y is_h is_i fronts tails = record { head = refl; inside = later_same 91 91 x y (later_same 64 64 _ _ tails) }

-- heads are told apart
heads_apart : (h i : Head) (x y : List ℕ) → IsHead h → IsHead i → opening h x ≡ opening i y → HeadsApart h i x y
heads_apart h i x y is_h is_i e =
    let parts = run_apart is_in_word (front h) (front i) (tail h x) (tail i y) (front_is_word h is_h) (front_is_word i is_i) (tail_stops h x) (tail_stops i y) (sym (opening-front h x) ∙ (e ∙ opening-front i y)) in
    by_parts h i x y is_h is_i parts.run parts.rest

stops_word : (k : List ℕ) → Stops goes_on k → Stops is_in_word k
stops_word [] stops = tt
stops_word (b ∷ k) stops = (or_false (is_in_word b) (b == 40) (or_false (is_in_word b || (b == 40)) (b == 64) stops).0).0

not_40 : (k x : List ℕ) → Stops goes_on k → k ≡ 40 ∷ x → ⊥
not_40 k x stops e = let passes : true ≡ false = subst (Stops goes_on) e stops in cc

not_64 : (k x : List ℕ) → Stops goes_on k → k ≡ 64 ∷ x → ⊥
not_64 k x stops e = let passes : true ≡ false = subst (Stops goes_on) e stops in cc

never_tail : (h : Head) (k x : List ℕ) → Stops goes_on k → k ≡ tail h x → ⊥
unfolding tail
never_tail (Applied w) k x stops e = not_40 k x stops e
never_tail Tupled k x stops e = not_40 k x stops e
never_tail (Made w d) k x stops e = not_64 k (d ++ (91 ∷ x)) stops e
never_tail Attackers k x stops e = not_64 k (91 ∷ x) stops e

or_true : (a b : Bool) → a ≡ true → (a || b) ≡ true
or_true a b e = ap (λ c. c || b) e

word_goes_on : (b : ℕ) → is_in_word b ≡ true → goes_on b ≡ true
word_goes_on b e = or_true (is_in_word b || (b == 40)) (b == 64) (or_true (is_in_word b) (b == 40) e)

-- no word begins with what no word goes on with
pub word_begins : (w x : List ℕ) (c : ℕ) (y : List ℕ) → IsWord w → goes_on c ≡ false → w ++ x ≡ c ∷ y → ⊥
word_begins [] x c y word stops e = no_word word
word_begins (b ∷ w) x c y word stops e =
    let first = first_same b c (w ++ x) y e in
    let passes : goes_on b ≡ true = word_goes_on b (both_left (is_in_word b) (list_all is_in_word w) word.goes_on) in
    let fails : goes_on b ≡ false = subst (λ d. goes_on d ≡ false) (sym first) stops in cc

-- a head doesn't begin with `?`
head_bound : (h : Head) (x y : List ℕ) → IsHead h → opening h x ≡ 63 ∷ y → ⊥
head_bound (Applied w) x y is e = word_begins w (40 ∷ x) 63 y is refl e
head_bound Tupled x y is e = let first = first_same 40 63 x y e in absurd (omega (arith, first))
head_bound (Made w d) x y is e = word_begins w (64 ∷ (d ++ (91 ∷ x))) 63 y is.0 refl e
head_bound Attackers x y is e = let first = first_same 64 63 (91 ∷ x) y e in absurd (omega (arith, first))

-- a word alone is no head
leaf_node : (w : List ℕ) (h : Head) (k x : List ℕ) → IsWord w ⊎ IsBoundWord w → IsHead h → Stops goes_on k → w ++ k ≡ opening h x → ⊥
leaf_node w h k x (inl word) is stops e =
    let parts = run_apart is_in_word w (front h) k (tail h x) word.goes_on (front_is_word h is) (stops_word k stops) (tail_stops h x) (e ∙ opening-front h x) in
    never_tail h k x stops parts.rest
leaf_node w h k x (inr bound) is stops e = head_bound h x (bound.digits ++ k) is (sym e ∙ ap (λ u. u ++ k) bound.is)

not_begun : (b c : ℕ) (x y : List ℕ) → goes_on b ≡ true → goes_on c ≡ false → b ∷ x ≡ c ∷ y → ⊥
not_begun b c x y passes stops e =
    let fails : goes_on b ≡ false = subst (λ d. goes_on d ≡ false) (sym (first_same b c x y e)) stops in cc

-- nor does a tree
pub tree_begins : (t : Loose) (x : List ℕ) (c : ℕ) (y : List ℕ) → IsLoose t → goes_on c ≡ false → (c ≡ 63 → ⊥) → onto t x ≡ c ∷ y → ⊥
tree_begins (Leaf w) x c y (inl is) stops other e = word_begins w x c y is stops e
tree_begins (Leaf w) x c y (inr is) stops other e = other (sym (first_same 63 c (is.digits ++ x) y (ap (λ v. v ++ x) (sym is.is) ∙ e)))
tree_begins (Node (Applied w) ts) x c y is stops other e = word_begins w (40 ∷ row ts (41 ∷ x)) c y is.0 stops e
tree_begins (Node Tupled ts) x c y is stops other e = not_begun 40 c (row ts (41 ∷ x)) y refl stops e
tree_begins (Node (Made w d) ts) x c y is stops other e = word_begins w (64 ∷ (d ++ (91 ∷ row ts (93 ∷ x)))) c y is.0.0 stops e
tree_begins (Node Attackers ts) x c y is stops other e = not_begun 64 c (91 ∷ row ts (93 ∷ x)) y refl stops e

-- a byte that closes arguments
record IsClose (c : ℕ) : Type 0 where
  stops : goes_on c ≡ false
  no_comma : c ≡ 44 → ⊥
  no_bound : c ≡ 63 → ⊥

-- `;` behind left sides
semicolon_closes : IsClose 59
semicolon_closes = record { stops = refl; no_comma = λ e. absurd (omega (arith, e)); no_bound = λ e. absurd (omega (arith, e)) }

closes : (h : Head) → IsClose (closing h)
closes (Applied w) = record { stops = refl; no_comma = λ e. absurd (omega (arith, e)); no_bound = λ e. absurd (omega (arith, e)) }
closes Tupled = record { stops = refl; no_comma = λ e. absurd (omega (arith, e)); no_bound = λ e. absurd (omega (arith, e)) }
closes (Made w d) = record { stops = refl; no_comma = λ e. absurd (omega (arith, e)); no_bound = λ e. absurd (omega (arith, e)) }
closes Attackers = record { stops = refl; no_comma = λ e. absurd (omega (arith, e)); no_bound = λ e. absurd (omega (arith, e)) }

-- within arguments each tree ends
ends_within : (t : Loose) (ts : LooseRow) (c : ℕ) (k : List ℕ) → goes_on c ≡ false → EndsBehind t (behind ts (c ∷ k))
ends_within (Leaf w) none c k stops = stops
ends_within (Leaf w) (more u us) c k stops = refl
ends_within (Node h args) ts c k stops = tt

pub record TreesApart (t u : Loose) (k l : List ℕ) : Type 0 where
  pub tree : t ≡ u
  pub rest : k ≡ l

pub record RowsApart (ts us : LooseRow) (k l : List ℕ) : Type 0 where
  pub rows : ts ≡ us
  pub rest : k ≡ l

-- two words, of which one may be a bound variable's
leaves_apart : (v w k l : List ℕ) → IsWord v ⊎ IsBoundWord v → IsWord w ⊎ IsBoundWord w → Stops goes_on k → Stops goes_on l → v ++ k ≡ w ++ l → TreesApart (Leaf v) (Leaf w) k l
leaves_apart v w k l (inl is_v) (inl is_w) stops_k stops_l e =
    let parts = run_apart is_in_word v w k l is_v.goes_on is_w.goes_on (stops_word k stops_k) (stops_word l stops_l) e in
    record { tree = ap Leaf parts.run; rest = parts.rest }
leaves_apart v w k l (inl is_v) (inr is_w) stops_k stops_l e = absurd (word_begins v k 63 (is_w.digits ++ l) is_v refl (e ∙ ap (λ u. u ++ l) is_w.is))
leaves_apart v w k l (inr is_v) (inl is_w) stops_k stops_l e = absurd (word_begins w l 63 (is_v.digits ++ k) is_w refl (sym e ∙ ap (λ u. u ++ k) is_v.is))
leaves_apart v w k l (inr is_v) (inr is_w) stops_k stops_l e =
    let same = later_same 63 63 (is_v.digits ++ k) (is_w.digits ++ l) (ap (λ u. u ++ k) (sym is_v.is) ∙ (e ∙ ap (λ u. u ++ l) is_w.is)) in
    let parts = run_apart is_in_word is_v.digits is_w.digits k l (digits_in_word is_v.digits is_v.all) (digits_in_word is_w.digits is_w.all) (stops_word k stops_k) (stops_word l stops_l) same in
    record { tree = ap Leaf (is_v.is ∙ (ap (λ ds. 63 ∷ ds) parts.run ∙ sym is_w.is)); rest = parts.rest }

-- two trees with rests are one tree and one rest, where the texts are one
mutual
  pub whole_apart : (t u : Loose) (k l : List ℕ) → IsLoose t → IsLoose u → EndsBehind t k → EndsBehind u l → onto t k ≡ onto u l → TreesApart t u k l
  whole_apart (Leaf v) (Leaf w) k l is_t is_u ends_t ends_u e = leaves_apart v w k l is_t is_u ends_t ends_u e
  whole_apart (Leaf v) (Node i us) k l is_t is_u ends_t ends_u e = absurd (leaf_node v i k (row us (closing i ∷ l)) is_t is_u.0 ends_t e)
  whole_apart (Node h ts) (Leaf w) k l is_t is_u ends_t ends_u e = absurd (leaf_node w h l (row ts (closing h ∷ k)) is_u is_t.0 ends_u (sym e))
  whole_apart (Node h ts) (Node i us) k l is_t is_u ends_t ends_u e =
      let heads = heads_apart h i (row ts (closing h ∷ k)) (row us (closing i ∷ l)) is_t.0 is_u.0 e in
      let same : row ts (closing h ∷ k) ≡ row us (closing h ∷ l) = subst (λ j. row ts (closing h ∷ k) ≡ row us (closing j ∷ l)) (sym heads.head) heads.inside in
      let within = row_apart ts us (closing h) k l (closes h) is_t.1 is_u.1 same in
      record { tree = ap (λ j. Node j ts) heads.head ∙ ap (Node i) within.rows; rest = within.rest }

  row_apart : (ts us : LooseRow) (c : ℕ) (k l : List ℕ) → IsClose c → AreLoose ts → AreLoose us → row ts (c ∷ k) ≡ row us (c ∷ l) → RowsApart ts us k l
  row_apart none none c k l close are_t are_u e = record { rows = refl; rest = later_same c c k l e }
  row_apart none (more u us) c k l close are_t are_u e = absurd (tree_begins u (behind us (c ∷ l)) c k are_u.0 close.stops close.no_bound (sym e))
  row_apart (more t ts) none c k l close are_t are_u e = absurd (tree_begins t (behind ts (c ∷ k)) c l are_t.0 close.stops close.no_bound e)
  row_apart (more t ts) (more u us) c k l close are_t are_u e =
      let first = whole_apart t u (behind ts (c ∷ k)) (behind us (c ∷ l)) are_t.0 are_u.0 (ends_within t ts c k close.stops) (ends_within u us c l close.stops) e in
      let later = behind_apart ts us c k l close are_t.1 are_u.1 first.rest in
      record { rows = ap (λ v. more v ts) first.tree ∙ ap (more u) later.rows; rest = later.rest }

  behind_apart : (ts us : LooseRow) (c : ℕ) (k l : List ℕ) → IsClose c → AreLoose ts → AreLoose us → behind ts (c ∷ k) ≡ behind us (c ∷ l) → RowsApart ts us k l
  behind_apart none none c k l close are_t are_u e = record { rows = refl; rest = later_same c c k l e }
  behind_apart none (more u us) c k l close are_t are_u e = absurd (close.no_comma (first_same c 44 k (onto u (behind us (c ∷ l))) e))
  behind_apart (more t ts) none c k l close are_t are_u e = absurd (close.no_comma (sym (first_same 44 c (onto t (behind ts (c ∷ k))) l e)))
  behind_apart (more t ts) (more u us) c k l close are_t are_u e =
      let first = whole_apart t u (behind ts (c ∷ k)) (behind us (c ∷ l)) are_t.0 are_u.0 (ends_within t ts c k close.stops) (ends_within u us c l close.stops) (later_same 44 44 (onto t (behind ts (c ∷ k))) (onto u (behind us (c ∷ l))) e) in
      let later = behind_apart ts us c k l close are_t.1 are_u.1 first.rest in
      record { rows = ap (λ v. more v ts) first.tree ∙ ap (more u) later.rows; rest = later.rest }

-- rows before a `)` are told apart
pub closed_rows_apart : (ts us : LooseRow) (k l : List ℕ) → AreLoose ts → AreLoose us → row ts (41 ∷ k) ≡ row us (41 ∷ l) → RowsApart ts us k l
closed_rows_apart ts us k l are_t are_u e = row_apart ts us 41 k l (closes Tupled) are_t are_u e

-- and rows before a `;`
pub left_rows_apart : (ts us : LooseRow) (k l : List ℕ) → AreLoose ts → AreLoose us → row ts (59 ∷ k) ≡ row us (59 ∷ l) → RowsApart ts us k l
left_rows_apart ts us k l are_t are_u e = row_apart ts us 59 k l semicolon_closes are_t are_u e
