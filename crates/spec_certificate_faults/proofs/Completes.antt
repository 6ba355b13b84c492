-- Where a term may begin, each tree of the grammar may stand, and some text goes on behind it.
use Rattle.std.proofs.Common.{◌≤◌, ◌≡◌, ℕ, suc, ◌+◌, inl, true, List, [], ◌∷◌, ◌++◌, length, refl, sym, ◌∙◌, ap, subst, arith, append_assoc, length-append, ◌&&◌}
use Rattle.std.specs.List.{AllByRecursion}
use Rattle.spec_trees.specs.Tree.{Leaf, Node, none, more, items_of}
use Rattle.spec_protocol_tokens.specs.Bytes.{begins_word}
use Rattle.spec_protocol_tokens.proofs.Sizes.{begins_word-in_word}
use Rattle.spec_certificate_text.specs.Loose.{Head, Applied, Tupled, Made, Attackers, Loose, LooseRow, opening, closing, onto, row, behind}
use Rattle.spec_certificate_text.proofs.Long.{behind_long}
use Rattle.spec_certificate_faults.specs.Grammar.{IsWritten, MayHave, IsInGrammar, AreInGrammar, EndsBefore, with_commas, MayGoOn, IsOpen, MayBegin, whole, within}
use Rattle.spec_certificate_faults.specs.First.{IsTermText}
use Rattle.spec_certificate_text.proofs.Followed.{opening_followed, onto_followed}
use Rattle.spec_certificate_faults.proofs.Trees.{ends_behind}

-- a word of one letter
pub one_letter : (b : ℕ) → begins_word b ≡ true → IsInGrammar (Leaf (b ∷ []))
one_letter b begins = inl record { begins = begins; goes_on = ap (λ t. t && true) (begins_word-in_word b begins) }

abbrev pub simple : Loose
simple = Leaf (97 ∷ [])

pub simple_in : IsInGrammar simple
simple_in = one_letter 97 refl

-- Rows of arguments.

row_of : List Loose → LooseRow
row_of [] = none
row_of (t ∷ ts) = more t (row_of ts)

row_in : (ts : List Loose) → AllByRecursion IsInGrammar ts → AreInGrammar (row_of ts)
unfolding row_of
row_in [] each = tt
row_in (t ∷ ts) each = (each.0, row_in ts each.1)

row_long : (ts : List Loose) → length (items_of (row_of ts)) ≡ length ts
unfolding row_of
row_long [] = refl
row_long (t ∷ ts) = ap suc (row_long ts)

both_in : (ts us : List Loose) → AllByRecursion IsInGrammar ts → AllByRecursion IsInGrammar us → AllByRecursion IsInGrammar (ts ++ us)
both_in [] us each others = others
both_in (t ∷ ts) us each others = (each.0, both_in ts us each.1 others)

-- the arguments up to one, that one, and those behind it
row_text : (ts : List Loose) (t : Loose) (us : List Loose) (k : List ℕ) → row (row_of (ts ++ t ∷ us)) k ≡ with_commas ts (onto t (behind (row_of us) k))
unfolding row_of
row_text [] t us k = refl
row_text (u ∷ ts) t us k = ap (onto u) (behind_text ts)
  where
    behind_text : (vs : List Loose) → behind (row_of (vs ++ t ∷ us)) k ≡ 44 ∷ with_commas vs (onto t (behind (row_of us) k))
    behind_text [] = refl
    behind_text (v ∷ vs) = ap (λ l. 44 ∷ onto v l) (behind_text vs)

-- arguments that may stand behind so many and one more, so that they are as many as may be
record IsEnough (h : Head) (n : ℕ) : Type 0 where
  others : List Loose
  each : AllByRecursion IsInGrammar others
  may : MayHave h (n + (1 + length others))

enough : (h : Head) (ts : List Loose) → MayGoOn h ts → IsEnough h (length ts)
enough (Applied w) ts may = record { others = []; each = tt; may = omega arith }
enough Tupled ts may = record { others = simple ∷ []; each = (simple_in, tt); may = omega arith }
enough (Made w ds) ts may = record { others = []; each = tt; may = tt }
enough Attackers ts may = record { others = []; each = tt; may = omega (arith, ap length may) }

-- the bytes up to these, behind which any tree of the grammar may be completed
pub record IsCompleted (before : List ℕ) (t : Loose) : Type 0 where
  pub tail : List ℕ
  pub ends : EndsBefore t tail
  pub rest : List ℕ
  pub long : length rest ≤ length tail
  pub is : IsTermText (before ++ onto t tail) rest

pub record Completes (bytes here : List ℕ) : Type 0 where
  pub before : List ℕ
  pub text : bytes ≡ before ++ here
  pub each : (t : Loose) → IsInGrammar t → IsCompleted before t

commas_front : (ts : List Loose) (k : List ℕ) → with_commas ts [] ++ k ≡ with_commas ts k
commas_front [] k = refl
commas_front (t ∷ ts) k = onto_followed t (44 ∷ with_commas ts []) k ∙ ap (λ l. onto t (44 ∷ l)) (commas_front ts k)

head_front : (h : Head) (ts : List Loose) (k : List ℕ) → opening h (with_commas ts []) ++ k ≡ opening h (with_commas ts k)
head_front h ts k = opening_followed h (with_commas ts []) k ∙ ap (opening h) (commas_front ts k)

pub ends_closed : (t : Loose) (k : List ℕ) → EndsBefore t (41 ∷ k)
ends_closed (Leaf w) k = refl
ends_closed (Node h ts) k = tt

completed_whole : (t : Loose) → IsInGrammar t → IsCompleted [] t
completed_whole t is = record {
  tail = 41 ∷ [];
  ends = ends_closed t [];
  rest = 41 ∷ [];
  long = omega arith;
  is = record { tree = t; is = is; ends = ends_closed t []; next = 41; later = []; more = refl; text = refl };
}

completed_within : (before : List ℕ) (h : Head) (ts : List Loose) (t : Loose) → IsWritten h → AllByRecursion IsInGrammar ts → MayGoOn h ts → IsInGrammar t → ((u : Loose) → IsInGrammar u → IsCompleted before u) → IsCompleted (before ++ opening h (with_commas ts [])) t
unfolding row_of
completed_within before h ts t written each may is outer =
    let more_there = enough h ts may in
    let us = more_there.others in
    let all = ts ++ t ∷ us in
    let count : length (items_of (row_of all)) ≡ length ts + (1 + length us) = row_long all ∙ (length-append ts (t ∷ us) ∙ omega arith) in
    let node_in : IsInGrammar (Node h (row_of all)) = (written, subst (MayHave h) (sym count) more_there.may, row_in all (both_in ts (t ∷ us) each (is, more_there.each))) in
    let completed = outer (Node h (row_of all)) node_in in
    let tail = behind (row_of us) (closing h ∷ completed.tail) in
    let inner : onto (Node h (row_of all)) completed.tail ≡ opening h (with_commas ts []) ++ onto t tail =
    ap (opening h) (row_text ts t us (closing h ∷ completed.tail)) ∙ sym (head_front h ts (onto t tail)) in
    let text : before ++ onto (Node h (row_of all)) completed.tail ≡ (before ++ opening h (with_commas ts [])) ++ onto t tail =
    ap (λ l. before ++ l) inner ∙ sym (append_assoc before (opening h (with_commas ts [])) (onto t tail)) in
    record { tail = tail; ends = ends_behind t (row_of us) h completed.tail; rest = completed.rest; long = omega (arith, completed.long, behind_long (row_of us) (closing h ∷ completed.tail)); is = subst (λ l. IsTermText l completed.rest) text completed.is }

pub completes : (bytes : List ℕ) (level : ℕ) (here : List ℕ) → MayBegin bytes level here → Completes bytes here
completes bytes level here whole = record { before = []; text = refl; each = completed_whole }
completes bytes level here (within may h ts inner begins) = by h ts inner begins (completes bytes _ _ may)
  where
    by : {outside : List ℕ} (g : Head) (us : List Loose) (k : List ℕ) → IsOpen g us outside k → Completes bytes outside → Completes bytes k
    by g us k is outer = record {
      before = outer.before ++ opening g (with_commas us []);
      text = outer.text ∙ (ap (λ l. outer.before ++ l) (is.text ∙ sym (head_front g us k)) ∙ sym (append_assoc outer.before (opening g (with_commas us [])) k));
      each = λ t in_grammar. completed_within outer.before g us t is.written is.each is.may in_grammar outer.each;
    }
