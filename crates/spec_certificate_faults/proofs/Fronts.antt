-- Where a term may begin: reading comes so far, or a fault is told before it.
use Rattle.std.proofs.Common.{Bool, ◌≡◌, ℕ, suc, ◌+◌, ◌≤◌, ◌⊎◌, inl, inr, true, List, [], ◌∷◌, length, refl, sym, ap, subst, arith}
use Rattle.std.specs.List.{AllByRecursion}
use Rattle.spec_trees.specs.Tree.{Leaf, Node}
use Rattle.spec_calculus.specs.Syntax.{Protocol}
use Rattle.spec_certificate_text.specs.Loose.{Head, Applied, Tupled, Made, Attackers, Loose, opening, onto}
use Rattle.spec_certificate_text.specs.Terms.{Open, Begins, Ended, Reading}
use Rattle.spec_certificate_text.specs.Steps.{may_go_on}
use Rattle.spec_certificate_text.proofs.Complete.{reading, head_over}
use Rattle.spec_certificate_text.proofs.Long.{onto_long}
use Rattle.spec_certificate_faults.specs.Grammar.{IsWritten, MayHave, IsInGrammar, EndsBefore, with_commas, MayGoOn, IsOpen, MayBegin, whole, within}
use Rattle.spec_certificate_faults.proofs.Comes.{either, Through, Stopped, through_both, stopped_behind, stopped_sooner, StandsBefore, stands_before, none_before}
use Rattle.spec_certificate_faults.proofs.Heads.{Opened, head_read}
use Rattle.spec_certificate_faults.proofs.Trees.{tree_read, further, comma_read, opening_longer}

-- reading has come to where a term of this level may begin
pub record AtFront (binds : Bool) (P : Protocol) (bytes : List ℕ) (at : ℕ) (r : Reading) (level : ℕ) (here : List ℕ) : Type 0 where
  pub heads : List Open
  pub from : ℕ
  pub above : suc (length heads) ≡ level
  pub through : Through binds P bytes at r here (reading heads Begins from)
  pub before : StandsBefore heads through.place

abbrev pub FrontRead : Bool → Protocol → List ℕ → ℕ → Reading → ℕ → List ℕ → Type 0
FrontRead binds P bytes at r level here = Stopped binds P bytes at r here ⊎ AtFront binds P bytes at r level here

pub front_behind : (binds : Bool) (P : Protocol) (bytes : List ℕ) (at : ℕ) (r : Reading) (mid : List ℕ) (s : Reading) (level : ℕ) (here : List ℕ) → (one : Through binds P bytes at r mid s) → FrontRead binds P mid one.place s level here → FrontRead binds P bytes at r level here
front_behind binds P bytes at r mid s level here one (inl two) = inl (stopped_behind binds P bytes at r mid s here one two)
front_behind binds P bytes at r mid s level here one (inr two) = inr record {
  heads = two.heads;
  from = two.from;
  above = two.above;
  through = through_both binds P bytes at r mid s here (reading two.heads Begins two.from) one two.through;
  before = two.before;
}

ends_comma : (t : Loose) (rest : List ℕ) → EndsBefore t (44 ∷ rest)
ends_comma (Leaf w) rest = refl
ends_comma (Node h ts) rest = tt

commas_long : (ts : List Loose) (k : List ℕ) → length k ≤ length (with_commas ts k)
commas_long [] k = omega arith
commas_long (t ∷ ts) k = omega (arith, onto_long t (44 ∷ with_commas ts k), commas_long ts k)

-- arguments and their commas
commas_read : (binds : Bool) (P : Protocol) (ts : List Loose) → AllByRecursion IsInGrammar ts → (o : Open) (heads : List Open) (from at : ℕ) (inner : List ℕ) → may_go_on o.symbol ≡ true → o.place + 1 ≤ at
    → FrontRead binds P (with_commas ts inner) at (reading (o ∷ heads) Begins from) (suc (suc (length heads))) inner
commas_read binds P [] each o heads from at inner may before = inr record {
  heads = o ∷ heads;
  from = from;
  above = refl;
  through = record { place = at; is = refl; counted = refl };
  before = stands_before o heads at before;
}
commas_read binds P (t ∷ ts) each o heads from at inner may before =
    let later = with_commas ts inner in
    let bytes = onto t (44 ∷ later) in
    let start = reading (o ∷ heads) Begins from in
    either (tree_read binds P t each.0 (44 ∷ later) at (o ∷ heads) from (ends_comma t later) (stands_before o heads at before))
    (λ stopped. inl (stopped_sooner binds P bytes at start (44 ∷ later) inner (omega (arith, commas_long ts inner)) stopped))
    (λ one.
    let comma = comma_read binds P o heads one.term one.since one.through.place later may in
    let both = through_both binds P bytes at start (44 ∷ later) (reading (o ∷ heads) (Ended one.term) one.since) later (reading (further o one.term ∷ heads) Begins one.since) one.through comma in
    let long : o.place + 1 ≤ comma.place = omega (arith, before, comma.counted, one.through.counted, onto_long t (44 ∷ later)) in
    front_behind binds P bytes at start later (reading (further o one.term ∷ heads) Begins one.since) (suc (suc (length heads))) inner both
    (commas_read binds P ts each.1 (further o one.term) heads one.since both.place inner may long))

-- a head, arguments and their commas
two_may : (h : Head) (t : Loose) (ts : List Loose) → MayGoOn h (t ∷ ts) → MayHave h 2
two_may (Applied w) t ts may = omega arith
two_may Tupled t ts may = omega arith
two_may (Made w ds) t ts may = tt
two_may Attackers t ts may = absurd (cc)

behind_head : (binds : Bool) (P : Protocol) (h : Head) (ts : List Loose) → AllByRecursion IsInGrammar ts → MayGoOn h ts → (inner : List ℕ) (at : ℕ) (heads : List Open) (from : ℕ) → IsWritten h → (one : Opened binds P h (with_commas ts inner) at heads from)
    → FrontRead binds P (with_commas ts inner) one.through.place (reading (head_over one.named at [] ∷ heads) Begins at) (suc (suc (length heads))) inner
behind_head binds P h [] each may inner at heads from written one = inr record {
  heads = head_over one.named at [] ∷ heads;
  from = at;
  above = refl;
  through = record { place = one.through.place; is = refl; counted = refl };
  before = stands_before (head_over one.named at []) heads one.through.place (omega (arith, one.through.counted, opening_longer h inner written));
}
behind_head binds P h (t ∷ ts) each may inner at heads from written one =
    commas_read binds P (t ∷ ts) each (head_over one.named at []) heads at one.through.place inner (one.like.comma 0 (two_may h t ts may))
    (omega (arith, one.through.counted, opening_longer h (with_commas (t ∷ ts) inner) written))

open_read : (binds : Bool) (P : Protocol) (h : Head) (ts : List Loose) (here inner : List ℕ) → IsOpen h ts here inner → (at : ℕ) (heads : List Open) (from : ℕ) → StandsBefore heads at → FrontRead binds P here at (reading heads Begins from) (suc (suc (length heads))) inner
open_read binds P h ts here inner is at heads from before =
    subst (λ bytes. FrontRead binds P bytes at (reading heads Begins from) (suc (suc (length heads))) inner) (sym is.text)
    (either (head_read binds P h (with_commas ts inner) at heads from is.written before)
    (λ stopped. inl (stopped_sooner binds P (opening h (with_commas ts inner)) at (reading heads Begins from) (with_commas ts inner) inner (commas_long ts inner) stopped))
    (λ one. front_behind binds P (opening h (with_commas ts inner)) at (reading heads Begins from) (with_commas ts inner) (reading (head_over one.named at [] ∷ heads) Begins at) (suc (suc (length heads))) inner one.through
    (behind_head binds P h ts is.each is.may inner at heads from is.written one)))

inner_shorter : (h : Head) (ts : List Loose) (here inner : List ℕ) → IsOpen h ts here inner → length inner ≤ length here
inner_shorter h ts here inner is = omega (arith, ap length is.text, opening_longer h (with_commas ts inner) is.written, commas_long ts inner)

pub front_read : (binds : Bool) (P : Protocol) (bytes : List ℕ) (at level : ℕ) (here : List ℕ) → MayBegin bytes level here → FrontRead binds P bytes at (reading [] Begins at) level here
front_read binds P bytes at level here whole = inr record { heads = []; from = at; above = refl; through = record { place = at; is = refl; counted = refl }; before = none_before at }
front_read binds P bytes at level here (within outer h ts inner is) = by _ _ h ts inner is (front_read binds P bytes at _ _ outer)
  where
    by : (above : ℕ) (outside : List ℕ) (g : Head) (us : List Loose) (k : List ℕ) → IsOpen g us outside k → FrontRead binds P bytes at (reading [] Begins at) above outside → FrontRead binds P bytes at (reading [] Begins at) (suc above) k
    by above outside g us k opens (inl stopped) = inl (stopped_sooner binds P bytes at (reading [] Begins at) outside k (inner_shorter g us outside k opens) stopped)
    by above outside g us k opens (inr front) =
        subst (λ n. FrontRead binds P bytes at (reading [] Begins at) n k) (ap suc front.above)
        (front_behind binds P bytes at (reading [] Begins at) outside (reading front.heads Begins front.from) (suc (suc (length front.heads))) k front.through
        (open_read binds P g us outside k opens front.through.place front.heads front.from front.before))
