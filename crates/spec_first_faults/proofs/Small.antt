-- Fixed bytes, runs of bytes, nothing, and terms: readers of them tell the first fault.
use Rattle.std.proofs.Common.{◌≡◌, ℕ, suc, ◌+◌, ◌≤◌, ◌⊎◌, inl, inr, Bool, true, false, ◌==◌, ◌&&◌, if◌then◌else◌, cond, List, [], ◌∷◌, ◌++◌, length, take, drop, refl, sym, ◌∙◌, ap, subst, arith, append_assoc, length-drop}
use Rattle.std.proofs.Math.Seq.{drop-append_seam, take-append_seam}
use Rattle.std.proofs.lemmas.List.{append-nil, take-append-drop}
use Rattle.std.proofs.lemmas.List.Sums.{prefix_len-le-length}
use Rattle.std.specs.List.{list_all, prefix_len}
use Rattle.spec_trees.specs.Tree.{Leaf, Node}
use Rattle.spec_calculus.specs.Syntax.{Protocol}
use Rattle.spec_certificate_text.specs.Loose.{Loose, onto}
use Rattle.spec_certificate_text.specs.Spelled.{Stops, goes_on}
use Rattle.spec_certificate_text.specs.OfProtocol.{HasNames}
use Rattle.spec_certificate_text.specs.Terms.{Code, Syntax, Begins, Ended}
use Rattle.spec_certificate_text.specs.Runs.{Done, Refused, read_on, read_tree}
use Rattle.spec_certificate_text.specs.Outcomes.{Outcome, Found, Faulty, next, front, ended, Reader, read_fixed}
use Rattle.spec_certificate_text.specs.Facts.{term_outcome, one_tree}
use Rattle.spec_certificate_text.proofs.Complete.{reading}
use Rattle.spec_certificate_text.proofs.ReadRuns.{read_on-place}
use Rattle.spec_certificate_text.proofs.FactsThere.{as_done}
use Rattle.spec_certificate_text.proofs.Parts.{equal_byte, fixed_there, fixed_found, run_stops}
use Rattle.spec_reading_faults.proofs.Shared.{IsLocal, next_local, choice_local, found_local, never_local, ended_local}
use Rattle.spec_reading_faults.proofs.Terms.{as_refused, tree_local}
use Rattle.spec_reading_faults.proofs.Parts.{fixed_local, run, run_local}
use Rattle.spec_certificate_faults.specs.Grammar.{IsInGrammar, EndsAt, EndsBefore}
use Rattle.spec_certificate_faults.specs.TermFaults.{StandsInTerm}
use Rattle.spec_certificate_faults.specs.First.{IsTermText, terms_in}
use Rattle.spec_certificate_faults.proofs.Comes.{either, Stopped, EndedAt, none_before}
use Rattle.spec_certificate_faults.proofs.Trees.{tree_read}
use Rattle.spec_certificate_faults.proofs.AnyFault.{term_fault_told}
use Rattle.spec_certificate_faults.proofs.Explained.{term_told_stands}
use Rattle.spec_certificate_text.proofs.Followed.{onto_followed}
use Rattle.spec_certificate_faults.proofs.Completes.{one_letter}
use Rattle.spec_certificate_faults.proofs.Shown.{fault_shown}
use Rattle.spec_certificate_faults.proofs.GoesOn.{term_goes_on}
use Rattle.spec_certificate_faults.proofs.TermFirst.{done_text}
use Rattle.spec_first_faults.specs.Kinds.{fixed, IsRun, runs, nothing_before}
use Rattle.spec_first_faults.proofs.Tells.{Anything, GoesPastIt, IsRight, FindsIt, TextRead, ToldIt, Forms, Tells}

-- Fixed bytes.

record FixedStops (ws bytes : List ℕ) (at place : ℕ) (code : Code) : Type 0 where
  syntax : code ≡ Syntax
  before : List ℕ
  there : List ℕ
  other : List ℕ
  text : bytes ≡ before ++ there
  begins : ws ≡ before ++ other
  counted : place + length there ≡ at + length bytes

fixed_stops : (ws bytes : List ℕ) (at place : ℕ) (code : Code) → read_fixed ws bytes at ≡ Faulty place code → FixedStops ws bytes at place code
unfolding read_fixed
fixed_stops [] bytes at place code e = absurd (cc)
fixed_stops (w ∷ ws) [] at place code e =
    let places : at ≡ place = cc in
    let codes : Syntax ≡ code = cc in
    record { syntax = sym codes; before = []; there = []; other = w ∷ ws; text = refl; begins = refl; counted = omega (arith, places) }
fixed_stops (w ∷ ws) (b ∷ bytes) at place code e = by (b == w) refl e (fixed_stops ws bytes (at + 1) place code)
  where
    by : (same : Bool) → (b == w) ≡ same → (if same then read_fixed ws bytes (at + 1) else Faulty at Syntax) ≡ Faulty place code → (read_fixed ws bytes (at + 1) ≡ Faulty place code → FixedStops ws bytes (at + 1) place code) → FixedStops (w ∷ ws) (b ∷ bytes) at place code
    by true same told again =
        let rest = again told in
        record {
          syntax = rest.syntax;
          before = b ∷ rest.before;
          there = rest.there;
          other = rest.other;
          text = ap (λ bs. b ∷ bs) rest.text;
          begins = ap (λ bs. w ∷ bs) rest.begins ∙ ap (λ c. c ∷ (rest.before ++ rest.other)) (sym (equal_byte b w same));
          counted = omega (arith, rest.counted);
        }
    by false other told again =
        let places : at ≡ place = cc in
        let codes : Syntax ≡ code = cc in
        record { syntax = sym codes; before = []; there = b ∷ bytes; other = w ∷ ws; text = refl; begins = refl; counted = omega (arith, places) }

fixed_counted : (ws bytes : List ℕ) (at place : ℕ) (u : Unit {0}) (rest : List ℕ) → read_fixed ws bytes at ≡ Found u place rest → place + length rest ≡ at + length bytes
unfolding read_fixed
fixed_counted [] bytes at place u rest e =
    let places : at ≡ place = cc in
    let rests : bytes ≡ rest = cc in
    omega (arith, places, ap length rests)
fixed_counted (w ∷ ws) [] at place u rest e = absurd (cc)
fixed_counted (w ∷ ws) (b ∷ bytes) at place u rest e = by (b == w) e (fixed_counted ws bytes (at + 1) place u rest)
  where
    by : (same : Bool) → (if same then read_fixed ws bytes (at + 1) else Faulty at Syntax) ≡ Found u place rest → (read_fixed ws bytes (at + 1) ≡ Found u place rest → place + length rest ≡ at + 1 + length bytes) → place + length rest ≡ at + suc (length bytes)
    by true told again = omega (arith, again told)
    by false told again = absurd (cc)

pub fixed_forms : (w : List ℕ) → Forms ⊥ (fixed w) Anything
fixed_forms w = record {
  moved = λ bytes rest text. record { front = w; text = text; each = λ other may. refl };
  some = record { front = w; each = λ other may. refl; follows = []; may = tt };
  past = λ code bytes there fault. absurd fault;
  other_codes = λ bytes there fault. fault;
}

pub fixed_tells : (w : List ℕ) → Tells ⊥ (fixed w) Anything Anything (read_fixed w)
fixed_tells w = record {
  forms = fixed_forms w;
  local = fixed_local w;
  found = λ bytes at place u rest of e. fixed_there w bytes at u place rest e;
  counted = λ bytes at place u rest of e. fixed_counted w bytes at place u rest e;
  right = λ bytes at place code of e. stops bytes at place code (fixed_stops w bytes at place code e);
  texts = λ bytes rest at of text. inl (finds bytes rest at text);
  told = λ code bytes there at of fault. absurd fault;
}
  where
    stops : (bytes : List ℕ) (at place : ℕ) (code : Code) → FixedStops w bytes at place code → IsRight (fixed w) bytes (at + length bytes) place code
    stops bytes at place code is = inl (
      is.syntax,
      record {
        there = is.there;
        to = record { before = is.before; text = is.text; extends = record { other = is.other; rest = []; long = omega arith; is = sym is.begins ∙ sym (append-nil w) } };
        counted = is.counted;
      },
    )

    finds : (bytes rest : List ℕ) (at : ℕ) → bytes ≡ w ++ rest → FindsIt (read_fixed w bytes at) rest
    finds bytes rest at text =
        let found = fixed_found w rest at in
        record { value = tt; place = found.place; is = ap (λ bs. read_fixed w bs at) text ∙ found.is }

-- Nothing, where what follows is so.

pub nothing_forms : (So : List ℕ → Type 0) (follows : List ℕ) → So follows → Forms ⊥ (nothing_before So) So
nothing_forms So follows so = record {
  moved = λ bytes rest text. record { front = []; text = text.0; each = λ other may. (refl, may) };
  some = record { front = []; each = λ other may. (refl, may); follows = follows; may = so };
  past = λ code bytes there fault. absurd fault;
  other_codes = λ bytes there fault. fault;
}

pub nothing_tells : {A : Type 0} (So : List ℕ → Type 0) (follows : List ℕ) → So follows → (x : A) → Tells ⊥ (nothing_before So) So So (λ bytes at. Found x at bytes)
nothing_tells {A} So follows so x = record {
  forms = nothing_forms So follows so;
  local = found_local x;
  found = λ bytes at place y rest of e. let rests : bytes ≡ rest = cc in (rests, subst So rests of);
  counted = λ bytes at place y rest of e. let rests : bytes ≡ rest = cc in let places : at ≡ place = cc in omega (arith, places, ap length rests);
  right = λ bytes at place code of e. absurd (cc);
  texts = λ bytes rest at of text. inl record { value = x; place = at; is = ap (Found x at) text.0 };
  told = λ code bytes there at of fault. absurd fault;
}

-- Runs of bytes.

abbrev pub run_read : (ℕ → Bool) → (ℕ → Bool) → Reader (List ℕ)
run_read begins passes bytes at =
    if begins (front bytes)
    then ended (at + prefix_len passes bytes) (drop (prefix_len passes bytes) bytes) (Found (take (prefix_len passes bytes) bytes) (at + prefix_len passes bytes) (drop (prefix_len passes bytes) bytes))
    else Faulty at Syntax

run_local_by : (begins passes : ℕ → Bool) → IsLocal (λ bytes at. if begins (front bytes) then next (run passes bytes at) (λ w p k. ended p k (Found w p k)) else Faulty at Syntax)
run_local_by begins passes =
    choice_local begins (λ bytes at. next (run passes bytes at) (λ w p k. ended p k (Found w p k))) (λ bytes at. Faulty at Syntax)
    (next_local (run passes) (λ at w bytes p. ended p bytes (Found w p bytes)) (run_local passes) (λ at w. ended_local (λ bytes p. Found w p bytes) (found_local w))) never_local

run_read-local : (begins passes : ℕ → Bool) → IsLocal (run_read begins passes)
unfolding run
run_read-local begins passes = run_local_by begins passes

next_is : (k : ℕ) → 1 + k ≡ suc k
next_is k = omega arith

-- the bytes of a run pass the test, and the byte behind it does not
run_all : (passes : ℕ → Bool) (bytes : List ℕ) → list_all passes (take (prefix_len passes bytes) bytes) ≡ true
run_all passes [] = refl
run_all passes (b ∷ bytes) = by (passes b) refl (run_all passes bytes)
  where
    by : (t : Bool) → passes b ≡ t → list_all passes (take (prefix_len passes bytes) bytes) ≡ true → list_all passes (take (cond t (1 + prefix_len passes bytes) 0) (b ∷ bytes)) ≡ true
    by true is again = ap (λ k. list_all passes (take k (b ∷ bytes))) (next_is (prefix_len passes bytes)) ∙ (ap (λ t. t && list_all passes (take (prefix_len passes bytes) bytes)) is ∙ again)
    by false is again = refl

run_ends : (passes : ℕ → Bool) (bytes : List ℕ) → Stops passes (drop (prefix_len passes bytes) bytes)
run_ends passes [] = tt
run_ends passes (b ∷ bytes) = by (passes b) refl (run_ends passes bytes)
  where
    by : (t : Bool) → passes b ≡ t → Stops passes (drop (prefix_len passes bytes) bytes) → Stops passes (drop (cond t (1 + prefix_len passes bytes) 0) (b ∷ bytes))
    by true is again = subst (λ k. Stops passes (drop k (b ∷ bytes))) (sym (next_is (prefix_len passes bytes))) again
    by false is again = is

run_some : (passes : ℕ → Bool) (b : ℕ) (bytes : List ℕ) → passes b ≡ true → prefix_len passes (b ∷ bytes) ≡ suc (prefix_len passes bytes)
run_some passes b bytes is = ap (λ t. cond t (1 + prefix_len passes bytes) 0) is ∙ next_is (prefix_len passes bytes)

-- what the two tests have to be: what begins passes, some byte begins, and some byte does not pass
pub record AreTests (begins passes : ℕ → Bool) : Type 0 where
  pub passing : (b : ℕ) → begins b ≡ true → passes b ≡ true
  pub first : ℕ
  pub is_first : begins first ≡ true
  pub stop : ℕ
  pub is_stop : passes stop ≡ false

record AreOfRun (begins passes : ℕ → Bool) (bytes w rest : List ℕ) : Type 0 where
  some : 1 ≤ length w
  begin : begins (front w) ≡ true
  all : list_all passes w ≡ true
  text : bytes ≡ w ++ rest

run_of : (begins passes : ℕ → Bool) → AreTests begins passes → (b : ℕ) (bytes rest : List ℕ) → begins b ≡ true → drop (prefix_len passes (b ∷ bytes)) (b ∷ bytes) ≡ rest → AreOfRun begins passes (b ∷ bytes) (take (prefix_len passes (b ∷ bytes)) (b ∷ bytes)) rest
run_of begins passes tests b bytes rest is behind =
    let long = run_some passes b bytes (tests.passing b is) in
    record {
      some = subst (λ n. 1 ≤ length (take n (b ∷ bytes))) (sym long) (omega arith);
      begin = subst (λ n. begins (front (take n (b ∷ bytes))) ≡ true) (sym long) is;
      all = run_all passes (b ∷ bytes);
      text = sym (take-append-drop (prefix_len passes (b ∷ bytes)) (b ∷ bytes)) ∙ ap (λ k. take (prefix_len passes (b ∷ bytes)) (b ∷ bytes) ++ k) behind;
    }

ends_as : (passes : ℕ → Bool) (b : ℕ) (k rest : List ℕ) → Stops passes rest → rest ≡ b ∷ k → EndsAt passes rest
ends_as passes b k [] stops e = absurd (cc)
ends_as passes b k (c ∷ rest) stops e = stops

-- no run ends there: a fault at its beginning, or at the end of the bytes
run_right : (begins passes : ℕ → Bool) → AreTests begins passes → (bytes : List ℕ) (at place : ℕ) (code : Code) → run_read begins passes bytes at ≡ Faulty place code → IsRight (runs begins passes) bytes (at + length bytes) place code
run_right begins passes tests bytes at place code e = by (begins (front bytes)) refl e
  where
    starts : (place ≡ at) → code ≡ Syntax → IsRight (runs begins passes) bytes (at + length bytes) place code
    starts there syntax = inl (
      syntax,
      record {
        there = bytes;
        to = record {
          before = [];
          text = refl;
          extends = record {
            other = tests.first ∷ tests.stop ∷ [];
            rest = tests.stop ∷ [];
            long = omega arith;
            is = record { run = tests.first ∷ []; some = omega arith; begin = tests.is_first; all = ap (λ t. t && true) (tests.passing tests.first tests.is_first); ends = tests.is_stop; text = refl };
          };
        };
        counted = omega (arith, there);
      },
    )

    cut : (bs : List ℕ) → bs ≡ bytes → begins (front bs) ≡ true → drop (prefix_len passes bs) bs ≡ [] → place ≡ at + prefix_len passes bs → code ≡ Syntax → IsRight (runs begins passes) bytes (at + length bytes) place code
    cut [] same first none there syntax = starts (omega (arith, there)) syntax
    cut (b ∷ bs) same first none there syntax =
        let n = prefix_len passes (b ∷ bs) in
        let whole : take n (b ∷ bs) ≡ b ∷ bs = sym (append-nil (take n (b ∷ bs))) ∙ (ap (λ k. take n (b ∷ bs) ++ k) (sym none) ∙ take-append-drop n (b ∷ bs)) in
        let long : n ≡ length (b ∷ bs) = omega (arith, prefix_len-le-length passes (b ∷ bs), length-drop n (b ∷ bs), ap length none) in
        let every : list_all passes (b ∷ bs) ≡ true = subst (λ w. list_all passes w ≡ true) whole (run_all passes (b ∷ bs)) in
        inl (
          syntax,
          record {
            there = [];
            to = record {
              before = b ∷ bs;
              text = sym same ∙ sym (append-nil (b ∷ bs));
              extends = record {
                other = tests.stop ∷ [];
                rest = tests.stop ∷ [];
                long = omega arith;
                is = record { run = b ∷ bs; some = omega arith; begin = first; all = every; ends = tests.is_stop; text = refl };
              };
            };
            counted = omega (arith, there, long, ap length same);
          },
        )

    ends_so : (rest : List ℕ) → drop (prefix_len passes bytes) bytes ≡ rest → begins (front bytes) ≡ true → ended (at + prefix_len passes bytes) rest (Found (take (prefix_len passes bytes) bytes) (at + prefix_len passes bytes) rest) ≡ Faulty place code → IsRight (runs begins passes) bytes (at + length bytes) place code
    ends_so [] none first told =
        let places : at + prefix_len passes bytes ≡ place = cc in
        let codes : Syntax ≡ code = cc in
        cut bytes refl first none (sym places) (sym codes)
    ends_so (c ∷ rest) more first told = absurd (cc)

    by : (t : Bool) → begins (front bytes) ≡ t → (if t then ended (at + prefix_len passes bytes) (drop (prefix_len passes bytes) bytes) (Found (take (prefix_len passes bytes) bytes) (at + prefix_len passes bytes) (drop (prefix_len passes bytes) bytes)) else Faulty at Syntax) ≡ Faulty place code → IsRight (runs begins passes) bytes (at + length bytes) place code
    by true first told = ends_so (drop (prefix_len passes bytes) bytes) refl first told
    by false first told =
        let places : at ≡ place = cc in
        let codes : Syntax ≡ code = cc in
        starts (sym places) (sym codes)

record RunFound (begins passes : ℕ → Bool) (bytes : List ℕ) (at place : ℕ) (w rest : List ℕ) : Type 0 where
  text : IsRun begins passes bytes rest
  run : w ≡ text.run
  counted : place + length rest ≡ at + length bytes

run_found : (begins passes : ℕ → Bool) → AreTests begins passes → (bytes : List ℕ) (at place : ℕ) (w rest : List ℕ) → run_read begins passes bytes at ≡ Found w place rest → RunFound begins passes bytes at place w rest
run_found begins passes tests bytes at place w rest e = by (begins (front bytes)) refl e
  where
    some : (bs : List ℕ) → bs ≡ bytes → begins (front bs) ≡ true → (b : ℕ) (k : List ℕ) → drop (prefix_len passes bs) bs ≡ b ∷ k → Found (take (prefix_len passes bs) bs) (at + prefix_len passes bs) (b ∷ k) ≡ Found w place rest → RunFound begins passes bytes at place w rest
    some [] same first b k more told = absurd (cc)
    some (c ∷ bs) same first b k more told =
        let n = prefix_len passes (c ∷ bs) in
        let words : take n (c ∷ bs) ≡ w = cc in
        let places : at + n ≡ place = cc in
        let rests : b ∷ k ≡ rest = cc in
        let behind : drop n (c ∷ bs) ≡ rest = more ∙ rests in
        let stops : EndsAt passes rest = ends_as passes b k rest (subst (Stops passes) behind (run_ends passes (c ∷ bs))) (sym rests) in
        let there : AreOfRun begins passes (c ∷ bs) w rest = subst (λ v. AreOfRun begins passes (c ∷ bs) v rest) words (run_of begins passes tests c bs rest first behind) in
        subst (λ all. RunFound begins passes all at place w rest) same record {
          text = record { run = w; some = there.some; begin = there.begin; all = there.all; ends = stops; text = there.text };
          run = refl;
          counted = omega (arith, places, prefix_len-le-length passes (c ∷ bs), length-drop n (c ∷ bs), ap length behind);
        }

    ends_so : (k : List ℕ) → drop (prefix_len passes bytes) bytes ≡ k → begins (front bytes) ≡ true → ended (at + prefix_len passes bytes) k (Found (take (prefix_len passes bytes) bytes) (at + prefix_len passes bytes) k) ≡ Found w place rest → RunFound begins passes bytes at place w rest
    ends_so [] none first told = absurd (cc)
    ends_so (b ∷ k) more first told = some bytes refl first b k more told

    by : (t : Bool) → begins (front bytes) ≡ t → (if t then ended (at + prefix_len passes bytes) (drop (prefix_len passes bytes) bytes) (Found (take (prefix_len passes bytes) bytes) (at + prefix_len passes bytes) (drop (prefix_len passes bytes) bytes)) else Faulty at Syntax) ≡ Found w place rest → RunFound begins passes bytes at place w rest
    by true first told = ends_so (drop (prefix_len passes bytes) bytes) refl first told
    by false first told = absurd (cc)

-- what is found is a run
pub run_kept : (begins passes : ℕ → Bool) → AreTests begins passes → (bytes : List ℕ) (at place : ℕ) (w rest : List ℕ) → run_read begins passes bytes at ≡ Found w place rest → (is : IsRun begins passes bytes rest) × (w ≡ is.run)
run_kept begins passes tests bytes at place w rest e = let found = run_found begins passes tests bytes at place w rest e in (found.text, found.run)

stops_as : (passes : ℕ → Bool) (rest : List ℕ) → EndsAt passes rest → Stops passes rest
stops_as passes [] ends = absurd ends
stops_as passes (b ∷ rest) ends = ends

front_of : (w k : List ℕ) → 1 ≤ length w → front (w ++ k) ≡ front w
front_of [] k some = absurd (omega (arith, some))
front_of (b ∷ w) k some = refl

ended_some : {A : Type 0} (passes : ℕ → Bool) (place : ℕ) (rest : List ℕ) (o : Outcome A) → EndsAt passes rest → ended place rest o ≡ o
ended_some passes place [] o ends = absurd ends
ended_some passes place (b ∷ rest) o ends = refl

-- a run is read as it is
pub run_is_read : (begins passes : ℕ → Bool) (bytes rest : List ℕ) (at : ℕ) → (is : IsRun begins passes bytes rest) → run_read begins passes bytes at ≡ Found is.run (at + length is.run) rest
run_is_read begins passes bytes rest at is = ap (λ bs. run_read begins passes bs at) is.text ∙ whole
  where
    w : List ℕ
    w = is.run

    whole : run_read begins passes (is.run ++ rest) at ≡ Found is.run (at + length is.run) rest
    whole =
        let long : prefix_len passes (is.run ++ rest) ≡ length is.run = run_stops passes is.run rest is.all (stops_as passes rest is.ends) in
        let first : begins (front (is.run ++ rest)) ≡ true = ap begins (front_of is.run rest is.some) ∙ is.begin in
        ap (λ t. if t then ended (at + prefix_len passes (is.run ++ rest)) (drop (prefix_len passes (is.run ++ rest)) (is.run ++ rest)) (Found (take (prefix_len passes (is.run ++ rest)) (is.run ++ rest)) (at + prefix_len passes (is.run ++ rest)) (drop (prefix_len passes (is.run ++ rest)) (is.run ++ rest))) else Faulty at Syntax) first
        ∙ (ap (λ n. ended (at + n) (drop n (is.run ++ rest)) (Found (take n (is.run ++ rest)) (at + n) (drop n (is.run ++ rest)))) long
        ∙ (ap (λ k. ended (at + length is.run) k (Found (take (length is.run) (is.run ++ rest)) (at + length is.run) k)) (drop-append_seam is.run rest)
        ∙ (ap (λ v. ended (at + length is.run) rest (Found v (at + length is.run) rest)) (take-append_seam is.run rest)
        ∙ ended_some passes (at + length is.run) rest (Found is.run (at + length is.run) rest) is.ends)))

pub run_forms : (begins passes : ℕ → Bool) → AreTests begins passes → Forms ⊥ (runs begins passes) (EndsAt passes)
run_forms begins passes tests = record {
  moved = λ bytes rest text. record { front = text.run; text = text.text; each = λ other may. record { run = text.run; some = text.some; begin = text.begin; all = text.all; ends = may; text = refl } };
  some = record {
    front = tests.first ∷ [];
    each = λ other may. record { run = tests.first ∷ []; some = omega arith; begin = tests.is_first; all = ap (λ t. t && true) (tests.passing tests.first tests.is_first); ends = may; text = refl };
    follows = tests.stop ∷ [];
    may = tests.is_stop;
  };
  past = λ code bytes there fault. absurd fault;
  other_codes = λ bytes there fault. fault;
}

pub runs_tell : (begins passes : ℕ → Bool) → AreTests begins passes → Tells ⊥ (runs begins passes) Anything (EndsAt passes) (run_read begins passes)
runs_tell begins passes tests = record {
  forms = run_forms begins passes tests;
  local = run_read-local begins passes;
  found = λ bytes at place w rest of e. (run_found begins passes tests bytes at place w rest e).text;
  counted = λ bytes at place w rest of e. (run_found begins passes tests bytes at place w rest e).counted;
  right = λ bytes at place code of e. run_right begins passes tests bytes at place code e;
  texts = λ bytes rest at of text. inl record { value = text.run; place = at + length text.run; is = run_is_read begins passes bytes rest at text };
  told = λ code bytes there at of fault. absurd fault;
}

-- Terms.

-- a word alone could not go on with these bytes
abbrev pub EndsWord : List ℕ → Type 0
EndsWord other = EndsAt goes_on other

term_right : (binds : Bool) (P : Protocol) → HasNames P → (bytes : List ℕ) (at place : ℕ) (code : Code) → read_tree binds P bytes at ≡ Refused place code → IsRight (terms_in binds P) bytes (at + length bytes) place code
term_right binds P names bytes at place code e =
    either (term_told_stands binds P names bytes at place code e)
    (λ syntax.
    let told = term_goes_on binds P names bytes at place (e ∙ ap (Refused place) syntax) in
    let on = told.goes_on in
    inl (syntax, record { there = told.there; to = record { before = on.before; text = on.text; extends = record { other = on.other; rest = on.behind; long = on.long; is = on.is } }; counted = told.counted }))
    (λ stands. inr record { there = stands.there; is = stands.is; counted = stands.counted })

term_texts : (binds : Bool) (P : Protocol) (bytes rest : List ℕ) (at : ℕ) → IsTermText bytes rest → TextRead ⊥ (one_tree binds P bytes at) bytes at rest
term_texts binds P bytes rest at is =
    either (subst (λ bs. Stopped binds P bs at (reading [] Begins at) rest ⊎ EndedAt binds P bs at (reading [] Begins at) rest []) (sym is.text) (tree_read binds P is.tree is.is rest at [] at is.ends (none_before at)))
    (λ stopped. inr record { place = stopped.place; code = stopped.code; is = ap term_outcome stopped.is; early = inl stopped.early; other = stopped.other })
    (λ one.
    let ended : read_on binds P bytes at (reading [] Begins at) ≡ Done one.term one.through.place (is.next ∷ is.later) = one.through.is ∙ ap (λ bs. read_on binds P bs one.through.place (reading [] (Ended one.term) one.since)) is.more in
    inl record { value = one.term; place = one.through.place; is = ap term_outcome (ended ∙ ap (Done one.term one.through.place) (sym is.more)) })

term_told : (binds : Bool) (P : Protocol) → HasNames P → (code : Code) (bytes there : List ℕ) (at : ℕ) → StandsInTerm binds P code bytes there → ToldIt (one_tree binds P bytes at) bytes at there code
term_told binds P names code bytes there at is =
    let told = term_fault_told binds P names bytes at there code is in
    record { place = told.place; told = told.told; is = ap term_outcome told.is; not_after = told.not_after }

term_past : (binds : Bool) (P : Protocol) → HasNames P → (code : Code) (bytes there : List ℕ) → StandsInTerm binds P code bytes there → GoesPastIt (terms_in binds P) bytes there
term_past binds P names code bytes there is =
    let past = fault_shown binds P names code bytes there is in
    record {
      before = past.before;
      text = past.text;
      first = past.first;
      later = past.later;
      begins = past.begins;
      extends = record { other = past.other; rest = past.rest; long = past.long; is = subst (λ bs. IsTermText bs past.rest) (sym (append_assoc past.before (past.first ∷ []) past.other)) past.is };
    }

ends_there : (t : Loose) (other : List ℕ) → EndsWord other → EndsBefore t other
ends_there (Leaf w) other may = may
ends_there (Node h ts) other may = tt

word_ends : (other : List ℕ) → EndsWord other → (next : ℕ) × (later : List ℕ) × (other ≡ next ∷ later)
word_ends [] may = absurd may
word_ends (b ∷ k) may = (b, k, refl)

term_stands : (t : Loose) → IsInGrammar t → (other : List ℕ) → EndsWord other → IsTermText (onto t [] ++ other) other
term_stands t is other may =
    let some = word_ends other may in
    record { tree = t; is = is; ends = ends_there t other may; next = some.0; later = some.1; more = some.2; text = onto_followed t [] other }

pub terms_forms : (binds : Bool) (P : Protocol) → HasNames P → Forms ⊥ (terms_in binds P) EndsWord
terms_forms binds P names = record {
  moved = λ bytes rest text. record { front = onto text.tree []; text = text.text ∙ sym (onto_followed text.tree [] rest); each = λ other may. term_stands text.tree text.is other may };
  some = record { front = 97 ∷ []; each = λ other may. term_stands (Leaf (97 ∷ [])) (one_letter 97 refl) other may; follows = 41 ∷ []; may = refl };
  past = λ code bytes there fault. inl (term_past binds P names code bytes there fault);
  other_codes = λ bytes there fault. fault.fault;
}

pub terms_tell : (binds : Bool) (P : Protocol) → HasNames P → Tells ⊥ (terms_in binds P) Anything EndsWord (one_tree binds P)
terms_tell binds P names = record {
  forms = terms_forms binds P names;
  local = tree_local binds P;
  found = λ bytes at place t rest of e. done_text binds P names bytes at place t rest (as_done (read_tree binds P bytes at) t place rest e);
  counted = λ bytes at place t rest of e. read_on-place binds P bytes at (reading [] Begins at) t place rest (as_done (read_tree binds P bytes at) t place rest e);
  right = λ bytes at place code of e. term_right binds P names bytes at place code (as_refused (read_tree binds P bytes at) place code e);
  texts = λ bytes rest at of text. term_texts binds P bytes rest at text;
  told = λ code bytes there at of fault. term_told binds P names code bytes there at fault;
}
