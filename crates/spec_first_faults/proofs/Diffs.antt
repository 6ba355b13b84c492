-- Constraints: a reader of them tells their first fault.
use Rattle.std.proofs.Common.{◌≡◌, ◌≢◌, ℕ, ◌≤◌, ◌==◌, ◌⊎◌, inl, inr, if◌then◌else◌, Bool, true, false, List, [], ◌∷◌, ◌++◌, length, codes, refl, sym, ◌∙◌, ap, subst, arith, length-append}
use Rattle.std.specs.List.{AllByRecursion}
use Rattle.spec_trees.specs.Tree.{trees}
use Rattle.spec_calculus.specs.Syntax.{Protocol}
use Rattle.spec_terms.specs.Term.{Term}
use Rattle.spec_certificate_text.specs.Loose.{row}
use Rattle.spec_certificate_text.specs.Sides.{SidesOf}
use Rattle.spec_certificate_text.specs.OfProtocol.{HasNames}
use Rattle.spec_certificate_text.specs.Written.{written_row}
use Rattle.spec_certificate_text.specs.Text.{sides_text}
use Rattle.spec_certificate_text.specs.Readable.{SideMayStand}
use Rattle.spec_certificate_text.specs.Terms.{Code, Syntax, Number, Symbol, Arity, Count, NodeOrder, NodeLarge}
use Rattle.spec_certificate_text.specs.Outcomes.{Outcome, Found, Faulty, next, Reader, read_fixed}
use Rattle.spec_certificate_text.specs.Facts.{read_sides, paired, read_diff}
use Rattle.spec_certificate_text.proofs.Parts.{Finds, parts, joined, fixed_there, fixed_found, other_byte, same_byte}
use Rattle.spec_certificate_text.proofs.FactsThere.{row_there}
use Rattle.spec_certificate_text.proofs.FactsFound.{row_found}
use Rattle.spec_certificate_faults.specs.First.{Kind}
use Rattle.spec_first_faults.specs.Kinds.{fixed, behind}
use Rattle.spec_first_faults.specs.Facts.{sides_before, DiffFault, diffs}
use Rattle.spec_first_faults.proofs.Tells.{Anything, GoesPastIt, Tells, mapped, mapped_tells, same_tells, shorter}
use Rattle.spec_first_faults.proofs.Behind.{first_extends, then_read, both_tell}
use Rattle.spec_first_faults.proofs.Small.{fixed_forms}
use Rattle.spec_first_faults.proofs.Closed.{behind_fixed}
use Rattle.spec_first_faults.proofs.Marked.{judged, checked, IsJudged, Judges, marked_tells}
use Rattle.spec_first_faults.proofs.Events.{rows_tell}

-- Both rows of sides, whatever their numbers.

abbrev sides_of : List Term → List Term → SidesOf Term
sides_of left right = record { left = left; right = right }

abbrev both_rows : Protocol → Kind
both_rows P = behind (sides_before P (codes ";")) (sides_before P (codes ")"))

abbrev right_row : Protocol → List Term → Reader (SidesOf Term)
right_row P left = mapped (λ right. sides_of left right) (read_sides P 41)

abbrev rows_read : Protocol → Reader (SidesOf Term)
rows_read P = then_read (read_sides P 59) (λ _ left. right_row P left)

abbrev sides_read : Protocol → Reader (SidesOf Term)
sides_read P = then_read (read_fixed (codes "diff(")) (λ _ _. rows_read P)

left_tells : (P : Protocol) → HasNames P → Tells ⊥ (sides_before P (codes ";")) Anything Anything (read_sides P 59)
left_tells P names = rows_tell true P 59 names record { some = refl; no_comma = refl; ends = refl }

right_tells : (P : Protocol) → HasNames P → Tells ⊥ (sides_before P (codes ")")) Anything Anything (read_sides P 41)
right_tells P names = rows_tell true P 41 names record { some = refl; no_comma = refl; ends = refl }

rows_read-tell : (P : Protocol) → HasNames P → Tells ⊥ (both_rows P) Anything Anything (rows_read P)
rows_read-tell P names =
    both_tell (sides_before P (codes ";")) (sides_before P (codes ")")) Anything Anything Anything Anything (read_sides P 59) (λ _ left. right_row P left) (left_tells P names)
    (λ at left. mapped_tells (sides_before P (codes ")")) Anything Anything (read_sides P 41) (λ right. sides_of left right) (right_tells P names))
    (right_tells P names).forms (λ bs rest text. tt) (λ bs mid of text. tt)

sides_read-tell : (P : Protocol) → HasNames P → Tells ⊥ (behind (fixed (codes "diff(")) (both_rows P)) Anything Anything (sides_read P)
sides_read-tell P names = behind_fixed (codes "diff(") (both_rows P) Anything (λ _ _. rows_read P) (λ at u. rows_read-tell P names)

-- Their numbers.

judge_sides : SidesOf Term → Code ⊎ SidesOf Term
judge_sides s = if length s.left == length s.right then inr s else inl Arity

unpaired_judged : (s : SidesOf Term) → length s.left ≢ length s.right → judge_sides s ≡ inl Arity
unfolding judge_sides
unpaired_judged s other = ap (λ t. if t then inr s else inl Arity) (other_byte (length s.left) (length s.right) other)

judged_unpaired : (s : SidesOf Term) (code : Code) → judge_sides s ≡ inl code → (length s.left ≢ length s.right) × (code ≡ Arity)
unfolding judge_sides
judged_unpaired s code e = by (length s.left == length s.right) refl e
  where
    by : (t : Bool) → (length s.left == length s.right) ≡ t → (if t then inr s else inl Arity) ≡ inl code → (length s.left ≢ length s.right) × (code ≡ Arity)
    by true same told = absurd (cc)
    by false other told = let codes : Arity ≡ code = cc in (λ same. let never : true ≡ false = sym (same_byte (length s.left)) ∙ (ap (λ n. length s.left == n) same ∙ other) in cc, sym codes)

diff_as : (P : Protocol) (bytes : List ℕ) (at : ℕ) → read_diff P bytes at ≡ checked judge_sides (sides_read P) bytes at
unfolding judge_sides
diff_as P bytes at = opened (read_fixed (codes "diff(") bytes at)
  where
    paired_so : (left right : List Term) (t : Bool) (p : ℕ) (k : List ℕ) → (if t then Found (sides_of left right) p k else Faulty at Arity) ≡ judged (if t then inr (sides_of left right) else inl Arity) at p k
    paired_so left right true p k = refl
    paired_so left right false p k = refl

    rights : (left : List Term) (o : Outcome (List Term)) → next o (λ right p k. paired at left right p k) ≡ next (next o (λ right p k. Found (sides_of left right) p k)) (λ x p k. judged (judge_sides x) at p k)
    rights left (Faulty p c) = refl
    rights left (Found right p k) = paired_so left right (length left == length right) p k

    lefts : (o : Outcome (List Term))
        → next o (λ left p k. next (read_sides P 41 k p) (λ right q j. paired at left right q j))
        ≡ next (next o (λ left p k. next (read_sides P 41 k p) (λ right q j. Found (sides_of left right) q j))) (λ x p k. judged (judge_sides x) at p k)
    lefts (Faulty p c) = refl
    lefts (Found left p k) = rights left (read_sides P 41 k p)

    opened : (o : Outcome (Unit {0}))
        → next o (λ _ p k. next (read_sides P 59 k p) (λ left q j. next (read_sides P 41 j q) (λ right z i. paired at left right z i)))
        ≡ next (next o (λ _ p k. next (read_sides P 59 k p) (λ left q j. next (read_sides P 41 j q) (λ right z i. Found (sides_of left right) z i)))) (λ x p k. judged (judge_sides x) at p k)
    opened (Faulty p c) = refl
    opened (Found u p k) = lefts (read_sides P 59 k p)

-- sides of any numbers are read as they are
sides_are_read : (P : Protocol) → HasNames P → (left right : List Term) (rest : List ℕ) (at : ℕ) → AllByRecursion (SideMayStand P) left → AllByRecursion (SideMayStand P) right → 1 ≤ length left → 1 ≤ length right
    → Finds (sides_read P (sides_text P (sides_of left right) rest) at) (sides_of left right) rest
sides_are_read P names [] right rest at lefts rights left_some right_some = absurd (omega (arith, left_some))
sides_are_read P names (t ∷ ts) [] rest at lefts rights left_some right_some = absurd (omega (arith, right_some))
sides_are_read P names (t ∷ ts) (u ∷ us) rest at lefts rights left_some right_some =
    let s : SidesOf Term = sides_of (t ∷ ts) (u ∷ us) in
    let second = row (written_row P (trees (u ∷ us))) (41 ∷ rest) in
    let first = row (written_row P (trees (t ∷ ts))) (59 ∷ second) in
    joined (read_fixed (codes "diff(") (sides_text P s rest) at) (λ _ p k. rows_read P k p) tt first s rest (fixed_found (codes "diff(") first at) (λ p.
    joined (read_sides P 59 first p) (λ left q k. right_row P left k q) (t ∷ ts) second s rest (row_found true P 59 record { ends = refl; no_comma = refl } names t ts second p lefts) (λ q.
    joined (read_sides P 41 second q) (λ right z k. Found (sides_of (t ∷ ts) right) z k) (u ∷ us) rest s rest (row_found true P 41 record { ends = refl; no_comma = refl } names u us rest q rights) (λ z. record { place = z; is = refl })))

-- what was read of both rows
record AreRead (P : Protocol) (bytes : List ℕ) (s : SidesOf Term) (rest : List ℕ) : Type 0 where
  text : bytes ≡ sides_text P s rest
  left : AllByRecursion (SideMayStand P) s.left
  right : AllByRecursion (SideMayStand P) s.right
  left_some : 1 ≤ length s.left
  right_some : 1 ≤ length s.right

sides_were_read : (P : Protocol) (bytes : List ℕ) (at place : ℕ) (s : SidesOf Term) (rest : List ℕ) → sides_read P bytes at ≡ Found s place rest → AreRead P bytes s rest
sides_were_read P bytes at place s rest e =
    let begin = parts (read_fixed (codes "diff(") bytes at) (λ _ p k. rows_read P k p) s place rest e in
    let opens = fixed_there (codes "diff(") bytes at begin.value begin.place begin.rest begin.first in
    let left = parts (read_sides P 59 begin.rest begin.place) (λ l p k. right_row P l k p) s place rest begin.later in
    let lefts = row_there true P 59 (λ never. absurd (cc)) begin.rest begin.place left.value left.place left.rest left.first in
    let right = parts (read_sides P 41 left.rest left.place) (λ r p k. Found (sides_of left.value r) p k) s place rest left.later in
    let rights = row_there true P 41 (λ never. absurd (cc)) left.rest left.place right.value right.place right.rest right.first in
    let ended = right.later in
    let same : sides_of left.value right.value ≡ s = cc in
    let rests : right.rest ≡ rest = cc in
    let left_text = lefts.text ∙ ap (λ ts. row (written_row P (trees ts)) (59 ∷ left.rest)) (sym lefts.is) in
    let right_text = rights.text ∙ ap (λ ts. row (written_row P (trees ts)) (41 ∷ right.rest)) (sym rights.is) in
    let one : 1 ≤ length (lefts.first ∷ lefts.others) = omega arith in
    let other : 1 ≤ length (rights.first ∷ rights.others) = omega arith in
    subst (λ d. AreRead P bytes d rest) same record {
      text = opens ∙ ap (λ k. codes "diff(" ++ k) (left_text ∙ ap (λ k. row (written_row P (trees left.value)) (59 ∷ k)) (right_text ∙ ap (λ k. row (written_row P (trees right.value)) (41 ∷ k)) rests));
      left = subst (AllByRecursion (SideMayStand P)) (sym lefts.is) lefts.each;
      right = subst (AllByRecursion (SideMayStand P)) (sym rights.is) rights.each;
      left_some = subst (λ (ts : List Term). 1 ≤ length ts) (sym lefts.is) one;
      right_some = subst (λ (ts : List Term). 1 ≤ length ts) (sym rights.is) other;
    }

sides_judge : (P : Protocol) → HasNames P → Judges (behind (fixed (codes "diff(")) (both_rows P)) Anything (sides_read P) judge_sides (DiffFault P)
sides_judge P names = record {
  text_long = λ bytes rest text. let forms = (rows_read-tell P names).forms in omega (arith, ap length text.1, length-append (codes "iff(") text.0, shorter (both_rows P) Anything text.0 rest (forms.moved text.0 rest text.2));
  judged_so = λ code bytes at of here. so code bytes at here;
  is_here = λ code bytes at place s rest of e told. there code bytes at place s rest e (judged_unpaired s code told);
  past = λ code bytes here. past_it code bytes here;
  other = λ bytes here. here;
  never = λ s code told e. let codes = (judged_unpaired s code told).1 in let never : Arity ≡ Syntax = sym codes ∙ e in cc;
}
  where
    so : (code : Code) (bytes : List ℕ) (at : ℕ) → DiffFault P code bytes → IsJudged judge_sides (sides_read P bytes at) code
    so Arity bytes at here =
        let s = sides_of here.left here.right in
        let found = sides_are_read P names here.left here.right here.rest at here.left_each here.right_each here.left_some here.right_some in
        record { value = s; place = found.place; rest = here.rest; is = ap (λ bs. sides_read P bs at) here.text ∙ found.is; so = unpaired_judged s here.wrong }
    so Syntax bytes at here = absurd here
    so Number bytes at here = absurd here
    so Symbol bytes at here = absurd here
    so Count bytes at here = absurd here
    so NodeOrder bytes at here = absurd here
    so NodeLarge bytes at here = absurd here

    there : (code : Code) (bytes : List ℕ) (at place : ℕ) (s : SidesOf Term) (rest : List ℕ) → sides_read P bytes at ≡ Found s place rest → (length s.left ≢ length s.right) × (code ≡ Arity) → DiffFault P code bytes
    there code bytes at place s rest e (other, codes) =
        let read = sides_were_read P bytes at place s rest e in
        subst (λ c. DiffFault P c bytes) (sym codes) record {
          left = s.left;
          right = s.right;
          rest = rest;
          left_each = read.left;
          right_each = read.right;
          left_some = read.left_some;
          right_some = read.right_some;
          wrong = other;
          text = read.text;
        }

    past_it : (code : Code) (bytes : List ℕ) → DiffFault P code bytes → GoesPastIt (behind (fixed (codes "diff(")) (both_rows P)) bytes bytes
    past_it Arity bytes here =
        let inner = row (written_row P (trees here.left)) (59 ∷ row (written_row P (trees here.right)) (41 ∷ here.rest)) in
        record {
          before = [];
          text = refl;
          first = 100;
          later = codes "iff(" ++ inner;
          begins = here.text;
          extends = first_extends (fixed (codes "diff(")) (both_rows P) Anything Anything (100 ∷ []) (fixed_forms (codes "diff(")).moved (λ bs rest text. tt) (rows_read-tell P names).forms.some
              record { other = codes "iff("; rest = []; long = omega arith; is = refl };
        }
    past_it Syntax bytes here = absurd here
    past_it Number bytes here = absurd here
    past_it Symbol bytes here = absurd here
    past_it Count bytes here = absurd here
    past_it NodeOrder bytes here = absurd here
    past_it NodeLarge bytes here = absurd here

pub diffs_tell : (P : Protocol) → HasNames P → Tells ⊥ (diffs P) Anything Anything (read_diff P)
diffs_tell P names =
    same_tells (diffs P) Anything Anything (read_diff P) (checked judge_sides (sides_read P)) (diff_as P)
    (marked_tells (behind (fixed (codes "diff(")) (both_rows P)) Anything Anything (sides_read P) judge_sides (DiffFault P) (sides_read-tell P names) (sides_judge P names))
