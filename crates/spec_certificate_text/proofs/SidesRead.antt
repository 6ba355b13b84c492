-- Constraints that were read are what the bytes begin with, and texts of constraints are read as these.
use Rattle.std.proofs.Common.{◌≡◌, ℕ, suc, ◌+◌, ◌<◌, ◌≤◌, ◌==◌, if◌then◌else◌, Bool, true, false, List, [], ◌∷◌, ◌++◌, length, refl, sym, ◌∙◌, ap, subst, arith, codes}
use Rattle.std.specs.List.{AllByRecursion}
use Rattle.spec_trees.specs.Tree.{trees}
use Rattle.spec_calculus.specs.Syntax.{Protocol}
use Rattle.spec_terms.specs.Term.{Term}
use Rattle.spec_certificate_text.specs.Loose.{row}
use Rattle.spec_certificate_text.specs.OfProtocol.{HasNames}
use Rattle.spec_certificate_text.specs.Sides.{SidesOf}
use Rattle.spec_certificate_text.specs.Written.{written_row}
use Rattle.spec_certificate_text.specs.Text.{sides_text}
use Rattle.spec_certificate_text.specs.Terms.{Arity}
use Rattle.spec_certificate_text.specs.Outcomes.{Outcome, Found, Faulty, next, front, read_fixed, things}
use Rattle.spec_certificate_text.specs.Facts.{read_sides, paired, read_diff}
use Rattle.spec_certificate_text.specs.Clauses.{one_diff, read_diffs}
use Rattle.spec_certificate_text.specs.Readable.{SideMayStand}
use Rattle.spec_certificate_text.proofs.Parts.{IsThere, Sound, Finds, parts, joined, chosen, when_true, when_false, equal_byte, same_byte, fixed_there, fixed_found}
use Rattle.spec_certificate_text.proofs.Things.{things_text, IsOne, Complete, things_there, things_found_before}
use Rattle.spec_certificate_text.proofs.Long.{row_long, things_long}
use Rattle.spec_certificate_text.proofs.FactsThere.{row_there}
use Rattle.spec_certificate_text.proofs.FactsFound.{row_found}

-- as many left sides as right sides, one at least, each of which may stand
pub record AreSidesReadable (P : Protocol) (s : SidesOf Term) : Type 0 where
  pub left : AllByRecursion (SideMayStand P) s.left
  pub right : AllByRecursion (SideMayStand P) s.right
  pub paired : length s.left ≡ length s.right
  pub some : 0 < length s.left

pub sides_there : (P : Protocol) → Sound (sides_text P) (AreSidesReadable P) (read_diff P)
sides_there P bytes at s p r e =
    let begin = parts (read_fixed (codes "diff(") bytes at) _ s p r e in
    let opens = fixed_there (codes "diff(") bytes at begin.value begin.place begin.rest begin.first in
    let left = parts (read_sides P 59 begin.rest begin.place) _ s p r begin.later in
    let lefts = row_there true P 59 (λ never. absurd (cc)) begin.rest begin.place left.value left.place left.rest left.first in
    let right = parts (read_sides P 41 left.rest left.place) _ s p r left.later in
    let rights = row_there true P 41 (λ never. absurd (cc)) left.rest left.place right.value right.place right.rest right.first in
    let made : SidesOf Term = record { left = left.value; right = right.value } in
    let left_text = lefts.text ∙ ap (λ ts. row (written_row P (trees ts)) (59 ∷ left.rest)) (sym lefts.is) in
    let right_text = rights.text ∙ ap (λ ts. row (written_row P (trees ts)) (41 ∷ right.rest)) (sym rights.is) in
    let some : 0 < suc (length lefts.others) = omega arith in
    chosen (length left.value == length right.value) (Found made right.place right.rest) (Faulty at Arity) s p r (IsThere (sides_text P) (AreSidesReadable P) bytes s r) right.later
    (λ fits end.
    let same : made ≡ s = cc in
    let rests : right.rest ≡ r = cc in
    subst (λ d. IsThere (sides_text P) (AreSidesReadable P) bytes d r) same record {
      text = opens ∙ ap (λ k. codes "diff(" ++ k) (left_text ∙ ap (λ k. row (written_row P (trees left.value)) (59 ∷ k)) (right_text ∙ ap (λ k. row (written_row P (trees right.value)) (41 ∷ k)) rests));
      is = record {
        left = subst (AllByRecursion (SideMayStand P)) (sym lefts.is) lefts.each;
        right = subst (AllByRecursion (SideMayStand P)) (sym rights.is) rights.each;
        paired = equal_byte (length left.value) (length right.value) fits;
        some = subst (λ (ts : List Term). 0 < length ts) (sym lefts.is) some;
      };
    })
    (λ misfits never. absurd (cc))

sides_found_of : (P : Protocol) → HasNames P → (left right : List Term) (rest : List ℕ) (at : ℕ) → AllByRecursion (SideMayStand P) left → AllByRecursion (SideMayStand P) right → length left ≡ length right → 0 < length left
    → Finds (read_diff P (sides_text P (record { left = left; right = right }) rest) at) (record { left = left; right = right }) rest
sides_found_of P names [] right rest at lefts rights paired some = absurd (omega (arith, some))
sides_found_of P names (t ∷ ts) [] rest at lefts rights paired some = absurd (omega (arith, paired))
sides_found_of P names (t ∷ ts) (u ∷ us) rest at lefts rights paired some =
    let s : SidesOf Term = record { left = t ∷ ts; right = u ∷ us } in
    let behind = row (written_row P (trees (u ∷ us))) (41 ∷ rest) in
    let inside = row (written_row P (trees (t ∷ ts))) (59 ∷ behind) in
    joined (read_fixed (codes "diff(") (sides_text P s rest) at) _ tt inside s rest (fixed_found (codes "diff(") inside at) (λ p.
    joined (read_sides P 59 inside p) _ (t ∷ ts) behind s rest (row_found true P 59 record { ends = refl; no_comma = refl } names t ts behind p lefts) (λ q.
    joined (read_sides P 41 behind q) _ (u ∷ us) rest s rest (row_found true P 41 record { ends = refl; no_comma = refl } names u us rest q rights) (λ z.
    when_true (length (t ∷ ts) == length (u ∷ us)) (Found s z rest) (Faulty at Arity) s rest (ap (λ n. length (t ∷ ts) == n) (sym paired) ∙ same_byte (length (t ∷ ts))) record { place = z; is = refl })))

pub sides_found : (P : Protocol) → HasNames P → Complete (sides_text P) (AreSidesReadable P) (read_diff P)
sides_found P names s rest at is = sides_found_of P names s.left s.right rest at is.left is.right is.paired is.some

pub sides_long : (P : Protocol) (s : SidesOf Term) (k : List ℕ) → length k + 1 ≤ length (sides_text P s k)
sides_long P s k =
    omega (arith, row_long (written_row P (trees s.left)) (59 ∷ row (written_row P (trees s.right)) (41 ∷ k)), row_long (written_row P (trees s.right)) (41 ∷ k))

-- Constraints in a row.

-- a constraint, and `, ` where another follows
abbrev pub one_text : Protocol → SidesOf Term × Bool → List ℕ → List ℕ
one_text P (d, true) rest = sides_text P d (44 ∷ 32 ∷ rest)
one_text P (d, false) rest = sides_text P d rest

abbrev behind_sides : SidesOf Term → ℕ → List ℕ → Outcome (SidesOf Term × Bool)
behind_sides d place rest = if front rest == 44 then next (read_fixed (codes ", ") rest place) (λ _ p r. Found (d, true) p r) else Found (d, false) place rest

pub one_diff_there : (P : Protocol) → Sound (one_text P) (IsOne (AreSidesReadable P)) (one_diff P)
one_diff_there P bytes at x p r e =
    let cut = parts (read_diff P bytes at) behind_sides x p r e in
    by cut.value cut.place cut.rest (sides_there P bytes at cut.value cut.place cut.rest cut.first) cut.later
  where
    by : (d : SidesOf Term) (q : ℕ) (k : List ℕ) → IsThere (sides_text P) (AreSidesReadable P) bytes d k → behind_sides d q k ≡ Found x p r → IsThere (one_text P) (IsOne (AreSidesReadable P)) bytes x r
    by d q k here found =
        chosen (front k == 44) (next (read_fixed (codes ", ") k q) (λ _ p r. Found (d, true) p r)) (Found (d, false) q k) x p r (IsThere (one_text P) (IsOne (AreSidesReadable P)) bytes x r) found
        (λ comma more.
        let mark = parts (read_fixed (codes ", ") k q) (λ _ p r. Found (d, true) p r) x p r more in
        let stands = fixed_there (codes ", ") k q mark.value mark.place mark.rest mark.first in
        let same : (d, true) ≡ x = cc in
        let rests : mark.rest ≡ r = cc in
        subst (λ y. IsThere (one_text P) (IsOne (AreSidesReadable P)) bytes y r) same record { text = here.text ∙ ap (sides_text P d) (stands ∙ ap (λ s. 44 ∷ 32 ∷ s) rests); is = here.is })
        (λ no_comma end.
        let same : (d, false) ≡ x = cc in
        let rests : k ≡ r = cc in
        subst (λ y. IsThere (one_text P) (IsOne (AreSidesReadable P)) bytes y r) same record { text = here.text ∙ ap (sides_text P d) rests; is = here.is })

-- behind the last stands no comma
abbrev pub no_more : Bool → List ℕ → Type 0
no_more true rest = Unit {0}
no_more false rest = (front rest == 44) ≡ false

one_diff_found : (P : Protocol) → HasNames P → (x : SidesOf Term × Bool) (rest : List ℕ) (at : ℕ) → AreSidesReadable P x.0 → no_more x.1 rest → Finds (one_diff P (one_text P x rest) at) x rest
one_diff_found P names (d, true) rest at is may =
    joined (read_diff P (sides_text P d (44 ∷ 32 ∷ rest)) at) behind_sides d (44 ∷ 32 ∷ rest) (d, true) rest (sides_found P names d (44 ∷ 32 ∷ rest) at is)
    (λ p. joined (read_fixed (codes ", ") (44 ∷ 32 ∷ rest) p) (λ _ q r. Found (d, true) q r) tt rest (d, true) rest (fixed_found (codes ", ") rest p) (λ q. record { place = q; is = refl }))
one_diff_found P names (d, false) rest at is may =
    joined (read_diff P (sides_text P d rest) at) behind_sides d rest (d, false) rest (sides_found P names d rest at is)
    (λ p. when_false (front rest == 44) (next (read_fixed (codes ", ") rest p) (λ _ q r. Found (d, true) q r)) (Found (d, false) p rest) (d, false) rest may record { place = p; is = refl })

pub one_diff_long : (P : Protocol) (x : SidesOf Term × Bool) (k : List ℕ) → length k + 1 ≤ length (one_text P x k)
one_diff_long P (d, true) k = omega (arith, sides_long P d (44 ∷ 32 ∷ k))
one_diff_long P (d, false) k = sides_long P d k

pub some_diffs_found : (P : Protocol) → HasNames P → (d : SidesOf Term) (ds : List (SidesOf Term)) (rest : List ℕ) (at : ℕ) → AllByRecursion (AreSidesReadable P) (d ∷ ds) → (front rest == 44) ≡ false
    → Finds (things (one_diff P) (things_text (one_text P) d ds rest) at) (d ∷ ds) rest
some_diffs_found P names d ds rest at each stops =
    things_found_before (one_text P) (AreSidesReadable P) no_more (one_diff P) record { found = one_diff_found P names; follows = λ x k is. tt }
    (length (things_text (one_text P) d ds rest)) [] d ds rest at (things_long (one_text P) (one_diff_long P) d ds rest) each stops

-- a constraint begins with `d`
pub begins_diff : (P : Protocol) (d : SidesOf Term) (ds : List (SidesOf Term)) (rest : List ℕ) → front (things_text (one_text P) d ds rest) ≡ 100
begins_diff P d [] rest = refl
begins_diff P d (e ∷ es) rest = refl

-- behind hypotheses
abbrev pub behind_text : Protocol → List (SidesOf Term) → List ℕ → List ℕ
behind_text P [] rest = rest
behind_text P (d ∷ ds) rest = 44 ∷ 32 ∷ things_text (one_text P) d ds rest

pub diffs_there : (P : Protocol) → Sound (behind_text P) (AllByRecursion (AreSidesReadable P)) (read_diffs P)
diffs_there P bytes at ds p r e =
    chosen (front bytes == 44) (next (read_fixed (codes ", ") bytes at) (λ _ p r. things (one_diff P) r p)) (Found [] at bytes) ds p r (IsThere (behind_text P) (AllByRecursion (AreSidesReadable P)) bytes ds r) e
    (λ comma some.
    let mark = parts (read_fixed (codes ", ") bytes at) (λ _ p r. things (one_diff P) r p) ds p r some in
    let stands = fixed_there (codes ", ") bytes at mark.value mark.place mark.rest mark.first in
    let all = things_there (one_text P) (AreSidesReadable P) (one_diff P) (one_diff_there P) (length mark.rest) [] mark.rest mark.place ds p r mark.later in
    let there : IsThere (behind_text P) (AllByRecursion (AreSidesReadable P)) bytes (all.first ∷ all.others) r = record { text = stands ∙ ap (λ k. 44 ∷ 32 ∷ k) all.text; is = all.each } in
    subst (λ es. IsThere (behind_text P) (AllByRecursion (AreSidesReadable P)) bytes es r) (sym all.is) there)
    (λ no_comma none.
    let same : [] ≡ ds = cc in
    let rests : bytes ≡ r = cc in
    let there : IsThere (behind_text P) (AllByRecursion (AreSidesReadable P)) bytes [] r = record { text = rests; is = tt } in
    subst (λ es. IsThere (behind_text P) (AllByRecursion (AreSidesReadable P)) bytes es r) same there)

pub diffs_found : (P : Protocol) → HasNames P → (ds : List (SidesOf Term)) (rest : List ℕ) (at : ℕ) → AllByRecursion (AreSidesReadable P) ds → (front rest == 44) ≡ false → Finds (read_diffs P (behind_text P ds rest) at) ds rest
diffs_found P names [] rest at each stops =
    when_false (front rest == 44) (next (read_fixed (codes ", ") rest at) (λ _ p r. things (one_diff P) r p)) (Found [] at rest) [] rest stops record { place = at; is = refl }
diffs_found P names (d ∷ ds) rest at each stops =
    let behind = things_text (one_text P) d ds rest in
    joined (read_fixed (codes ", ") (44 ∷ 32 ∷ behind) at) (λ _ p r. things (one_diff P) r p) tt behind (d ∷ ds) rest (fixed_found (codes ", ") behind at) (λ p. some_diffs_found P names d ds rest p each stops)
