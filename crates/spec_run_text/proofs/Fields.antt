-- Fields and lines: a text is its pieces with the separators between them.
use Rattle.std.proofs.Common.{◌≡◌, ℕ, suc, ◌+◌, Bool, true, false, List, [], ◌∷◌, ◌++◌, map, take, refl, sym, ◌∙◌, ap, arith, append-nil}
use Rattle.std.specs.Prelude.{◌==◌, not}
use Rattle.std.specs.List.{AllByRecursion, concat, prefix_len}
use Rattle.std.proofs.lemmas.Bool.{eqb-true}
use Rattle.spec_run_text.specs.Lines.{fields}
use Rattle.spec_run_text.specs.Faults.{first_word}

-- fields behind a first one, each behind a space
abbrev pub joined : List (List ℕ) → List ℕ
joined fs = concat (map (λ f. 32 ∷ f) fs)

-- no byte is that one
abbrev pub Lacks : ℕ → List ℕ → Type 0
Lacks b xs = AllByRecursion (λ x. (x == b) ≡ false) xs

-- the parts of a line: its first word, and the fields behind it
pub record IsCut (line first : List ℕ) (others : List (List ℕ)) : Type 0 where
  pub cut : fields line ≡ first ∷ others
  pub whole : line ≡ first ++ joined others
  pub front : first ≡ first_word line

pub record Cut (line : List ℕ) : Type 0 where
  pub first : List ℕ
  pub others : List (List ℕ)
  pub is : IsCut line first others

pub take_more : (n b : ℕ) (bytes : List ℕ) → take (1 + n) (b ∷ bytes) ≡ b ∷ take n bytes
take_more n b bytes = let e : 1 + n ≡ suc n = omega arith in rw e

cut_by : (b : ℕ) (bytes : List ℕ) (test : Bool) → (b == 32) ≡ test → Cut bytes → Cut (b ∷ bytes)
cut_by b bytes true here later = record {
  first = [];
  others = later.first ∷ later.others;
  is = record {
    cut = rw (here, later.is.cut);
    whole = let e = eqb-true b 32 here in (λ i. e i ∷ later.is.whole i);
    front = rw here;
  };
}
cut_by b bytes false here later = record {
  first = b ∷ later.first;
  others = later.others;
  is = record {
    cut = rw (here, later.is.cut);
    whole = ap (λ xs. b ∷ xs) later.is.whole;
    front = ap (λ xs. b ∷ xs) later.is.front ∙ rw here (sym (take_more (prefix_len (λ x. not (x == 32)) bytes) b bytes));
  };
}

-- each line has these parts
pub cut_line : (line : List ℕ) → Cut line
cut_line [] = record { first = []; others = []; is = record { cut = refl; whole = refl; front = refl } }
cut_line (b ∷ bytes) = cut_by b bytes (b == 32) refl (cut_line bytes)

-- a front without separator stands at the front of the first field
fields-front : (front rest first : List ℕ) (others : List (List ℕ)) → Lacks 32 front → fields rest ≡ first ∷ others → fields (front ++ rest) ≡ (front ++ first) ∷ others
fields-front [] rest first others lacks e = e
fields-front (b ∷ front) rest first others lacks e = rw (lacks.0, fields-front front rest first others lacks.1 e)

-- what stands behind the first field is cut into its fields
fields-behind : (others : List (List ℕ)) → AllByRecursion (Lacks 32) others → fields (joined others) ≡ [] ∷ others
fields-behind [] lacks = refl
fields-behind (f ∷ fs) lacks =
    ap (λ gs. [] ∷ gs) (fields-front f (joined fs) [] fs lacks.0 (fields-behind fs lacks.1) ∙ ap (λ g. g ∷ fs) (append-nil f))

-- and so fields without a space, with a space between each two, are cut into these fields
pub fields-joined : (first : List ℕ) (others : List (List ℕ)) → Lacks 32 first → AllByRecursion (Lacks 32) others → fields (first ++ joined others) ≡ first ∷ others
fields-joined first others lacks all_lack =
    fields-front first (joined others) [] others lacks (fields-behind others all_lack) ∙ ap (λ g. g ∷ others) (append-nil first)
