-- Reports: a reader of them tells their first fault.
use Rattle.std.proofs.Common.{◌≡◌, ◌≢◌, ℕ, zero, suc, ◌+◌, ◌≤◌, ◌==◌, ◌⊎◌, inl, inr, if◌then◌else◌, cond, Bool, not, true, false, List, [], ◌∷◌, ◌++◌, length, take, drop, codes, refl, sym, ◌∙◌, ap, subst, arith}
use Rattle.std.proofs.Math.Seq.{drop-length}
use Rattle.std.proofs.lemmas.List.{append-nil}
use Rattle.std.specs.Char.{is_ascii_digit}
use Rattle.std.specs.List.{prefix_len}
use Rattle.spec_calculus.specs.Syntax.{Protocol}
use Rattle.spec_certificates.specs.Certificate.{Certificate}
use Rattle.spec_certificate_text.specs.OfProtocol.{HasNames}
use Rattle.spec_certificate_text.specs.Terms.{Code, Syntax, Number, Symbol, Arity, Count, NodeOrder, NodeLarge}
use Rattle.spec_certificate_text.specs.Outcomes.{Outcome, Found, Faulty, next, front, ended, Reader, read_fixed, read_number}
use Rattle.spec_certificate_text.specs.Certificates.{read_certificate}
use Rattle.spec_certificate_text.specs.Reports.{Claim, Proved, Bare, Unknown, read_text, read_step, read_run, proof_by, read_unknown, read_attack, proved_by, verdict_by, claim_by, claims_by, claims_from}
use Rattle.spec_certificate_text.proofs.Parts.{other_byte, same_byte}
use Rattle.spec_certificate_text.specs.ReportText.{in_line}
use Rattle.spec_reading_faults.proofs.Shared.{Shares, IsLocal, choice_local}
use Rattle.spec_reading_faults.proofs.Parts.{same_local}
use Rattle.spec_reading_faults.proofs.Reports.{step_moves, attack_or_proof-local, verdict_local, claims_local}
use Rattle.spec_certificate_faults.specs.Grammar.{EndsAt}
use Rattle.spec_certificate_faults.specs.First.{Kind, code_number}
use Rattle.spec_first_faults.specs.Kinds.{fixed, runs, nothing_before, behind, one_of, marked}
use Rattle.spec_first_faults.specs.Numbers.{numbers}
use Rattle.spec_first_faults.specs.Clauses.{certificates}
use Rattle.spec_first_faults.specs.Reports.{reasons, step_lines, run_lines, BeginsNone, proofs_with, verdicts_with, OrderFault, claims_about_with, PastFault, AtEnd, anything_else, LeftFault, claims_with, reports}
use Rattle.spec_first_faults.proofs.Tells.{Anything, IsLast, GoesPastIt, Forms, Tells, mapped, mapped_tells, same_tells, tells_of, tells_before, tells_last}
use Rattle.spec_first_faults.proofs.Behind.{then_read, both_tell}
use Rattle.spec_first_faults.proofs.OneOf.{chosen, IsToldBy, told_by_fixed, told_alone, either_told, one_of_tells}
use Rattle.spec_first_faults.proofs.Small.{AreTests, fixed_tells, nothing_tells, run_read, runs_tell}
use Rattle.spec_first_faults.proofs.Closed.{behind_fixed}
use Rattle.spec_first_faults.proofs.Marked.{judged, checked, IsJudged, Judges, marked_tells}
use Rattle.spec_first_faults.proofs.Many.{AreLines, next_twice, behind_told, count_local, lines_tell}
use Rattle.spec_first_faults.proofs.Numbers.{run_long, digits_past, numbers_tell, number_found_so, number_of_digits, none_left}
use Rattle.spec_first_faults.proofs.Rows.{next_same}
use Rattle.spec_first_faults.proofs.Clauses.{begun_long, begun_within, any_follows, certificates_tell}

-- Reasons.

in_line-tests : AreTests in_line in_line
in_line-tests = record { passing = λ b e. e; first = 97; is_first = refl; stop = 10; is_stop = refl }

line_as : (at place : ℕ) (w rest : List ℕ) → read_fixed (codes "\n") rest place ≡ next (ended place rest (Found w place rest)) (λ v p k. read_fixed (codes "\n") k p)
unfolding read_fixed
line_as at place w [] = refl
line_as at place w (b ∷ rest) = refl

text_as : (bytes : List ℕ) (at : ℕ) → read_text bytes at ≡ then_read (run_read in_line in_line) (λ _ _. read_fixed (codes "\n")) bytes at
text_as [] at = let same : at ≡ at + 0 = omega arith in ap (λ p. Faulty p Syntax) same
text_as (b ∷ bytes) at = by (b == 10) (prefix_len in_line bytes)
  where
    by : (t : Bool) (n : ℕ) → (if cond (not t) (1 + n) 0 == 0 then Faulty at Syntax else read_fixed (codes "\n") (drop (cond (not t) (1 + n) 0) (b ∷ bytes)) (at + cond (not t) (1 + n) 0))
        ≡ next {A = List ℕ} {B = Unit {0}} (if not t then ended (at + cond (not t) (1 + n) 0) (drop (cond (not t) (1 + n) 0) (b ∷ bytes)) (Found (take (cond (not t) (1 + n) 0) (b ∷ bytes)) (at + cond (not t) (1 + n) 0) (drop (cond (not t) (1 + n) 0) (b ∷ bytes))) else Faulty at Syntax) (λ _ p k. read_fixed (codes "\n") k p)
    by true n = refl
    by false n = ap (λ t. if t then Faulty at Syntax else read_fixed (codes "\n") (drop (1 + n) (b ∷ bytes)) (at + (1 + n))) (none_left n) ∙ line_as at (at + (1 + n)) (take (1 + n) (b ∷ bytes)) (drop (1 + n) (b ∷ bytes))

reasons_tell : Tells ⊥ reasons Anything Anything read_text
reasons_tell =
    same_tells reasons Anything Anything read_text (then_read (run_read in_line in_line) (λ _ _. read_fixed (codes "\n"))) text_as
    (both_tell (runs in_line in_line) (fixed (codes "\n")) Anything Anything (EndsAt in_line) Anything (run_read in_line in_line) (λ _ _. read_fixed (codes "\n")) (runs_tell in_line in_line in_line-tests) (λ at w. fixed_tells (codes "\n"))
    (fixed_tells (codes "\n")).forms (λ bs rest text. subst (EndsAt in_line) (sym text) refl) (λ bs mid of text. tt))

-- The steps of a run, and `end`.

step_tells : Tells ⊥ step_lines Anything Anything read_step
step_tells = behind_fixed (codes "s ") reasons Anything (λ _ _. read_text) (λ at u. reasons_tell)

step_lines-are : AreLines step_lines (fixed (codes "end\n")) 115
step_lines-are = record {
  begins = told_by_fixed (codes "s ") reasons (λ bs. front bs == 115) true (λ rest. refl);
  ends = told_alone (codes "end\n") (λ bs. front bs == 115) false (λ rest. refl);
  letter_is = refl;
  long = begun_long 115 (32 ∷ []) reasons Anything reasons_tell.forms;
  within = begun_within 115 (32 ∷ []) reasons Anything reasons_tell.forms;
}

run_tells : Tells ⊥ run_lines Anything Anything read_run
run_tells =
    lines_tell step_lines (fixed (codes "end\n")) Anything Anything 115 read_step (λ us. read_fixed (codes "end\n")) step_tells step_moves step_lines-are (any_follows step_lines (fixed (codes "end\n")))
    (λ us. fixed_tells (codes "end\n"))

-- Where such a reader of certificates tells the first fault of such a kind, which is told by its first byte.

pub record ReadsProofs (K : Kind) (one : Reader Certificate) : Type 0 where
  pub tells : Tells ⊥ K Anything Anything one
  pub begins : IsToldBy K (λ bs. front bs == 99) true

proofs_tell : (K : Kind) (one : Reader Certificate) → ReadsProofs K one → Tells ⊥ (proofs_with K) Anything BeginsNone (proof_by one)
proofs_tell K one reads =
    let test = λ (bs : List ℕ). front bs == 99 in
    let L = nothing_before BeginsNone in
    let first = mapped_tells K Anything Anything one (λ c. Proved c) reads.tells in
    let second = nothing_tells {A = Claim} BeginsNone [] refl Bare in
    one_of_tells K L Anything BeginsNone test (mapped (λ c. Proved c) one) (λ bytes at. Found Bare at bytes)
    (tells_before K (λ bs. Anything bs × (test bs ≡ true)) Anything BeginsNone (mapped (λ c. Proved c) one) [] (λ other is. tt) refl (tells_of K Anything (λ bs. Anything bs × (test bs ≡ true)) Anything (mapped (λ c. Proved c) one) (λ bs of. tt) first))
    (tells_of L BeginsNone (λ bs. Anything bs × (test bs ≡ false)) BeginsNone (λ bytes at. Found Bare at bytes) (λ bs of. of.1) second)
    reads.begins
    record { texts = λ bytes rest text. ap test text.0 ∙ text.1; faults = λ code bytes there fault. absurd fault }
    (choice_local (λ b. b == 99) (mapped (λ c. Proved c) one) (λ bytes at. Found Bare at bytes) first.local second.local)

-- the claim of an attack, or that of a proof
attack_or_proof : Reader Certificate → Reader Claim
attack_or_proof one bytes at = if front (drop 1 bytes) == 97 then read_attack bytes at else proved_by one bytes at

attacks_tell : Tells ⊥ (behind (fixed (codes " attack\n")) run_lines) Anything Anything read_attack
attacks_tell = behind_fixed (codes " attack\n") run_lines Anything (λ _ _. mapped (λ (u : Unit {0}). Unknown) read_run) (λ at u. mapped_tells run_lines Anything Anything read_run (λ (u : Unit {0}). Unknown) run_tells)

attack_or_proof-tells : (K : Kind) (one : Reader Certificate) → ReadsProofs K one → Tells ⊥ (one_of (behind (fixed (codes " attack\n")) run_lines) (behind (fixed (codes " proved\n")) (proofs_with K))) Anything BeginsNone (attack_or_proof one)
unfolding attack_or_proof
attack_or_proof-tells N one reads =
    let test = λ (bs : List ℕ). front (drop 1 bs) == 97 in
    let K = behind (fixed (codes " attack\n")) run_lines in
    let L = behind (fixed (codes " proved\n")) (proofs_with N) in
    let second = behind_fixed (codes " proved\n") (proofs_with N) BeginsNone (λ _ _. proof_by one) (λ at u. proofs_tell N one reads) in
    one_of_tells K L Anything BeginsNone test read_attack (proved_by one)
    (tells_before K (λ bs. Anything bs × (test bs ≡ true)) Anything BeginsNone read_attack [] (λ other is. tt) refl (tells_of K Anything (λ bs. Anything bs × (test bs ≡ true)) Anything read_attack (λ bs of. tt) attacks_tell))
    (tells_of L Anything (λ bs. Anything bs × (test bs ≡ false)) BeginsNone (proved_by one) (λ bs of. tt) second)
    (told_by_fixed (codes " attack\n") run_lines test true (λ rest. refl)) (told_by_fixed (codes " proved\n") (proofs_with N) test false (λ rest. refl)) (attack_or_proof-local one reads.tells.local)

verdicts_tell : (K : Kind) (one : Reader Certificate) → ReadsProofs K one → Tells ⊥ (verdicts_with K) Anything BeginsNone (verdict_by one)
unfolding attack_or_proof
verdicts_tell N one reads =
    let test = λ (bs : List ℕ). front (drop 1 bs) == 117 in
    let K = behind (fixed (codes " unknown ")) reasons in
    let attacks = behind (fixed (codes " attack\n")) run_lines in
    let proofs = behind (fixed (codes " proved\n")) (proofs_with N) in
    let L = one_of attacks proofs in
    let first = behind_fixed (codes " unknown ") reasons Anything (λ _ _. mapped (λ (u : Unit {0}). Unknown) read_text) (λ at u. mapped_tells reasons Anything Anything read_text (λ (u : Unit {0}). Unknown) reasons_tell) in
    one_of_tells K L Anything BeginsNone test read_unknown (attack_or_proof one)
    (tells_before K (λ bs. Anything bs × (test bs ≡ true)) Anything BeginsNone read_unknown [] (λ other is. tt) refl (tells_of K Anything (λ bs. Anything bs × (test bs ≡ true)) Anything read_unknown (λ bs of. tt) first))
    (tells_of L Anything (λ bs. Anything bs × (test bs ≡ false)) BeginsNone (attack_or_proof one) (λ bs of. tt) (attack_or_proof-tells N one reads))
    (told_by_fixed (codes " unknown ") reasons test true (λ rest. refl))
    (either_told attacks proofs test false (told_by_fixed (codes " attack\n") run_lines test false (λ rest. refl)) (told_by_fixed (codes " proved\n") (proofs_with N) test false (λ rest. refl)))
    (verdict_local one reads.tells.local)

-- The number of a query.

abbrev in_order : Code ⊎ Unit {0}
in_order = inr tt

abbrev passed_over : ℕ → List ℕ → Outcome (Unit {0})
passed_over place rest = Found tt place rest

judge_order : ℕ → ℕ → Code ⊎ Unit {0}
judge_order number n = if n == number then in_order else inl Count

order_as : (number : ℕ) (bytes : List ℕ) (at : ℕ) → next (read_number bytes at) (λ n p k. if n == number then Found tt p k else Faulty at Count) ≡ checked (judge_order number) read_number bytes at
unfolding judge_order
order_as number bytes at = next_same (read_number bytes at) _ _ (λ n p k. by (n == number) p k)
  where
    by : (t : Bool) (p : ℕ) (k : List ℕ) → (if t then passed_over p k else Faulty at Count) ≡ judged (if t then in_order else inl Count) at p k
    by true p k = refl
    by false p k = refl

order_judged : (number n : ℕ) (code : Code) → judge_order number n ≡ inl code → (n ≢ number) × (code ≡ Count)
unfolding judge_order
order_judged number n code e = by (n == number) refl e
  where
    by : (t : Bool) → (n == number) ≡ t → (if t then in_order else inl Count) ≡ inl code → (n ≢ number) × (code ≡ Count)
    by true same told = absurd (cc)
    by false other told = let codes : Count ≡ code = cc in (λ same. let never : true ≡ false = sym (same_byte number) ∙ (ap (λ m. m == number) (sym same) ∙ other) in cc, sym codes)

order_judges : (number : ℕ) → Judges numbers Anything read_number (judge_order number) (OrderFault number)
unfolding judge_order
order_judges number = record {
  text_long = λ bytes rest text. run_long is_ascii_digit is_ascii_digit bytes rest text;
  judged_so = λ code bytes at of here. so code bytes at here;
  is_here = λ code bytes at place n rest of e so. there code bytes at place n rest e (order_judged number n code so);
  past = λ code bytes here. past_it code bytes here;
  other = λ bytes here. here;
  never = λ n code so e. let codes = (order_judged number n code so).1 in let never : Count ≡ Syntax = sym codes ∙ e in cc;
}
  where
    so : (code : Code) (bytes : List ℕ) (at : ℕ) → OrderFault number code bytes → IsJudged (judge_order number) (read_number bytes at) code
    so Count bytes at here =
        let found = number_found_so bytes here.rest at here.query here.digits here.short here.is in
        record { value = here.query; place = found.0; rest = here.rest; is = found.1; so = ap (λ t. if t then in_order else inl Count) (other_byte here.query number here.other) }
    so Syntax bytes at here = absurd here
    so Number bytes at here = absurd here
    so Symbol bytes at here = absurd here
    so Arity bytes at here = absurd here
    so NodeOrder bytes at here = absurd here
    so NodeLarge bytes at here = absurd here

    there : (code : Code) (bytes : List ℕ) (at place n : ℕ) (rest : List ℕ) → read_number bytes at ≡ Found n place rest → (n ≢ number) × (code ≡ Count) → OrderFault number code bytes
    there code bytes at place n rest e (other, codes) =
        let is = number_of_digits bytes at place n rest e in
        subst (λ c. OrderFault number c bytes) (sym codes) record { rest = rest; digits = is.digits; query = n; short = is.short; is = is.is; other = other }

    past_it : (code : Code) (bytes : List ℕ) → OrderFault number code bytes → GoesPastIt numbers bytes bytes
    past_it Count bytes here = digits_past bytes here.rest here.digits
    past_it Syntax bytes here = absurd here
    past_it Number bytes here = absurd here
    past_it Symbol bytes here = absurd here
    past_it Arity bytes here = absurd here
    past_it NodeOrder bytes here = absurd here
    past_it NodeLarge bytes here = absurd here

about_tells : (N : Kind) (one : Reader Certificate) → ReadsProofs N one → (number : ℕ) → Tells ⊥ (claims_about_with N number) Anything BeginsNone (claim_by one number)
about_tells N one reads number =
    let K = marked numbers (OrderFault number) in
    let numbered = checked (judge_order number) read_number in
    let first = marked_tells numbers Anything (EndsAt is_ascii_digit) read_number (judge_order number) (OrderFault number) numbers_tell (order_judges number) in
    same_tells (claims_about_with N number) Anything BeginsNone (claim_by one number) (then_read (read_fixed (codes "query ")) (λ _ _. then_read numbered (λ _ _. verdict_by one))) same
    (behind_fixed (codes "query ") (behind K (verdicts_with N)) BeginsNone (λ _ _. then_read numbered (λ _ _. verdict_by one))
    (λ at u. both_tell K (verdicts_with N) Anything Anything (EndsAt is_ascii_digit) BeginsNone numbered (λ _ _. verdict_by one) first (λ at u. verdicts_tell N one reads) (verdicts_tell N one reads).forms follows (λ bs mid of text. tt)))
  where
    follows : (bs rest : List ℕ) → (verdicts_with N).Text bs rest → EndsAt is_ascii_digit bs
    follows bs rest (inl (mid, text, more)) = subst (EndsAt is_ascii_digit) (sym text) refl
    follows bs rest (inr (inl (mid, text, more))) = subst (EndsAt is_ascii_digit) (sym text) refl
    follows bs rest (inr (inr (mid, text, more))) = subst (EndsAt is_ascii_digit) (sym text) refl

    same : (bytes : List ℕ) (at : ℕ) → claim_by one number bytes at ≡ then_read (read_fixed (codes "query ")) (λ _ _. then_read (checked (judge_order number) read_number) (λ _ _. verdict_by one)) bytes at
    same bytes at =
        next_twice (read_fixed (codes "query ") bytes at) (λ _ from r. next (read_number r from) (λ n p k. if n == number then Found tt p k else Faulty from Count)) (λ _ p k. verdict_by one k p)
        ∙ next_same (read_fixed (codes "query ") bytes at) _ _ (λ u from r. ap (λ o. next o (λ _ p k. verdict_by one k p)) (order_as number r from))

-- A query past the last.

judge_past : ℕ → Code ⊎ Unit {0}
judge_past n = inl Count

past_judges : Judges numbers Anything read_number judge_past PastFault
unfolding judge_past
past_judges = record {
  text_long = λ bytes rest text. run_long is_ascii_digit is_ascii_digit bytes rest text;
  judged_so = λ code bytes at of here. so code bytes at here;
  is_here = λ code bytes at place n rest of e so. let codes : Count ≡ code = cc in there code bytes at place n rest e codes;
  past = λ code bytes here. past_it code bytes here;
  other = λ bytes here. here;
  never = λ n code so e. let codes : Count ≡ code = cc in let never : Count ≡ Syntax = codes ∙ e in cc;
}
  where
    so : (code : Code) (bytes : List ℕ) (at : ℕ) → PastFault code bytes → IsJudged judge_past (read_number bytes at) code
    so Count bytes at here =
        let found = number_found_so bytes here.rest at here.query here.digits here.short here.is in
        record { value = here.query; place = found.0; rest = here.rest; is = found.1; so = refl }
    so Syntax bytes at here = absurd here
    so Number bytes at here = absurd here
    so Symbol bytes at here = absurd here
    so Arity bytes at here = absurd here
    so NodeOrder bytes at here = absurd here
    so NodeLarge bytes at here = absurd here

    there : (code : Code) (bytes : List ℕ) (at place n : ℕ) (rest : List ℕ) → read_number bytes at ≡ Found n place rest → Count ≡ code → PastFault code bytes
    there code bytes at place n rest e codes =
        let is = number_of_digits bytes at place n rest e in
        subst (λ c. PastFault c bytes) codes record { rest = rest; digits = is.digits; query = n; short = is.short; is = is.is }

    past_it : (code : Code) (bytes : List ℕ) → PastFault code bytes → GoesPastIt numbers bytes bytes
    past_it Count bytes here = digits_past bytes here.rest here.digits
    past_it Syntax bytes here = absurd here
    past_it Number bytes here = absurd here
    past_it Symbol bytes here = absurd here
    past_it Arity bytes here = absurd here
    past_it NodeOrder bytes here = absurd here
    past_it NodeLarge bytes here = absurd here

-- What stands behind it.

to_end : List Claim → Reader (List Claim)
to_end claims bytes at = Found claims (at + length bytes) []

shares_long : (n : ℕ) (bytes others : List ℕ) → Shares n bytes others → n + 1 ≤ length bytes
unfolding Shares
shares_long n [] others shares = absurd shares
shares_long n (b ∷ bytes) [] shares = absurd shares
shares_long zero (b ∷ bytes) (c ∷ others) shares = omega arith
shares_long (suc n) (b ∷ bytes) (c ∷ others) shares = omega (arith, shares_long n bytes others shares.1)

to_end-local : (claims : List Claim) → IsLocal (to_end claims)
unfolding to_end
to_end-local claims = record {
  fault = λ bytes others at n place shares there e. absurd (cc);
  found = λ bytes others at n place x rest shares there e. let places : at + length bytes ≡ place = cc in absurd (omega (arith, places, there, shares_long n bytes others shares));
  passed = λ bytes at place x rest e.
      let places : at + length bytes ≡ place = cc in
      let rests : [] ≡ rest = cc in
      record { count = length bytes; there = sym places; is = sym rests ∙ sym (drop-length bytes) };
  later = λ bytes at place e. absurd (cc);
}

anything_else-tells : (claims : List Claim) → Tells IsLast anything_else (EndsAt is_ascii_digit) AtEnd (to_end claims)
unfolding to_end
anything_else-tells claims = record {
  forms = record {
    moved = λ bytes rest text. record { front = bytes; text = sym (append-nil bytes) ∙ ap (λ k. bytes ++ k) (sym text.1); each = λ other may. (subst (λ k. EndsAt is_ascii_digit (bytes ++ k)) (sym may) (subst (EndsAt is_ascii_digit) (sym (append-nil bytes)) text.0), may) };
    some = record { front = 32 ∷ []; each = λ other may. (refl, may); follows = []; may = refl };
    past = λ code bytes there fault. absurd fault;
    other_codes = λ bytes there fault. fault;
  };
  local = to_end-local claims;
  found = λ bytes at place x rest of e. let rests : [] ≡ rest = cc in (of, sym rests);
  counted = λ bytes at place x rest of e.
      let places : at + length bytes ≡ place = cc in
      let rests : [] ≡ rest = cc in
      omega (arith, places, ap length rests);
  right = λ bytes at place code of e. absurd (cc);
  texts = λ bytes rest at of text. inl record { value = claims; place = at + length bytes; is = ap (Found claims (at + length bytes)) (sym text.1) };
  told = λ code bytes there at of fault. absurd fault;
}

-- No query is left.

is_some : List ℕ → Bool
is_some [] = false
is_some (b ∷ bytes) = true

begun_some : (w : ℕ) (ws rest : List ℕ) → is_some ((w ∷ ws) ++ rest) ≡ true
unfolding is_some
begun_some w ws rest = refl

none_some : (bytes rest : List ℕ) → bytes ≡ rest → AtEnd rest → is_some bytes ≡ false
unfolding is_some
none_some bytes rest same none = ap is_some (same ∙ none)

at_end : (bytes : List ℕ) → is_some bytes ≡ false → AtEnd bytes
unfolding is_some
at_end [] is = refl
at_end (b ∷ bytes) is = absurd (cc)

abbrev further_query : List Claim → Reader (List Claim)
further_query claims = then_read (read_fixed (codes "query ")) (λ _ _. then_read (checked judge_past read_number) (λ _ _. to_end claims))

further_tells : (claims : List Claim) → Tells IsLast (behind (fixed (codes "query ")) (behind (marked numbers PastFault) anything_else)) Anything AtEnd (further_query claims)
further_tells claims =
    let K = marked numbers PastFault in
    behind_fixed (codes "query ") (behind K anything_else) AtEnd (λ _ _. then_read (checked judge_past read_number) (λ _ _. to_end claims))
    (λ at u. both_tell K anything_else Anything (EndsAt is_ascii_digit) (EndsAt is_ascii_digit) AtEnd (checked judge_past read_number) (λ _ _. to_end claims)
    (marked_tells numbers Anything (EndsAt is_ascii_digit) read_number judge_past PastFault numbers_tell past_judges) (λ at u. anything_else-tells claims) (anything_else-tells claims).forms (λ bs rest text. text.0) (λ bs mid of text. text.ends))

claims_end : (one : Reader Certificate) (number : ℕ) (claims : List Claim) (bytes : List ℕ) (at : ℕ) → claims_by one 0 number claims bytes at ≡ chosen is_some (further_query claims) (λ bs p. Found claims p bs) bytes at
unfolding claims_by is_some judge_past
claims_end one number claims [] at = refl
claims_end one number claims (b ∷ bytes) at = next_same (read_fixed (codes "query ") (b ∷ bytes) at) _ _ (λ u from r. sym (next_twice (read_number r from) (λ n p k. judged (judge_past n) from p k) (λ x p k. to_end claims k p)))

-- Some are left.

left_here : (code : Code) (bytes there : List ℕ) → (marked (nothing_before AtEnd) LeftFault).Fault code bytes there → (code ≡ Count) × (AtEnd bytes × (there ≡ bytes))
left_here code bytes there (inl none) = absurd none
left_here Count bytes there (inr (here, none)) = (refl, (none, here))
left_here Syntax bytes there (inr (here, none)) = absurd none
left_here Number bytes there (inr (here, none)) = absurd none
left_here Symbol bytes there (inr (here, none)) = absurd none
left_here Arity bytes there (inr (here, none)) = absurd none
left_here NodeOrder bytes there (inr (here, none)) = absurd none
left_here NodeLarge bytes there (inr (here, none)) = absurd none

left_forms : Forms IsLast (marked (nothing_before AtEnd) LeftFault) AtEnd
left_forms = record {
  moved = λ bytes rest text. record { front = []; text = text.0; each = λ other may. (refl, may) };
  some = record { front = []; each = λ other may. (refl, may); follows = []; may = refl };
  past = λ code bytes there fault.
      let here = left_here code bytes there fault in
      inr (tt, record { none = here.1.1 ∙ here.1.0; rest = []; is = (here.1.0, refl) });
  other_codes = λ bytes there fault. let never = (left_here Syntax bytes there fault).0 in absurd (cc);
}

left_tells : Tells {A = List Claim} IsLast (marked (nothing_before AtEnd) LeftFault) (λ bytes. Anything bytes × (is_some bytes ≡ false)) AtEnd (λ bytes at. Faulty at Count)
left_tells = record {
  forms = left_forms;
  local = count_local;
  found = λ bytes at place x rest of e. absurd (cc);
  counted = λ bytes at place x rest of e. absurd (cc);
  right = λ bytes at place code of e.
      let places : at ≡ place = cc in
      let codes : Count ≡ code = cc in
      inr record { there = bytes; is = inr (refl, subst (λ c. LeftFault c bytes) codes (at_end bytes of.1)); counted = omega (arith, places) };
  texts = λ bytes rest at of text. inr record { place = at; code = Count; is = refl; early = inr (tt, omega (arith, ap length text.0)); other = λ e. cc };
  told = λ code bytes there at of fault.
      let here = left_here code bytes there fault in
      record { place = at; told = Count; is = refl; not_after = inr (omega (arith, ap length here.1.1), omega (arith, ap code_number here.0)) };
}

claims_more : (one : Reader Certificate) (left number : ℕ) (claims : List Claim) (bytes : List ℕ) (at : ℕ)
    → claims_by one (suc left) number claims bytes at ≡ chosen is_some (then_read (claim_by one number) (λ at c. claims_by one left (number + 1) (claims ++ c ∷ []))) (λ bs p. Faulty p Count) bytes at
unfolding claims_by is_some
claims_more one left number claims [] at = refl
claims_more one left number claims (b ∷ bytes) at = refl

claims_begin : (K : Kind) (left number : ℕ) (bytes rest : List ℕ) → (claims_with K left number).Text bytes rest → BeginsNone bytes
claims_begin K zero number bytes rest (inl (mid, text, more)) = ap (λ bs. front bs == 99) text
claims_begin K zero number bytes rest (inr (same, none)) = ap (λ bs. front bs == 99) (same ∙ none)
claims_begin K (suc left) number bytes rest (inl (mid, (inner, text, more), others)) = ap (λ bs. front bs == 99) text
claims_begin K (suc left) number bytes rest (inr (same, none)) = ap (λ bs. front bs == 99) (same ∙ none)

ends_told : IsToldBy (nothing_before AtEnd) is_some false
ends_told = record { texts = λ bytes rest text. none_some bytes rest text.0 text.1; faults = λ code bytes there fault. absurd fault }

left_told : IsToldBy (marked (nothing_before AtEnd) LeftFault) is_some false
left_told = record {
  texts = λ bytes rest text. none_some bytes rest text.0 text.1;
  faults = λ code bytes there fault. none_some bytes bytes refl (left_here code bytes there fault).1.0;
}

pub claims_tell : (N : Kind) (one : Reader Certificate) → ReadsProofs N one → (left number : ℕ) (claims : List Claim) → Tells IsLast (claims_with N left number) Anything AtEnd (claims_by one left number claims)
claims_tell N one reads zero number claims =
    let K = behind (fixed (codes "query ")) (behind (marked numbers PastFault) anything_else) in
    let L = nothing_before AtEnd in
    let ends = λ (bs : List ℕ) (p : ℕ). Found claims p bs in
    same_tells (one_of K L) Anything AtEnd (claims_by one 0 number claims) (chosen is_some (further_query claims) (λ bs p. Found claims p bs)) (claims_end one number claims)
    (one_of_tells K L Anything AtEnd is_some (further_query claims) (λ bs p. Found claims p bs)
    (tells_of K Anything (λ bs. Anything bs × (is_some bs ≡ true)) AtEnd (further_query claims) (λ bs of. tt) (further_tells claims))
    (tells_of L AtEnd (λ bs. Anything bs × (is_some bs ≡ false)) AtEnd (λ bs p. Found claims p bs) (λ bs of. at_end bs of.1) (tells_last IsLast L AtEnd AtEnd (λ bs p. Found claims p bs) (nothing_tells AtEnd [] refl claims)))
    (told_by_fixed (codes "query ") (behind (marked numbers PastFault) anything_else) is_some true (λ rest. begun_some 113 (codes "uery ") rest)) ends_told
    (same_local (chosen is_some (further_query claims) (λ bs p. Found claims p bs)) (claims_by one 0 number claims) (λ bs p. sym (claims_end one number claims bs p)) (claims_local one reads.tells.local 0 number claims)))
claims_tell N one reads (suc left) number claims =
    let later = claims_with N left (number + 1) in
    let K = behind (claims_about_with N number) later in
    let L = marked (nothing_before AtEnd) LeftFault in
    let goes = then_read (claim_by one number) (λ at c. claims_by one left (number + 1) (claims ++ c ∷ [])) in
    same_tells (one_of K L) Anything AtEnd (claims_by one (suc left) number claims) (chosen is_some goes (λ bs p. Faulty p Count)) (claims_more one left number claims)
    (one_of_tells K L Anything AtEnd is_some goes (λ bs p. Faulty p Count)
    (tells_of K Anything (λ bs. Anything bs × (is_some bs ≡ true)) AtEnd goes (λ bs of. tt)
    (both_tell (claims_about_with N number) later Anything Anything BeginsNone AtEnd (claim_by one number) (λ at c. claims_by one left (number + 1) (claims ++ c ∷ [])) (about_tells N one reads number)
    (λ at c. claims_tell N one reads left (number + 1) (claims ++ c ∷ [])) (claims_tell N one reads left (number + 1) []).forms (claims_begin N left (number + 1)) (λ bs mid of text. tt)))
    left_tells
    (behind_told (claims_about_with N number) later is_some true (told_by_fixed (codes "query ") (behind (marked numbers (OrderFault number)) (verdicts_with N)) is_some true (λ rest. begun_some 113 (codes "uery ") rest))) left_told
    (same_local (chosen is_some goes (λ bs p. Faulty p Count)) (claims_by one (suc left) number claims) (λ bs p. sym (claims_more one left number claims bs p)) (claims_local one reads.tells.local (suc left) number claims)))

pub report_tells : (P : Protocol) → HasNames P → Tells IsLast (reports P) Anything AtEnd (claims_from P (length P.queries) 1 [])
report_tells P names =
    claims_tell (certificates P) (read_certificate P) record { tells = certificates_tell P names; begins = told_by_fixed (codes "cert 1\n") _ (λ bs. front bs == 99) true (λ rest. refl) } (length P.queries) 1 []
