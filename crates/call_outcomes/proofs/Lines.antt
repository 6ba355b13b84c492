-- Lines that are put one behind the other.
use Rattle.std.proofs.Common.{◌≡◌, ℕ, ◌+◌, ◌<◌, ◌≤◌, List, ◌∷◌, [], ◌++◌, length, drop, get_or, codes, decimal, ap, sym, ◌∙◌, append_assoc}
use Rattle.std.proofs.lemmas.List.{append-nil, drop_more, drop_all}
use Rattle.spec_calculus.specs.Syntax.{Protocol}
use Rattle.spec_terms.specs.Term.{Term}
use Rattle.spec_clauses.specs.Fact.{Clause}
use Rattle.spec_certificate_text.specs.Text.{clause_text}
use Rattle.call_outcomes.specs.VerdictText.{line}
use Rattle.call_outcomes.proofs.Puts.{two_put, ended_put}
use Rattle.call_outcomes.specs.Text.{clause_lines}

-- words behind the number of a query, and then the line's end
pub line_put : (number : ℕ) (start one two three words : List ℕ) → one ≡ start ++ (codes "query " ++ decimal number ++ codes " ") → two ≡ one ++ words → three ≡ two ++ codes "\n"
    → three ≡ start ++ line (codes "query " ++ decimal number ++ codes " " ++ words)
line_put number start one two three words first second third =
    simp append_assoc (simp append_assoc at (ended_put start one two three (codes "query " ++ decimal number ++ codes " ") words first second third))

-- one more line of clauses, and those of all
pub clause_put : (P : Protocol) (cs : List (Clause Term)) (i : ℕ) (d : Clause Term) (start before put after : List ℕ) → before ++ clause_lines P (drop i cs) ≡ start ++ clause_lines P cs → i < length cs → d ≡ get_or cs i d → put ≡ before ++ clause_text P d [] → after ≡ put ++ codes "\n"
    → after ++ clause_lines P (drop (i + 1) cs) ≡ start ++ clause_lines P cs
clause_put P cs i d start before put after was within is text ended =
    let rest = clause_lines P (drop (i + 1) cs) in
    let here : drop i cs ≡ d ∷ drop (i + 1) cs = drop_more cs i d within ∙ ap (λ (c : Clause Term). c ∷ drop (i + 1) cs) (sym is) in
    let bytes : after ≡ before ++ line (clause_text P d []) = two_put before put after (clause_text P d []) (codes "\n") text ended in
    ap (λ l. l ++ rest) bytes ∙ (append_assoc before (line (clause_text P d [])) rest ∙ (ap (λ (ds : List (Clause Term)). before ++ clause_lines P ds) (sym here) ∙ was))

pub clauses_put : (P : Protocol) (cs all : List (Clause Term)) (i : ℕ) (start now : List ℕ) → cs ≡ all → now ++ clause_lines P (drop i cs) ≡ start ++ clause_lines P cs → length cs ≤ i → now ≡ start ++ clause_lines P all
clauses_put P cs all i start now are was past =
    sym (append-nil now) ∙ (ap (λ (ds : List (Clause Term)). now ++ clause_lines P ds) (sym (drop_all i cs past)) ∙ (was ∙ ap (λ (ds : List (Clause Term)). start ++ clause_lines P ds) are))
