-- The text of a term is put part by part.
use Rattle.std.proofs.Common.{◌≡◌, ℕ, zero, suc, ◌+◌, ◌<◌, ◌≤◌, Bool, List, [], ◌∷◌, ◌++◌, length, map, get_or, refl, sym, ◌∙◌, ap, subst, arith}
use Rattle.spec_trees.specs.Tree.{node, trees, depth, depths}
use Rattle.spec_calculus.specs.Syntax.{Protocol}
use Rattle.spec_terms.specs.Term.{Sym, Ctor, Data, Tuple, Free, Point, Attacker, Term}
use Rattle.term_tree.specs.declared.bank.Sym as declared
use Rattle.term_tree.specs.Bank.{symbol_of}
use Rattle.clause_diffs.specs.declared.plain.Tree.{Tree}
use Rattle.clause_diffs.specs.declared.plain.Tree.TheVariants.{App}
use Rattle.clause_form.specs.Plain.{term_of}
use Rattle.spec_certificate_text.specs.Loose.{row}
use Rattle.spec_certificate_text.specs.Written.{written_row}
use Rattle.spec_certificate_text.specs.Text.{term_text}
use Rattle.cert_form.specs.Appends.{Appends}
use Rattle.cert_form.specs.Parts.{is_alone, symbol_opening, symbol_closing, comma_at}
use Rattle.cert_form.specs.Remaining.{HasPut, arguments_from}
use Rattle.cert_form.proofs.Items.{then, nothing, GoesOn, one_more, all_put}

depth_at : (items : List Tree) (n : ℕ) (x : Tree) → n < length items → x ≡ get_or items n x → depth (term_of x) ≤ depths (trees (map term_of items))
depth_at [] n x below is = absurd (omega arith)
depth_at (y ∷ ys) zero x below is = omega (arith, ap (λ z. depth (term_of z)) is)
depth_at (y ∷ ys) (suc n) x below is = omega (arith, depth_at ys n x (omega arith) is)

-- an argument is not so deep as its term
pub argument_at : (tree : Tree) (f : declared.Sym) (ts : List Term) (items : List Tree) (n : ℕ) (x : Tree) → tree ≡ App f ts → map term_of items ≡ ts → n < length items → x ≡ get_or items n x → depth (term_of x) < depth (term_of tree)
argument_at tree f ts items n x node_is are below is =
    let root : term_of tree ≡ node (symbol_of f) (map term_of items) = ap term_of node_is ∙ ap (node (symbol_of f)) (sym are) in
    let deep : depth (term_of tree) ≡ 1 + depths (trees (map term_of items)) = ap depth root in
    omega (arith, deep, depth_at items n x below is)

-- the text of an argument of that place
argument_text : Protocol → ℕ → Term → List ℕ → List ℕ
argument_text P n t rest = comma_at n (term_text P t rest)

arguments_go_on : (P : Protocol) → GoesOn (arguments_from P) (argument_text P)
unfolding argument_text
arguments_go_on P = record { is = λ n t ts rest. cases n t ts rest }
  where
    cases : (n : ℕ) (t : Term) (ts : List Term) (rest : List ℕ) → arguments_from P n (t ∷ ts) rest ≡ comma_at n (term_text P t (arguments_from P (suc n) ts rest))
    cases zero t ts rest = refl
    cases (suc n) t ts rest = refl

-- one more argument was put
pub argument_put : (P : Protocol) (ts : List Term) (items : List Tree) (n : ℕ) (x : Tree) (start before middle after : List ℕ) → map term_of items ≡ ts → HasPut (arguments_from P) n ts start before → n < length items → x ≡ get_or items n x → Appends (comma_at n) before middle → Appends (term_text P (term_of x)) middle after → HasPut (arguments_from P) (n + 1) ts start after
unfolding argument_text
argument_put P ts items n x start before middle after are has below is comma text =
    one_more term_of (arguments_from P) (argument_text P) (arguments_go_on P) ts items n x start before after are has below is (then (comma_at n) (term_text P (term_of x)) before middle after comma text)

-- all arguments were put
pub arguments_put : (P : Protocol) (ts : List Term) (items : List Tree) (n : ℕ) (start after : List ℕ) → map term_of items ≡ ts → HasPut (arguments_from P) n ts start after → length items ≤ n → Appends (row (written_row P (trees ts))) start after
arguments_put P ts items n start after are has past = all_put term_of (arguments_from P) (λ m rest. rest) ends ts items n start after after are has past (nothing after)
  where
    ends : (m : ℕ) (rest : List ℕ) → arguments_from P m [] rest ≡ rest
    ends zero rest = refl
    ends (suc m) rest = refl

-- the text of a symbol over arguments is what stands before them, their row, and what stands behind them
headed_text : (P : Protocol) (f : Sym) (ts : List Term) (rest : List ℕ) → term_text P (node f ts) rest ≡ symbol_opening P f (is_alone ts) (row (written_row P (trees ts)) (symbol_closing f (is_alone ts) rest))
headed_text P (Ctor f) [] rest = refl
headed_text P (Ctor f) (t ∷ ts) rest = refl
headed_text P (Data f) [] rest = refl
headed_text P (Data f) (t ∷ ts) rest = refl
headed_text P (Tuple n) [] rest = refl
headed_text P (Tuple n) (t ∷ ts) rest = refl
headed_text P (Free a) [] rest = refl
headed_text P (Free a) (t ∷ ts) rest = refl
headed_text P (Point p) [] rest = refl
headed_text P (Point p) (t ∷ ts) rest = refl
headed_text P Attacker [] rest = refl
headed_text P Attacker (t ∷ ts) rest = refl

-- a symbol over its arguments was put
symbol_put : (P : Protocol) (f : Sym) (ts : List Term) (start opened listed after : List ℕ) → Appends (symbol_opening P f (is_alone ts)) start opened → Appends (row (written_row P (trees ts))) opened listed → Appends (symbol_closing f (is_alone ts)) listed after → Appends (term_text P (node f ts)) start after
symbol_put P f ts start opened listed after opening arguments closing = record {
  is = λ rest.
      let end = symbol_closing f (is_alone ts) rest in
      closing.is rest ∙ (arguments.is end ∙ (opening.is (row (written_row P (trees ts)) end) ∙ ap (λ bytes. start ++ bytes) (sym (headed_text P f ts rest))));
}

-- a term was put: a symbol over its arguments
pub term_put : (P : Protocol) (tree : Tree) (f : declared.Sym) (ts : List Term) (items : List Tree) (alone : Bool) (n : ℕ) (start opened listed after : List ℕ) → tree ≡ App f ts → map term_of items ≡ ts → alone ≡ is_alone ts → Appends (symbol_opening P (symbol_of f) alone) start opened → HasPut (arguments_from P) n ts opened listed → length items ≤ n → Appends (symbol_closing (symbol_of f) alone) listed after → Appends (term_text P (term_of tree)) start after
term_put P tree f ts items alone n start opened listed after node_is are is opening has past closing =
    let opened_so = subst (λ b. Appends (symbol_opening P (symbol_of f) b) start opened) is opening in
    let closed_so = subst (λ b. Appends (symbol_closing (symbol_of f) b) listed after) is closing in
    subst (λ t. Appends (term_text P t) start after) (sym (ap term_of node_is)) (symbol_put P (symbol_of f) ts start opened listed after opened_so (arguments_put P ts items n opened listed are has past) closed_so)
