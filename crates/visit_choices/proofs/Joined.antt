-- Terms of a bank, one list behind another.
use Rattle.std.proofs.Common.{List, [], ◌∷◌, ◌++◌, ◌∙◌}
use Rattle.std.proofs.lemmas.List.{map-append}
use Rattle.spec_terms.specs.Term.{Term}
use Rattle.term_tree.specs.Bank.{tree_at, AreKnown}
use Rattle.term_tree.specs.declared.bank.Id.{Id}
use Rattle.clause_form.specs.Seen.{NameTerms}

known_append : (all : List Term) (xs ys : List Id) → AreKnown all xs → AreKnown all ys → AreKnown all (xs ++ ys)
known_append all [] ys known more = more
known_append all (x ∷ xs) ys known more = (known.0, known_append all xs ys known.1 more)

pub terms_append : (all : List Term) (xs ys : List Id) (ts us : List Term) → NameTerms all xs ts → NameTerms all ys us → NameTerms all (xs ++ ys) (ts ++ us)
terms_append all xs ys ts us names more = record {
  known = known_append all xs ys names.known more.known;
  are = map-append (tree_at all) xs ys ∙ (λ i. names.are i ++ more.are i);
}
