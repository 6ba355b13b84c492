-- What is read last leads nowhere: of a kind behind lines the state that it leads to does not count for texts and faults.
use Rattle.std.proofs.Common.{◌≡◌, inl, inr, ℕ, List, refl, sym}
use Rattle.spec_certificate_text.specs.Terms.{Code}
use Rattle.spec_certificate_text.specs.Outcomes.{Reader}
use Rattle.spec_certificate_faults.proofs.Comes.{either}
use Rattle.spec_first_faults.proofs.Tells.{Forms, Tells, IsSameKind}
use Rattle.spec_node_reading.specs.Kinds.{KindIn, in_state, FaultThrough, in_last, in_one, later, many, at_most}
use Rattle.spec_node_first_faults.proofs.InState.{FormsIn, TellsIn}

-- the kind, whose texts all lead to one state
abbrev pub ending : {S : Type 0} → KindIn S → S → KindIn S
ending L e = record { Text = L.Text; Leads = λ s bytes rest t. L.Text bytes rest × (t ≡ e); Fault = L.Fault }

pub ending_forms : {S : Type 0} (L : KindIn S) (e : S) (May : List ℕ → Type 0) → ((s : S) → Forms ⊥ (in_state L s) May) → FormsIn (ending L e) May
ending_forms L e May forms = record { each = forms; text = λ s bytes rest t leads. leads.0 }

pub ending_tells : {S A : Type 0} (L : KindIn S) (e s : S) (Of May : List ℕ → Type 0) (r : Reader A) → Tells ⊥ (in_state L s) Of May r → TellsIn (ending L e) s Of May (λ x. e) r
ending_tells L e s Of May r tells = record {
  tells = tells;
  leads = λ bytes at place x rest of told. (tells.found bytes at place x rest of told, refl);
  read = λ t bytes rest at of leads. either (tells.texts bytes rest at of leads.0)
      (λ finds. inl record { value = finds.value; place = finds.place; is = finds.is; so = sym leads.1 })
      (λ stops. inr stops);
}

module _ {S : Type 0} (K L : KindIn S) (e : S) where
  fault_to : (code : Code) (s : S) (bytes there : List ℕ) → FaultThrough K (ending L e) code s bytes there → FaultThrough K L code s bytes there
  fault_to code s bytes there (in_last fault) = in_last fault
  fault_to code s bytes there (in_one fault) = in_one fault
  fault_to code s bytes there (later mid t leads fault) = later mid t leads (fault_to code t mid there fault)

  fault_back : (code : Code) (s : S) (bytes there : List ℕ) → FaultThrough K L code s bytes there → FaultThrough K (ending L e) code s bytes there
  fault_back code s bytes there (in_last fault) = in_last fault
  fault_back code s bytes there (in_one fault) = in_one fault
  fault_back code s bytes there (later mid t leads fault) = later mid t leads (fault_back code t mid there fault)

  pub many_ends : (s : S) → IsSameKind (in_state (many K (ending L e)) s) (in_state (many K L) s)
  many_ends s = record {
    text = λ bytes rest text. text;
    text_back = λ bytes rest text. text;
    fault = λ code bytes there fault. fault_to code s bytes there fault;
    fault_back = λ code bytes there fault. fault_back code s bytes there fault;
  }

  pub at_most_ends : (most letter : ℕ) (s : S) → IsSameKind (in_state (at_most most letter K (ending L e)) s) (in_state (at_most most letter K L) s)
  at_most_ends most letter s = record {
    text = λ bytes rest text. text;
    text_back = λ bytes rest text. text;
    fault = λ code bytes there fault. either fault (λ k. inl (fault_to code s bytes there k)) (λ over. inr over);
    fault_back = λ code bytes there fault. either fault (λ k. inl (fault_back code s bytes there k)) (λ over. inr over);
  }
