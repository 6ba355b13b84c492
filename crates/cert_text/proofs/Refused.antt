-- What is refused is refused for the first fault.
use Rattle.std.proofs.Common.{◌≡◌, ◌⊎◌, inl, inr, ℕ, List, [], drop, Option, Some, Result, Ok, Err, IfErr, sym, ◌∙◌, ap}
use Rattle.spec_certificate_text.specs.Terms as terms
use Rattle.spec_certificate_text.specs.Terms.{Code}
use Rattle.spec_certificate_text.specs.Outcomes.{Outcome, Found, Faulty}
use Rattle.spec_certificate_text.specs.Reports as reports
use Rattle.spec_certificate_faults.specs.First.{Kind, IsFirstFault}
use Rattle.fact_reader.specs.declared.error.CertError.{CertError}
use Rattle.fact_reader.specs.declared.error.CertError.TheVariants.{Syntax, Number, Symbol, Arity, Count, NodeOrder, NodeLarge, Memory}
use Rattle.fact_reader.specs.Errors.{refusal_of}
use Rattle.fact_reader.specs.Gives.{HasFault, Gives}
use Rattle.cert_text.specs.Seen.{GivesBy}
use Rattle.cert_text.specs.Spelled.{IsMemory}
use Rattle.cert_text.specs.Refused.{IsFirstOf, GivesRefusal}

-- what is told of the bytes is their first fault
abbrev pub ToldFirst : {X : Type 0} → Kind → List ℕ → ℕ → Outcome X → Type 0
ToldFirst K bytes at o = (place : ℕ) (code : Code) → o ≡ Faulty place code → IsFirstFault K bytes at place code

refused_first : {X : Type 0} (K : Kind) (bytes : List ℕ) (at : ℕ) (o : Outcome X) (e : CertError) → ToldFirst K bytes at o → HasFault e o → IsFirstOf K bytes at (refusal_of e)
refused_first K bytes at o (Syntax place) told fault = told place terms.Syntax fault
refused_first K bytes at o (Number place) told fault = told place terms.Number fault
refused_first K bytes at o (Symbol place) told fault = told place terms.Symbol fault
refused_first K bytes at o (Arity place) told fault = told place terms.Arity fault
refused_first K bytes at o (Count place) told fault = told place terms.Count fault
refused_first K bytes at o (NodeOrder place) told fault = told place terms.NodeOrder fault
refused_first K bytes at o (NodeLarge place) told fault = told place terms.NodeLarge fault
refused_first K bytes at o (Memory e) told fault = tt

abbrev refusal : Code → ℕ → Option (Code × ℕ)
refusal code place = Some (code, place)

same_refusal : {X : Type 0} (o : Outcome X) (place other : ℕ) (code another : Code) → o ≡ Faulty place code → o ≡ Faulty other another → refusal code place ≡ refusal another other
same_refusal o place other code another one two = let same : Faulty place code ≡ Faulty other another = sym one ∙ two in
    let places : place ≡ other = cc in
    let codes : code ≡ another = cc in
    ap (λ c. refusal c place) codes ∙ ap (refusal another) places

first_refused : {X : Type 0} (o : Outcome X) (e : CertError) (place : ℕ) (code : Code) → o ≡ Faulty place code → HasFault e o → (refusal_of e ≡ Some (code, place)) ⊎ IsMemory e
first_refused o (Syntax at) place code is fault = inl (same_refusal o at place terms.Syntax code fault is)
first_refused o (Number at) place code is fault = inl (same_refusal o at place terms.Number code fault is)
first_refused o (Symbol at) place code is fault = inl (same_refusal o at place terms.Symbol code fault is)
first_refused o (Arity at) place code is fault = inl (same_refusal o at place terms.Arity code fault is)
first_refused o (Count at) place code is fault = inl (same_refusal o at place terms.Count code fault is)
first_refused o (NodeOrder at) place code is fault = inl (same_refusal o at place terms.NodeOrder code fault is)
first_refused o (NodeLarge at) place code is fault = inl (same_refusal o at place terms.NodeLarge code fault is)
first_refused o (Memory e) place code is fault = inr tt

never_both : {X : Type 0} (o : Outcome X) (x : X) (p place : ℕ) (rest : List ℕ) (code : Code) → o ≡ Found x p rest → o ≡ Faulty place code → ⊥
never_both o x p place rest code found fault = let never : Found x p rest ≡ Faulty place code = sym found ∙ fault in cc

-- Certificates.

pub refusal_is_first : {T X : Type 0} (view : T → X) (K : Kind) (bytes : List ℕ) (at : ℕ) (result : Result (T × ℕ) CertError) (o : Outcome X) → ToldFirst K (drop at bytes) at o → Gives view bytes result o → IfErr result (λ e. IsFirstOf K (drop at bytes) at (refusal_of e))
refusal_is_first view K bytes at (Ok x) o told read = tt
refusal_is_first view K bytes at (Err e) o told read = refused_first K (drop at bytes) at o e told read

pub first_is_refusal : {T X : Type 0} (view : T → X) (bytes : List ℕ) (result : Result (T × ℕ) CertError) (o : Outcome X) (place : ℕ) (code : Code) → o ≡ Faulty place code → Gives view bytes result o → GivesRefusal place code result
first_is_refusal view bytes (Ok x) o place code is read = never_both o (view x.0) x.1 place (drop x.1 bytes) code read is
first_is_refusal view bytes (Err e) o place code is read = first_refused o e place code is read

-- Reports, whatever their claims are made of.

pub report_refusal-is_first : {C : Type 0} (view : C → reports.Claim) (K : Kind) (bytes : List ℕ) (result : Result (List C) CertError) (o : Outcome (List reports.Claim)) → ToldFirst K bytes 0 o → GivesBy view result o
    → IfErr result (λ e. IsFirstOf K bytes 0 (refusal_of e))
report_refusal-is_first view K bytes (Ok claims) o told read = tt
report_refusal-is_first view K bytes (Err e) o told read = refused_first K bytes 0 o e told read

pub report_first-is_refusal : {C : Type 0} (view : C → reports.Claim) (result : Result (List C) CertError) (o : Outcome (List reports.Claim)) (place : ℕ) (code : Code) → o ≡ Faulty place code → GivesBy view result o → GivesRefusal place code result
report_first-is_refusal view (Ok claims) o place code is read = never_both o _ read.0 place [] code read.1 is
report_first-is_refusal view (Err e) o place code is read = first_refused o e place code is read
