-- The texts of small clauses and of a small certificate, as they were worked out by hand.
use Rattle.std.proofs.Common.{◌≡◌, [], ◌∷◌, refl, arith}
use Rattle.std.specs.Prelude.{codes}
use Rattle.std.proofs.lemmas.Fmt.{decimal_digit}
use Rattle.spec_trees.specs.Tree.{node}
use Rattle.spec_terms.specs.Term.{Attacker}
use Rattle.spec_clauses.specs.Fact.{Att, Mess, Ev, Mev, Bad}
use Rattle.spec_certificate_text.specs.OfProtocol.{IsPhase, IsTermOf, IsClauseOf, IsCertificateOf}
use Rattle.spec_certificate_text.specs.Text.{clause_text, certificate_text}
use Rattle.spec_certificate_text.specs.Examples.{channel, key, encryption, event_called, sending, answering, waiting, clause, v0, v1, c, k, enc, made, small}

pub attacker_names : clause_text sending (clause [] (Att 0 (node Attacker (v0 ∷ [])))) [] ≡ codes "=> att(@[v0])"
attacker_names = rw (decimal_digit 0 (omega arith)) refl

pub encrypts : clause_text sending (clause (Att 0 v0 ∷ Att 0 v1 ∷ []) (Att 0 (enc v0 v1))) [] ≡ codes "att(v0), att(v1) => att(enc(v0,v1))"
encrypts = rw (decimal_digit 0 (omega arith), decimal_digit 1 (omega arith)) refl

pub hears : clause_text sending (clause (Mess 0 v1 v0 ∷ Att 0 v1 ∷ []) (Att 0 v0)) [] ≡ codes "mess(v1,v0), att(v1) => att(v0)"
hears = rw (decimal_digit 0 (omega arith), decimal_digit 1 (omega arith)) refl

pub says : clause_text sending (clause (Att 0 v0 ∷ Att 0 v1 ∷ []) (Mess 0 v0 v1)) [] ≡ codes "att(v0), att(v1) => mess(v0,v1)"
says = rw (decimal_digit 0 (omega arith), decimal_digit 1 (omega arith)) refl

pub sends : clause_text sending (clause [] (Att 0 (enc (made 2) k))) [] ≡ codes "=> att(enc(n@2[v0],k))"
sends = rw (decimal_digit 0 (omega arith), decimal_digit 2 (omega arith)) refl

pub asks : clause_text sending (clause (Att 0 (made 2) ∷ []) (Bad [])) [] ≡ codes "att(n@2[v0]) => bad()"
asks = rw (decimal_digit 0 (omega arith), decimal_digit 2 (omega arith)) refl

pub begins : clause_text answering (clause (Mev 1 (made 3 ∷ []) ∷ []) (Att 0 (enc (made 3) k))) [] ≡ codes "mev(begin(n@3[v0])) => att(enc(n@3[v0],k))"
begins = rw (decimal_digit 0 (omega arith), decimal_digit 3 (omega arith)) refl

pub ends : clause_text answering (clause (Ev 2 (v0 ∷ []) ∷ []) (Bad (v0 ∷ []))) [] ≡ codes "ev(end(v0)) => bad(v0)"
ends = rw (decimal_digit 0 (omega arith)) refl

pub small_certificate : certificate_text sending small [] ≡ codes "cert 1\nc => att(c)\nr 1\nr 3 1\ng 1 1\nend\n"
small_certificate = rw (decimal_digit 1 (omega arith), decimal_digit 3 (omega arith)) refl

pub keeps : clause_text waiting (clause (Att 0 v0 ∷ []) (Att 1 v0)) [] ≡ codes "att(v0) => att@1(v0)"
keeps = rw (decimal_digit 0 (omega arith), decimal_digit 1 (omega arith)) refl

pub says_later : clause_text waiting (clause (Att 1 v0 ∷ Att 1 v1 ∷ []) (Mess 1 v0 v1)) [] ≡ codes "att@1(v0), att@1(v1) => mess@1(v0,v1)"
says_later = rw (decimal_digit 0 (omega arith), decimal_digit 1 (omega arith)) refl

first_phase : IsPhase sending 0
first_phase = (omega arith, omega arith)

channel_is_one : IsTermOf sending c
channel_is_one = ((record { declared = channel; there = refl }, refl), tt)

pub small_is_one : IsCertificateOf sending small
small_is_one = record {
  clauses = (record { hypotheses = tt; diffs = tt; conclusion = (first_phase, channel_is_one) }, tt);
  rows = ((omega arith, tt), ((omega arith, (omega arith, tt)), tt));
  goals = ((omega arith, (omega arith, tt)), tt);
}

made_is_one : IsTermOf answering (made 3)
made_is_one = ((record { word = codes "n"; next = _; there = refl; arity = refl }, omega arith), (omega arith, tt))

key_is_one : IsTermOf answering k
key_is_one = ((record { declared = key; there = refl }, refl), tt)

pub begins_is_one : IsClauseOf answering (clause (Mev 1 (made 3 ∷ []) ∷ []) (Att 0 (enc (made 3) k)))
begins_is_one = record {
  hypotheses = ((record { declared = event_called (codes "begin"); there = refl; arity = refl }, (made_is_one, tt)), tt);
  diffs = tt;
  conclusion = ((omega arith, omega arith), (record { declared = encryption; there = refl; data_is = refl; arity = refl }, (made_is_one, (key_is_one, tt))));
}

pub keeps_is_one : IsClauseOf waiting (clause (Att 0 v0 ∷ []) (Att 1 v0))
keeps_is_one = record { hypotheses = (((omega arith, omega arith), omega arith), tt); diffs = tt; conclusion = ((omega arith, omega arith), omega arith) }
