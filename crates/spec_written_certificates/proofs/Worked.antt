-- The texts of clauses with constraints, as they were worked out by hand.
use Rattle.std.proofs.Common.{◌≡◌, [], refl, arith}
use Rattle.std.specs.Prelude.{codes}
use Rattle.std.proofs.lemmas.Fmt.{decimal_digit}
use Rattle.spec_certificate_text.specs.Examples.{sending}
use Rattle.spec_certificate_text.specs.Text.{clause_text}
use Rattle.cert_form.specs.Writing.{text_in}
use Rattle.spec_written_certificates.specs.Examples.{passed, sent_again, constrained}

pub passed_text : clause_text sending passed [] ≡ codes "diff(v0;c) => att(v0)"
passed_text = rw (decimal_digit 0 (omega arith)) refl

pub sent_again_text : clause_text sending sent_again [] ≡ codes "att(v0), diff(v0;c), diff(v0,k,?0;enc(?0,?1),?1,?2) => mess(c,v0)"
sent_again_text = rw (decimal_digit 0 (omega arith), decimal_digit 1 (omega arith), decimal_digit 2 (omega arith)) refl

pub spelled_text : text_in 1 sending constrained [] ≡ codes "cert 1\nc diff(v0;c) => att(v0)\nc att(v0), diff(v0;c), diff(v0,k,?0;enc(?0,?1),?1,?2) => mess(c,v0)\nend\n"
spelled_text = rw (decimal_digit 0 (omega arith), decimal_digit 1 (omega arith), decimal_digit 2 (omega arith)) refl

pub numbered_text : text_in 2 sending constrained [] ≡ codes "cert 2\nn v0\nn c\nn k\nn ?0\nn ?1\nn enc 4 5\nn ?2\nc diff(1;2) => att(1)\nc att(1), diff(1;2), diff(1,3,4;6,5,7) => mess(2,1)\nend\n"
numbered_text =
    rw (decimal_digit 0 (omega arith), decimal_digit 1 (omega arith), decimal_digit 2 (omega arith), decimal_digit 3 (omega arith), decimal_digit 4 (omega arith), decimal_digit 5 (omega arith), decimal_digit 6 (omega arith), decimal_digit 7 (omega arith)) refl
