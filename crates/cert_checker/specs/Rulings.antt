-- What contracts see of a ruling.
use Rattle.spec_certificates.specs.Ruling as certificates
use Rattle.cert_checker.specs.declared.ruling.Ruling.{Ruling}
use Rattle.cert_checker.specs.declared.ruling.Ruling.TheVariants.{Accepted, Shape, Cover, Closure, Goal, Extra, Translation}

abbrev pub ruling_of : Ruling → certificates.Ruling
ruling_of Accepted = certificates.Accepted
ruling_of (Shape clause) = certificates.Shape clause
ruling_of (Cover clause) = certificates.Cover clause
ruling_of (Closure solved unsolved resolvent) = certificates.Closure solved unsolved resolvent
ruling_of (Goal clause) = certificates.Goal clause
ruling_of (Extra row) = certificates.Extra row
ruling_of (Translation point) = certificates.Translation point
