use Rattle.spec_certificate_text.proofs.CertificatesRead.{read_certificate-there, read_certificate-found, refused_is_none, one_certificate}
use Rattle.spec_certificate_text.proofs.certificates_are_read.Goals as goal

pub returns-clause-there : goal.returns-clause-there
returns-clause-there c = λ P bytes at place d rest e. let there = read_certificate-there P bytes at d place rest e in (there.text, there.is)

pub returns-clause-texts : goal.returns-clause-texts
returns-clause-texts c = λ P d rest at names is. let found = read_certificate-found P names d rest at is in (found.place, found.is)

pub returns-clause-refused : goal.returns-clause-refused
returns-clause-refused c = λ P bytes at place code d rest names e is text. refused_is_none P names bytes at place code d rest e is text

pub returns-clause-one : goal.returns-clause-one
returns-clause-one c = λ P d e k l names is also same. one_certificate P names d e k l is also same
