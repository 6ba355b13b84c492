-- What is shown of a protocol, as far as it is told.
use Rattle.std.specs.Prelude.{ℕ, List}
use Rattle.spec_calculus.specs.Syntax.{Protocol}
use Rattle.spec_protocol_scope.specs.Spells.{Spells}
use Rattle.protocol_loading.specs.Outside.{Outside}
use Rattle.hx.specs.declared.commands.Command.{Command}
use Rattle.hx.specs.declared.commands.Command.TheVariants.{Attack, Certify, Check}
use Rattle.hx.specs.declared.outcome.Output.{Output}
use Rattle.hx.specs.AttackText.{TellsFinding}
use Rattle.hx.specs.CertificateText.{IsCertificatePage}
use Rattle.hx.specs.CheckText.{IsCheckPage}

-- of a query that was asked about, what is found of it, or its certificate; of a report, what is found of its certificates
abbrev pub IsPageOf : Protocol → Outside → Command → Output → Type 0
IsPageOf P files (Attack asked) page = TellsFinding P asked.query asked.budget page.text.items
IsPageOf P files (Certify asked) page = IsCertificatePage P asked.query asked.format page
IsPageOf P files (Check report) page = IsCheckPage P files report.now page
IsPageOf P files _ page = Unit {0}

-- it is shown of the protocol that the bytes spell
pub record IsPageOfText (bytes : List ℕ) (files : Outside) (command : Command) (page : Output) : Type 0 where
  pub protocol : Protocol
  pub spelled : Spells bytes protocol
  pub is : IsPageOf protocol files command page
