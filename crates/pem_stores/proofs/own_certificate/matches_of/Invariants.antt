use Rattle.std.proofs.Common.{take}
use Rattle.std.specs.List.{AllZip}
use Rattle.pem_stores.specs.Choice.{IsMatchOfTexts}
use Rattle.pem_stores.proofs.own_certificate.matches_of.Given as goal

abbrev pub invariant-loop-certificate : goal.invariant-loop-certificate
invariant-loop-certificate l = AllZip (IsMatchOfTexts l.key) (take l.certificate-index l.certificates) l.matches.items
