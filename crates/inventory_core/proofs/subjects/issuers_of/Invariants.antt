use Rattle.std.proofs.Common.{◌≡◌, Some, map, take}
use Rattle.asn1_core.specs.Texts.{seen_option}
use Rattle.inventory_core.specs.SubjectIndex.{at_issuer, named_from}
use Rattle.inventory_core.specs.View.{seen_all, seen_certificate}
use Rattle.inventory_core.proofs.subjects.issuers_of.Given as goal

abbrev pub invariant-loop-certificate : goal.invariant-loop-certificate
invariant-loop-certificate l = l.issuers.items ≡ map (λ c. at_issuer (named_from (seen_all l.certificates) 0) (Some (seen_option seen_certificate c))) (take l.certificate-index l.certificates)
