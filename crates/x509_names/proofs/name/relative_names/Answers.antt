use Rattle.std.proofs.Common.{map}
use Rattle.asn1_core.proofs.PartLoops.{goes_on}
use Rattle.x509_names.specs.Names.{seen_attribute}
use Rattle.x509_names.specs.NamesReading.{relative_at}
use Rattle.x509_names.proofs.NameTexts.{map_more}
use Rattle.x509_names.proofs.name.relative_names.Goals as goal

pub loop-body-preserved : goal.loop-body-preserved
loop-body-preserved c =
    rw (c.in_ok-push.ensures.ok, map_more (map seen_attribute) c.loop-body.items c.in_ok-item.item)
    (goes_on relative_at _ _ _ _ _ c.in_ok-item.ensures.shorter c.in_ok-item.ensures.exact c.loop-body.invariant)
