-- The table, from the lines.
use Rattle.std.proofs.Common.{◌≡◌, ℕ, List, ◌++◌, Option, sym, ap, ◌∙◌, subst}
use Rattle.std.specs.List.{flat_map}
use Rattle.asn1_core.specs.Sets.{Each}
use Rattle.frame.specs.DueText.{joined}
use Rattle.p12.specs.declared.safe_bag.SafeBag.{SafeBag}
use Rattle.transfer.specs.Opening.{all_certificates}
use Rattle.inventory_core.specs.Certificate.{Certificate}
use Rattle.inventory_core.specs.Gathering.{certificate_part}
use Rattle.inventory_core.specs.Lines.{AreLines, CertificateLine, KeyLine}
use Rattle.inventory_core.specs.Table.{IsKept, IsTable, certificate_ids, key_ids}
use Rattle.inventory_core.proofs.Gatherings.{all_parts, each_read}

-- ---- The table

pub is_table : (bags : List (List SafeBag)) (cs : List (Option Certificate)) (certificates keys : List (List ℕ)) (ids kids : List (Option (List ℕ)))
    → cs ≡ flat_map (λ gs. flat_map certificate_part gs) bags → ids ≡ certificate_ids bags → kids ≡ key_ids bags
    → AreLines (CertificateLine cs) 0 cs certificates → AreLines (KeyLine cs ids) 0 kids keys → (lines : List (List ℕ)) → lines ≡ certificates ++ keys → IsTable bags (joined lines)
is_table bags cs certificates keys ids kids are same_ids same_keys for_certificates for_keys lines is = record {
  certificates = cs;
  read = subst (λ t. Each IsKept (all_certificates bags) t) (sym (are ∙ all_parts bags)) (each_read (all_certificates bags));
  certificate_lines = certificates;
  for_certificates = for_certificates;
  key_lines = keys;
  for_keys = subst (λ t. AreLines (KeyLine cs t) 0 (key_ids bags) keys) same_ids (subst (λ t. AreLines (KeyLine cs ids) 0 t keys) same_keys for_keys);
  is = ap joined is;
}
