-- What is seen of a store that lends its parts: the same in memory of its own.
use Rattle.asn1_core.specs.Texts.{seen_option}
use Rattle.p12.specs.ContentView.{seen_content}
use Rattle.p12.specs.MacView.{seen_mac}
use Rattle.p12.specs.declared.pfx.PFX.{PFX}
use Rattle.p12.specs.declared.pfx.StoreView.{StoreView}

abbrev pub seen_store : StoreView → PFX
seen_store s = record {
  version = s.version;
  auth_safe = seen_content s.auth_safe;
  mac_data = seen_option seen_mac s.mac_data;
}
