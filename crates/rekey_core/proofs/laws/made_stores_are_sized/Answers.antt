use Rattle.rekey_core.specs.Kinds.{mac_for}
use Rattle.rekey_core.proofs.KindFacts.{digest_known}
use Rattle.rekey_core.proofs.Sizes.{store_size}
use Rattle.rekey_core.proofs.laws.made_stores_are_sized.Goals as goal

pub returns : goal.returns
returns c = λ to u q version m cs es gss d salt known s h long. store_size to u q version (mac_for to m) cs es gss d salt (digest_known to m known) s h long
