use Rattle.rekey_core.specs.Kinds.{mac_kind}
use Rattle.rekey_core.proofs.KindFacts.{kind_known}
use Rattle.rekey_core.proofs.Writing.{long_outer, mac_writes, writing_refusal}
use Rattle.rekey_core.proofs.change.store_text.Goals as goal

pub returns-in-Err-clause-err : goal.returns-in-Err-clause-err
returns-in-Err-clause-err c = long_outer _ c.args.version (mac_kind c.args.mac) c.args.new.now c.args.salt.now c.args.contents.now c.in-Err.e c.refusal_of.result c.in-Err.ensures c.refusal_of.ensures

pub refusal_of-requires-in-Err-to_der : goal.refusal_of-requires-in-Err-to_der
refusal_of-requires-in-Err-to_der c = writing_refusal _ _ c.in-Err-to_der.e (tt, mac_writes c.in_ok-mac.mac _ _ _ _ _ c.in_ok-mac.ensures.ok (kind_known c.args.mac)) c.in-Err-to_der.ensures
