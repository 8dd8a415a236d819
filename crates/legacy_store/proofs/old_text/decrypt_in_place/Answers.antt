use Rattle.std.proofs.Common.{◌∙◌, ap}
use Rattle.legacy_store.specs.declared.scheme.OldCipher.TheVariants.{Rc2Of40, Rc2Of128}
use Rattle.legacy_store.specs.Scheme.{key_octets}
use Rattle.legacy_store.proofs.Opened.{none_by, some_by}
use Rattle.legacy_store.proofs.old_text.decrypt_in_place.Goals as goal

pub decrypt_under-requires-clause-key : goal.decrypt_under-requires-clause-key
decrypt_under-requires-clause-key c = c.requires.key ∙ ap key_octets c.in-Rc2Of40.is

pub returns-in-Rc2Of40-clause-some : goal.returns-in-Rc2Of40-clause-some
returns-in-Rc2Of40-clause-some c =
    some_by c.args.cipher Rc2Of40 c.args.key.now c.args.iv.now c.args.buffer.now c.decrypt_under.new.buffer c.decrypt_under.result c.in-Rc2Of40.is c.decrypt_under.ensures.some

pub returns-in-Rc2Of40-clause-none : goal.returns-in-Rc2Of40-clause-none
returns-in-Rc2Of40-clause-none c =
    none_by c.args.cipher Rc2Of40 c.args.key.now c.args.iv.now c.args.buffer.now c.decrypt_under.result c.in-Rc2Of40.is c.decrypt_under.ensures.none

pub decrypt_under-requires-in-Rc2Of128-clause-key : goal.decrypt_under-requires-in-Rc2Of128-clause-key
decrypt_under-requires-in-Rc2Of128-clause-key c = c.requires.key ∙ ap key_octets c.in-Rc2Of128.is

pub returns-in-Rc2Of128-clause-some : goal.returns-in-Rc2Of128-clause-some
returns-in-Rc2Of128-clause-some c =
    some_by c.args.cipher Rc2Of128 c.args.key.now c.args.iv.now c.args.buffer.now c.decrypt_under-in-Rc2Of128.new.buffer c.decrypt_under-in-Rc2Of128.result c.in-Rc2Of128.is c.decrypt_under-in-Rc2Of128.ensures.some

pub returns-in-Rc2Of128-clause-none : goal.returns-in-Rc2Of128-clause-none
returns-in-Rc2Of128-clause-none c =
    none_by c.args.cipher Rc2Of128 c.args.key.now c.args.iv.now c.args.buffer.now c.decrypt_under-in-Rc2Of128.result c.in-Rc2Of128.is c.decrypt_under-in-Rc2Of128.ensures.none

pub decrypt_two_key-requires-clause-key : goal.decrypt_two_key-requires-clause-key
decrypt_two_key-requires-clause-key c = c.requires.key ∙ ap key_octets c.in-TwoKeyTripleDes.is
