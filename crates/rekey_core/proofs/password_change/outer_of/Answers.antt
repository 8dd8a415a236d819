use Rattle.rekey_core.proofs.Making.{outer_is, view_mac, view_plain}
use Rattle.rekey_core.proofs.password_change.outer_of.Goals as goal

pub unreachable-requires-in_default-auth_safe : goal.unreachable-requires-in_default-auth_safe
unreachable-requires-in_default-auth_safe c = view_plain c.args.store.now c.in-Ok.view c.in-Ok.ensures.ok c.requires c.in_default-auth_safe.not-Plain

pub unreachable-requires-in_default-mac_data : goal.unreachable-requires-in_default-mac_data
unreachable-requires-in_default-mac_data c = view_mac c.args.store.now c.in-Ok.view c.in-Ok.ensures.ok c.requires c.in_default-mac_data.is

pub returns : goal.returns
returns c = outer_is c.args.store.now c.in-Ok.view c.in-Plain.text c.in-Plain.at c.in-Some.mac c.in-Ok.ensures.ok c.in-Plain.is c.in-Some.is
