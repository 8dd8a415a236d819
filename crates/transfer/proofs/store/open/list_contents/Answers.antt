use Rattle.std.proofs.Common.{ap, arith}
use Rattle.asn1_core.specs.Texts.{seen_option}
use Rattle.p12.specs.ContentView.{seen_content}
use Rattle.p12.specs.MacView.{seen_mac}
use Rattle.p12.specs.StoreView.{seen_store}
use Rattle.transfer.specs.Opening.{HasVerdict, MacTable, refused}
use Rattle.transfer.proofs.Lengths.{salt_fits}
use Rattle.transfer.proofs.Rows.{has_mac, has_store, no_data, no_mac, no_store, not_plain, listed_within, refused_still, too_long}
use Rattle.transfer.proofs.store.open.list_contents.Goals as goal

pub returns-then-store-gt-STORE_LIMIT-clause-refused : goal.returns-then-store-gt-STORE_LIMIT-clause-refused
returns-then-store-gt-STORE_LIMIT-clause-refused g c = (0, too_long c.args.store.now c.args.password.now c.args.limit (grind arith), omega arith)

pub returns-in-Err-clause-refused : goal.returns-in-Err-clause-refused
returns-in-Err-clause-refused g c = (0, no_store c.args.store.now c.args.password.now c.args.limit (grind arith) c.in-Err.ensures.err.1, omega arith)

pub returns-in_default : goal.returns-in_default
returns-in_default g c = record {
  listed = tt;
  refused = (
    0,
    has_store c.args.store.now c.args.password.now c.args.limit (seen_store c.in-Ok.store) _ _ (grind arith) c.in-Ok.ensures.ok
        (no_data c.args.password.now c.args.limit (seen_store c.in-Ok.store) (λ v h. not_plain c.in-Ok.store.auth_safe (λ x at e. c.in_default.not-Plain x at e) v h)),
    omega arith,
  );
  at_most = (omega arith, omega arith);
}

pub returns-in_default-mac_data-clause-refused : goal.returns-in_default-mac_data-clause-refused
returns-in_default-mac_data-clause-refused g c = (
  0,
  has_store c.args.store.now c.args.password.now c.args.limit (seen_store c.in-Ok.store) _ _ (grind arith) c.in-Ok.ensures.ok
      (no_mac c.args.password.now c.args.limit (seen_store c.in-Ok.store) c.in-Plain.content.now (ap seen_content c.in-Plain.is) (ap (seen_option seen_mac) c.in_default-mac_data.is)),
  omega arith,
)

pub list_text-requires-clause-salt : goal.list_text-requires-clause-salt
list_text-requires-clause-salt g c = (salt_fits c.args.store.now (seen_store c.in-Ok.store) (seen_mac c.in-Some.mac) (grind arith) c.in-Ok.ensures.ok (ap (seen_option seen_mac) c.in-Some.is))

pub returns-clause-listed : goal.returns-clause-listed
returns-clause-listed g c =
    listed_within (MacTable c.args.password.now c.args.limit c.in-Plain.content.now (seen_mac c.in-Some.mac)) (HasVerdict c.args.store.now c.args.password.now c.args.limit) c.args.password.now c.args.limit _ _ c.list_text.result
    (λ w n t. has_store c.args.store.now c.args.password.now c.args.limit (seen_store c.in-Ok.store) w n (grind arith) c.in-Ok.ensures.ok
    (has_mac c.args.password.now c.args.limit (seen_store c.in-Ok.store) c.in-Plain.content.now (seen_mac c.in-Some.mac) w n (ap seen_content c.in-Plain.is) (ap (seen_option seen_mac) c.in-Some.is) t))
    c.list_text.ensures.listed

pub returns-clause-refused : goal.returns-clause-refused
returns-clause-refused g c =
    refused_still c.list_text.result (λ e n. MacTable c.args.password.now c.args.limit c.in-Plain.content.now (seen_mac c.in-Some.mac) (refused e) n)
    (λ e n. HasVerdict c.args.store.now c.args.password.now c.args.limit (refused e) n) _ _
    (λ e n t. has_store c.args.store.now c.args.password.now c.args.limit (seen_store c.in-Ok.store) _ _ (grind arith) c.in-Ok.ensures.ok
    (has_mac c.args.password.now c.args.limit (seen_store c.in-Ok.store) c.in-Plain.content.now (seen_mac c.in-Some.mac) _ _ (ap seen_content c.in-Plain.is) (ap (seen_option seen_mac) c.in-Some.is) t))
    c.list_text.ensures.refused
