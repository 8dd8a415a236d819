use Rattle.std.proofs.Common.{◌∙◌, ap, sym, inr}
use Rattle.p12.specs.ContentView.{seen_content}
use Rattle.p12.specs.StoreView.{seen_store}
use Rattle.legacy_store.proofs.Normal.{der_is_read}
use Rattle.legacy_store.proofs.Stays.{lists_nothing, no_list, plain_not}
use Rattle.legacy_store.proofs.texts.stays_as_it_is.Goals as goal

pub returns-in-Plain-clause-no : goal.returns-in-Plain-clause-no
returns-in-Plain-clause-no c bad =
    plain_not c.args.store.now c.in-Plain.content.now (seen_store c.in-Ok.view) c.parse-in-Plain.result c.in-Ok.ensures.ok (ap seen_content c.in-Plain.is) c.parse-in-Plain.ensures.err
    (sym c.is_ok.ensures.value ∙ bad)

pub returns-in-Encrypted-clause-yes : goal.returns-in-Encrypted-clause-yes
returns-in-Encrypted-clause-yes c same =
    let b = c.args.store.now in
    let s = seen_store c.in-Ok.view in
    inr (lists_nothing b s (der_is_read b s c.in-Ok.ensures.ok) (no_list s _ (ap seen_content c.in-Encrypted.is) (λ v e. absurd cc)))

pub returns-in-Other-clause-yes : goal.returns-in-Other-clause-yes
returns-in-Other-clause-yes c same =
    let b = c.args.store.now in
    let s = seen_store c.in-Ok.view in
    inr (lists_nothing b s (der_is_read b s c.in-Ok.ensures.ok) (no_list s _ (ap seen_content c.in-Other.is) (λ v e. absurd cc)))
