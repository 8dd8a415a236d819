use Rattle.std.proofs.Common.{◌∙◌, ap, sym}
use Rattle.std.specs.Prelude.{Option, option_map}
use Rattle.legacy_store.specs.declared.scheme.OldCipher.{OldCipher}
use Rattle.legacy_store.specs.Scheme.{other_scheme, params_in, scheme_under, with_cipher}
use Rattle.legacy_store.proofs.scheme.other_scheme.Goals as goal

pub returns-in-Some : goal.returns-in-Some
unfolding other_scheme
returns-in-Some c =
    c.with_cipher.ensures ∙ ap (option_map (with_cipher c.in-Some.cipher)) c.params_in.ensures
    ∙ ap (λ (k : Option OldCipher). scheme_under k (params_in c.args.other.now.params)) (sym c.in-Some.is ∙ c.cipher_named.ensures)

pub returns-in-None : goal.returns-in-None
unfolding other_scheme
returns-in-None c = ap (λ (k : Option OldCipher). scheme_under k (params_in c.args.other.now.params)) (sym c.in-None.is ∙ c.cipher_named.ensures)
