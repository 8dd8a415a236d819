use Rattle.std.proofs.Common.{◌++◌, ap, ◌∙◌, sym, arith}
use Rattle.std.proofs.lemmas.List.{append-nil, drop_all}
use Rattle.sha2.specs.Sha512.{sha512}
use Rattle.mac_modes.proofs.secure_hash.Sha512HashFn.finish.Goals as goal

-- the digest fills all 64 octets
pub returns : goal.returns
returns c = λ m h.
    c.copy_from_slice.ensures.after ∙ (c.finalize.ensures m h ∙ (sym (append-nil (sha512 m)) ∙ ap (λ t. sha512 m ++ t) (sym (drop_all 64 c.args.out.now (omega arith)))))
