use Rattle.std.proofs.Common.{◌≡◌, ◌+◌, ◌-◌, ◌*◌, ◌++◌, map, take, drop, sym, ap, ap₂, ◌∙◌, arith}
use Rattle.std.proofs.Math.Seq.{take-add}
use Rattle.std.proofs.lemmas.List.{map-append}
use Rattle.pkcs5.specs.Opening.{sha256_key}
use Rattle.pkcs5.proofs.pbes2.encryption_key.derive_in_fours.Goals as goal

pub loop-group-preserved : goal.loop-group-preserved
loop-group-preserved c =
    let salts = c.args.salts.now in
    let f = sha256_key c.args.rounds c.args.password.now in
    let n = 4 * c.loop-group.group in
    let four : n + 4 - n ≡ 4 = omega arith in
    let next : n + 4 ≡ 4 * (c.loop-group.group + 1) = omega arith in
    c.in_ok-push_four.ensures.ok
    ∙ ap₂ (λ keys k. keys ++ map f (take k (drop n salts))) c.loop-group.invariant four
    ∙ sym (map-append f (take n salts) (take 4 (drop n salts)))
    ∙ ap (map f) (sym (take-add n 4 salts))
    ∙ ap (λ k. map f (take k salts)) next
