use Rattle.std.proofs.Common.{◌∙◌, List, ℕ, IsTrue, ap, sym, subst, arith, rules}
use Rattle.std.proofs.lemmas.Grind.{common_steps}
use Rattle.asn1_core.specs.Gives.{IsNone}
use Rattle.der_core.specs.BitString.{seen_bits}
use Rattle.key_files.specs.Rsa.{IsRsaPublicKey, Rsa, seen_rsa}
use Rattle.key_files.proofs.Matches.{rsa_another, rsa_bits, rsa_equal, rsa_none, rsa_own}
use Rattle.key_files.proofs.matching.rsa_match.Goals as goal

pub returns-then-unused_bits-ne0 : goal.returns-then-unused_bits-ne0
returns-then-unused_bits-ne0 c =
    rsa_bits c.args.key.now (seen_bits c.args.public.now.unused_bits c.args.public.now.octets.now) (seen_rsa c.in-Ok.numbers) c.in-Ok.ensures (λ e. c.if-unused_bits-ne0.true (c.unused_bits.ensures ∙ e))

pub returns-in_default-read_rsa_public_key : goal.returns-in_default-read_rsa_public_key
returns-in_default-read_rsa_public_key c =
    rsa_none c.args.key.now (seen_bits c.args.public.now.unused_bits c.args.public.now.octets.now) (seen_rsa c.in-Ok.numbers) c.in-Ok.ensures
    (subst (λ (b : List ℕ). IsNone IsRsaPublicKey b) c.raw_bytes.ensures c.in_default-read_rsa_public_key.ensures.1)

pub returns-then-are_same : goal.returns-then-are_same
returns-then-are_same c =
    let yes : IsTrue c.are_same.result = first_of (search rules, grind (arith, common_steps)) in
    let both = c.are_same.ensures.0 yes in
    rsa_own c.args.key.now (seen_bits c.args.public.now.unused_bits c.args.public.now.octets.now) (seen_rsa c.in-Ok.numbers) (seen_rsa c.in-Ok-read_rsa_public_key.others) c.in-Ok.ensures
    (sym c.unused_bits.ensures ∙ c.if-unused_bits-ne0.false)
    (subst (λ (b : List ℕ). IsRsaPublicKey b (seen_rsa c.in-Ok-read_rsa_public_key.others)) c.raw_bytes.ensures c.in-Ok-read_rsa_public_key.ensures)
    (rsa_equal _ _ _ _ both.0 both.1)

pub returns-else-are_same : goal.returns-else-are_same
returns-else-are_same c =
    rsa_another c.args.key.now (seen_bits c.args.public.now.unused_bits c.args.public.now.octets.now) (seen_rsa c.in-Ok.numbers) (seen_rsa c.in-Ok-read_rsa_public_key.others) c.in-Ok.ensures
    (subst (λ (b : List ℕ). IsRsaPublicKey b (seen_rsa c.in-Ok-read_rsa_public_key.others)) c.raw_bytes.ensures c.in-Ok-read_rsa_public_key.ensures)
    (λ e. let yes : IsTrue c.are_same.result = c.are_same.ensures.1 (ap (λ (r : Rsa). r.modulus) e, ap (λ (r : Rsa). r.exponent) e) in
    absurd (first_of (search rules, grind (arith, common_steps))))
