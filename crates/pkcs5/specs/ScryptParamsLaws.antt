-- lemmas only: nothing to believe here
-- The parameters of scrypt are read exactly, and what is written of them is read again.
use Rattle.std.specs.Prelude.{◌↔◌}
use Rattle.std.proofs.Common.{◌≡◌, ℕ, List, [], ◌++◌, Option, Some, None, refl, sym, ap, subst, ◌∙◌, append_assoc, inl, inr, nat_eq}
use Rattle.std.proofs.lemmas.List.{append-nil}
use Rattle.asn1_core.specs.Der.{el, octets, uint, shortest}
use Rattle.asn1_core.specs.Reading.{within, uint_at}
use Rattle.asn1_core.specs.Texts.{Exact, ExactAll, On, Ended, Within, Perhaps, Uint, UintOf}
use Rattle.asn1_core.specs.ExactLaws.{on-exact, ended-exact, same-exact}
use Rattle.asn1_core.specs.ElementLaws.{within-exact, within-whole}
use Rattle.asn1_core.specs.NumberLaws.{uint-exact}
use Rattle.asn1_core.specs.OptionLaws.{OnOption, on_option-exact}
use Rattle.der_core.specs.Optional.{canon_option}
use Rattle.pkcs5.specs.Salt.{SaltOf}
use Rattle.pkcs5.specs.Pbkdf2ParamsLaws.{salt_of-exact, salt_canonical, salt_spelled, length_written, length_spelled}
use Rattle.pkcs5.specs.ScryptParams.{scrypt_params, ScryptParamsOf, ScryptParamsText, scrypt_params_content, AreScryptParams}
use Rattle.pkcs5.specs.declared.pbes2.scrypt_params.ScryptParams.{ScryptParams}
use Rattle.pkcs5.specs.Reading.{salt_of, scrypt_params_of, scrypt_params_at}

abbrev Last : List ℕ → ℕ → ℕ → ℕ → Option ℕ → List ℕ → ScryptParams → Type 0
Last s n r p k = Ended (scrypt_params s n r p k)

abbrev Parts : List ℕ → ScryptParams → Type 0
Parts = On (Within 4 SaltOf) (λ s. On (Uint 18446744073709551615) (λ n. On (Uint 65535) (λ r. On (Uint 65535) (λ p. OnOption (Uint 65535) (Last s n r p)))))

parts : ExactAll Parts scrypt_params_of
parts =
    on-exact (Within 4 SaltOf) _ (within 4 salt_of) _ (within-exact 4 SaltOf salt_of refl salt_of-exact)
    (λ s. on-exact (Uint 18446744073709551615) _ (uint_at 18446744073709551615) _ (uint-exact 18446744073709551615)
    (λ n. on-exact (Uint 65535) _ (uint_at 65535) _ (uint-exact 65535)
    (λ r. on-exact (Uint 65535) _ (uint_at 65535) _ (uint-exact 65535)
    (λ p. on_option-exact (λ t. nat_eq t 2) (Uint 65535) (Last s n r p) (uint_at 65535) _ (uint-exact 65535) (within-whole 2 (UintOf 65535) refl) (λ t l v h. absurd cc)
    (λ k. ended-exact (scrypt_params s n r p k))))))

-- the key length at the end
length_to : (s : List ℕ) (n r p : ℕ) (b : List ℕ) (v : ScryptParams) → OnOption (Uint 65535) (Last s n r p) b v → (k : Option ℕ) × Perhaps (Uint 65535) b k × (v ≡ scrypt_params s n r p k)
length_to s n r p b v (inl x) = (None, x.0, x.1)
length_to s n r p b v (inr (t, q, k, is, x, e)) =
    (Some k, subst (λ (l : List ℕ). Uint 65535 l k) (sym (e ∙ ap (λ (l : List ℕ). t ++ l) x.0 ∙ append-nil t)) is, x.1)

length_from : (s : List ℕ) (n r p : ℕ) (b : List ℕ) (k : Option ℕ) → Perhaps (Uint 65535) b k → OnOption (Uint 65535) (Last s n r p) b (scrypt_params s n r p k)
length_from s n r p b None h = inl (h, refl)
length_from s n r p b (Some k) h = inr (b, [], k, h, (refl, refl), sym (append-nil b))

-- five parts, one after the other
five : (s n r p k : List ℕ) → s ++ (n ++ (r ++ (p ++ k))) ≡ s ++ n ++ r ++ p ++ k
five s n r p k = sym (append_assoc s n (r ++ (p ++ k))) ∙ sym (append_assoc (s ++ n) r (p ++ k)) ∙ sym (append_assoc (s ++ n ++ r) p k)

joined : (s t n u r w p k b : List ℕ) → b ≡ s ++ t → t ≡ n ++ u → u ≡ r ++ w → w ≡ p ++ k → b ≡ s ++ n ++ r ++ p ++ k
joined s t n u r w p k b e f g h =
    e ∙ ap (λ (l : List ℕ). s ++ l) (f ∙ ap (λ (l : List ℕ). n ++ l) (g ∙ ap (λ (l : List ℕ). r ++ l) h)) ∙ five s n r p k

to : (b : List ℕ) (v : ScryptParams) → Parts b v → ScryptParamsOf b v
to b v (s, t, salt, hs, (n, u, cost, hn, (r, w, size, hr, (p, k, count, hp, x, ep), er), en), es) =
    let y = length_to salt cost size count k v x in
    subst (ScryptParamsOf b) (sym y.2) (s, n, r, p, k, hs, hn, hr, hp, y.1, joined s t n u r w p k b es en er ep)

from : (b : List ℕ) (v : ScryptParams) → ScryptParamsOf b v → Parts b v
from b v (s, n, r, p, k, hs, hn, hr, hp, x, is) =
    (s, n ++ (r ++ (p ++ k)), v.salt, hs, (n, r ++ (p ++ k), v.cost_parameter, hn, (r, p ++ k, v.block_size, hr, (p, k, v.parallelization, hp, length_from v.salt v.cost_parameter v.block_size v.parallelization k v.key_length x, refl), refl), refl), is ∙ sym (five s n r p k))

pub scrypt_params_of-exact : ExactAll ScryptParamsOf scrypt_params_of
scrypt_params_of-exact = same-exact Parts ScryptParamsOf scrypt_params_of to from parts

pub scrypt_params-exact : Exact ScryptParamsText scrypt_params_at
scrypt_params-exact = within-exact 0x30 ScryptParamsOf scrypt_params_of refl scrypt_params_of-exact

-- ---- what is written

pub scrypt_params_canonical : (v : ScryptParams) → AreScryptParams v → ScryptParamsText (el 0x30 (scrypt_params_content v)) v
scrypt_params_canonical v h = (
  scrypt_params_content v,
  (
    octets v.salt,
    uint v.cost_parameter,
    uint v.block_size,
    uint v.parallelization,
    canon_option uint v.key_length,
    salt_canonical v.salt h.0,
    (shortest v.cost_parameter, (h.1, refl), refl),
    (shortest v.block_size, (h.2, refl), refl),
    (shortest v.parallelization, (h.3, refl), refl),
    length_written v.key_length h.4,
    refl,
  ),
  refl,
)

spelled_to : (b : List ℕ) (v : ScryptParams) → ScryptParamsText b v → AreScryptParams v × (b ≡ el 0x30 (scrypt_params_content v))
spelled_to b v (x, (s, n, r, p, k, hs, hn, hr, hp, hk, is), e) =
    let salt = (salt_spelled s v.salt).0 hs in
    let cost : n ≡ uint v.cost_parameter = hn.2 ∙ ap (λ (l : List ℕ). el 2 l) hn.1.1 in
    let size : r ≡ uint v.block_size = hr.2 ∙ ap (λ (l : List ℕ). el 2 l) hr.1.1 in
    let count : p ≡ uint v.parallelization = hp.2 ∙ ap (λ (l : List ℕ). el 2 l) hp.1.1 in
    let long = length_spelled v.key_length k hk in
    let same : s ++ n ++ r ++ p ++ k ≡ scrypt_params_content v = rw (salt.1, cost, size, count, long.1) refl in
    ((salt.0, hn.1.0, hr.1.0, hp.1.0, long.0), e ∙ ap (λ (l : List ℕ). el 0x30 l) (is ∙ same))

spelled_from : (b : List ℕ) (v : ScryptParams) → AreScryptParams v × (b ≡ el 0x30 (scrypt_params_content v)) → ScryptParamsText b v
spelled_from b v (h, e) = subst (λ (l : List ℕ). ScryptParamsText l v) (sym e) (scrypt_params_canonical v h)

pub scrypt_params_spelled : (b : List ℕ) (v : ScryptParams) → ScryptParamsText b v ↔ (AreScryptParams v × (b ≡ el 0x30 (scrypt_params_content v)))
scrypt_params_spelled b v = (spelled_to b v, spelled_from b v)
