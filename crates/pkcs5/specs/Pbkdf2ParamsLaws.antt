-- lemmas only: nothing to believe here
-- Salts and the parameters of PBKDF2 are read exactly, and what is written of them is read again.
use Rattle.std.specs.Prelude.{◌↔◌}
use Rattle.std.proofs.Common.{◌≡◌, ℕ, ◌<◌, ◌≤◌, false, List, [], ◌∷◌, ◌++◌, length, Option, Some, None, Ok, refl, sym, ap, subst, ◌∙◌, append_assoc, arith, inl, inr, IsTrue, nat_lt, nat_eq}
use Rattle.std.proofs.lemmas.Bool.{ltb-true, lt-ltb}
use Rattle.std.proofs.lemmas.List.{append-nil}
use Rattle.asn1_core.specs.Der.{el, octets, uint, seq, shortest, is_tag}
use Rattle.asn1_core.specs.Fields.{OrNothing}
use Rattle.asn1_core.specs.Reading.{within, uint_at}
use Rattle.asn1_core.specs.Texts.{Exact, ExactAll, On, Ended, Within, Perhaps, Uint, UintOf}
use Rattle.asn1_core.specs.ExactLaws.{on-exact, ended-exact, same-exact, where_holds, where_true}
use Rattle.asn1_core.specs.ElementLaws.{within-exact, within-whole}
use Rattle.asn1_core.specs.NumberLaws.{uint-exact}
use Rattle.asn1_core.specs.OptionLaws.{OnOption, on_option-exact}
use Rattle.der_core.specs.Optional.{canon_option, writable_option}
use Rattle.pkcs5.specs.Salt.{IsSalt, SaltOf}
use Rattle.pkcs5.specs.Pbkdf2Prf.{PrfOf, PrfText, SpellsPrf, prf_content}
use Rattle.pkcs5.specs.PrfLaws.{prf-exact, prf_canonical, prf_spelled}
use Rattle.pkcs5.specs.Pbkdf2Params.{pbkdf2_params, Pbkdf2ParamsOf, Pbkdf2ParamsText, stated_prf, before_prf, pbkdf2_params_content, ArePbkdf2Params, SpellsPbkdf2Params}
use Rattle.pkcs5.specs.declared.pbes2.pbkdf2_params.Pbkdf2Params.{Pbkdf2Params}
use Rattle.pkcs5.specs.declared.pbes2.pbkdf2_prf.Pbkdf2Prf.{Pbkdf2Prf}
use Rattle.pkcs5.specs.declared.pbes2.pbkdf2_prf.Pbkdf2Prf.TheVariants.{HmacWithSha1, HmacWithSha224, HmacWithSha256, HmacWithSha384, HmacWithSha512}
use Rattle.pkcs5.specs.Reading.{salt_of, pbkdf2_prf_of, prf_or_default, pbkdf2_params_of, pbkdf2_params_at}

-- ---- salts

pub salt_of-exact : ExactAll SaltOf salt_of
salt_of-exact = record {
  found = λ b s e.
      let w = where_holds (nat_lt (length b) 33) b s e in
      let small : length b < 33 = ltb-true (length b) 33 w.0 in
      let le : length b ≤ 32 = omega arith in
      (sym w.1, subst IsSalt w.1 le);
  again = λ b s r short.
      let le : length b ≤ 32 = subst IsSalt r.0 r.1 in
      let small : length b < 33 = omega arith in
      where_true (nat_lt (length b) 33) b (lt-ltb (length b) 33 small) ∙ ap (λ (l : List ℕ). Ok l) (sym r.0);
}

pub salt_canonical : (s : List ℕ) → IsSalt s → Within 4 SaltOf (el 4 s) s
salt_canonical s h = (s, (refl, h), refl)

pub salt_spelled : (b s : List ℕ) → Within 4 SaltOf b s ↔ (IsSalt s × (b ≡ octets s))
salt_spelled b s = (
  λ r. (r.1.1, r.2 ∙ ap (λ (l : List ℕ). el 4 l) (sym r.1.0)),
  λ h. (s, (refl, h.0), h.1),
)

-- ---- parameters

abbrev Last : List ℕ → ℕ → Option ℕ → Option Pbkdf2Prf → List ℕ → Pbkdf2Params → Type 0
Last s n k f = Ended (pbkdf2_params s n k (prf_or_default f))

abbrev Parts : List ℕ → Pbkdf2Params → Type 0
Parts = On (Within 4 SaltOf) (λ s. On (Uint 4294967295) (λ n. OnOption (Uint 65535) (λ k. OnOption PrfText (Last s n k))))

-- what follows a key length that is absent is no number
begins : (t : ℕ) (l : List ℕ) (w : List ℕ) (q : List ℕ) → t ∷ l ≡ el 0x30 w ++ q → t ≡ 0x30
unfolding el
begins t l w q e = cc

apart : (t : ℕ) → t ≡ 0x30 → IsTrue (is_tag t) × (nat_eq t 2 ≡ false)
apart t e = rw e (refl, refl)

follows : (s : List ℕ) (n : ℕ) (t : ℕ) (l : List ℕ) (v : Pbkdf2Params) → OnOption PrfText (Last s n None) (t ∷ l) v → IsTrue (is_tag t) × (nat_eq t 2 ≡ false)
follows s n t l v (inl r) = absurd cc
follows s n t l v (inr r) = apart t (begins t l r.3.0 r.1 (r.5 ∙ ap (λ (x : List ℕ). x ++ r.1) r.3.2))

parts : ExactAll Parts pbkdf2_params_of
parts =
    on-exact (Within 4 SaltOf) _ (within 4 salt_of) _ (within-exact 4 SaltOf salt_of refl salt_of-exact)
    (λ s. on-exact (Uint 4294967295) _ (uint_at 4294967295) _ (uint-exact 4294967295)
    (λ n. on_option-exact (λ t. nat_eq t 2) (Uint 65535) (λ k. OnOption PrfText (Last s n k)) (uint_at 65535) _ (uint-exact 65535) (within-whole 2 (UintOf 65535) refl) (follows s n)
    (λ k. on_option-exact (λ t. nat_eq t 0x30) PrfText (Last s n k) (within 0x30 pbkdf2_prf_of) _ prf-exact (within-whole 0x30 PrfOf refl) (λ t l v h. absurd cc)
    (λ f. ended-exact (pbkdf2_params s n k (prf_or_default f))))))

-- the function at the end
prf_to : (s : List ℕ) (n : ℕ) (k : Option ℕ) (b : List ℕ) (v : Pbkdf2Params) → OnOption PrfText (Last s n k) b v → (f : Pbkdf2Prf) × OrNothing HmacWithSha1 PrfText b f × (v ≡ pbkdf2_params s n k f)
prf_to s n k b v (inl r) = (HmacWithSha1, inl (r.0, refl), r.1)
prf_to s n k b v (inr (p, q, f, r, x, is)) =
    (f, inr (subst (λ (l : List ℕ). PrfText l f) (sym (is ∙ ap (λ (l : List ℕ). p ++ l) x.0 ∙ append-nil p)) r), x.1)

prf_from : (s : List ℕ) (n : ℕ) (k : Option ℕ) (b : List ℕ) (f : Pbkdf2Prf) → OrNothing HmacWithSha1 PrfText b f → OnOption PrfText (Last s n k) b (pbkdf2_params s n k f)
prf_from s n k b f (inl r) = inl (r.0, ap (λ (g : Pbkdf2Prf). pbkdf2_params s n k g) r.1)
prf_from s n k b f (inr r) = inr (b, [], f, r, (refl, refl), sym (append-nil b))

-- the key length before it
abbrev Tail : List ℕ → ℕ → List ℕ → Pbkdf2Params → Type 0
Tail s n b v = (k : Option ℕ) × (f : Pbkdf2Prf) × (x : List ℕ) × (y : List ℕ) × Perhaps (Uint 65535) x k × OrNothing HmacWithSha1 PrfText y f × (b ≡ x ++ y) × (v ≡ pbkdf2_params s n k f)

tail_to : (s : List ℕ) (n : ℕ) (b : List ℕ) (v : Pbkdf2Params) → OnOption (Uint 65535) (λ k. OnOption PrfText (Last s n k)) b v → Tail s n b v
tail_to s n b v (inl r) = let f = prf_to s n None b v r in (None, f.0, [], b, refl, f.1, refl, f.2)
tail_to s n b v (inr (p, q, k, r, x, is)) = let f = prf_to s n (Some k) q v x in (Some k, f.0, p, q, r, f.1, is, f.2)

tail_from : (s : List ℕ) (n : ℕ) (k : Option ℕ) (x y : List ℕ) (f : Pbkdf2Prf) → Perhaps (Uint 65535) x k → OrNothing HmacWithSha1 PrfText y f
    → OnOption (Uint 65535) (λ k. OnOption PrfText (Last s n k)) (x ++ y) (pbkdf2_params s n k f)
tail_from s n None x y f r h = inl (subst (λ (l : List ℕ). OnOption PrfText (Last s n None) (l ++ y) (pbkdf2_params s n None f)) (sym r) (prf_from s n None y f h))
tail_from s n (Some k) x y f r h = inr (x, y, k, r, prf_from s n (Some k) y f h, refl)

-- four parts, one after the other
four : (s n k f : List ℕ) → s ++ (n ++ (k ++ f)) ≡ s ++ n ++ k ++ f
four s n k f = sym (append_assoc s n (k ++ f)) ∙ sym (append_assoc (s ++ n) k f)

joined : (p q r y k f b : List ℕ) → b ≡ p ++ q → q ≡ r ++ y → y ≡ k ++ f → b ≡ p ++ r ++ k ++ f
joined p q r y k f b e g h = e ∙ ap (λ (l : List ℕ). p ++ l) (g ∙ ap (λ (l : List ℕ). r ++ l) h) ∙ four p r k f

to : (b : List ℕ) (v : Pbkdf2Params) → Parts b v → Pbkdf2ParamsOf b v
to b v (p, q, s, h, (r, y, n, g, t, e), is) =
    let u = tail_to s n y v t in
    subst (Pbkdf2ParamsOf b) (sym u.7) (p, r, u.2, u.3, h, g, u.4, u.5, joined p q r y u.2 u.3 b is e u.6)

from : (b : List ℕ) (v : Pbkdf2Params) → Pbkdf2ParamsOf b v → Parts b v
from b v (s, n, k, f, h, g, r, x, is) =
    (s, n ++ (k ++ f), v.salt, h, (n, k ++ f, v.iteration_count, g, tail_from v.salt v.iteration_count v.key_length k f v.prf r x, refl), is ∙ sym (four s n k f))

pub pbkdf2_params_of-exact : ExactAll Pbkdf2ParamsOf pbkdf2_params_of
pbkdf2_params_of-exact = same-exact Parts Pbkdf2ParamsOf pbkdf2_params_of to from parts

pub pbkdf2_params-exact : Exact Pbkdf2ParamsText pbkdf2_params_at
pbkdf2_params-exact = within-exact 0x30 Pbkdf2ParamsOf pbkdf2_params_of refl pbkdf2_params_of-exact

-- ---- what is written

pub length_written : (k : Option ℕ) → writable_option (λ n. n ≤ 65535) k → Perhaps (Uint 65535) (canon_option uint k) k
length_written None h = refl
length_written (Some n) h = (shortest n, (h, refl), refl)

prf_written : (f : Pbkdf2Prf) → OrNothing HmacWithSha1 PrfText (canon_option (λ f. el 0x30 (prf_content f)) (stated_prf f)) f
prf_written HmacWithSha1 = inl (refl, refl)
prf_written HmacWithSha224 = inr (prf_canonical HmacWithSha224)
prf_written HmacWithSha256 = inr (prf_canonical HmacWithSha256)
prf_written HmacWithSha384 = inr (prf_canonical HmacWithSha384)
prf_written HmacWithSha512 = inr (prf_canonical HmacWithSha512)

pub pbkdf2_params_canonical : (v : Pbkdf2Params) → ArePbkdf2Params v → Pbkdf2ParamsText (el 0x30 (pbkdf2_params_content v)) v
pbkdf2_params_canonical v h = (
  pbkdf2_params_content v,
  (
    octets v.salt,
    uint v.iteration_count,
    canon_option uint v.key_length,
    canon_option (λ f. el 0x30 (prf_content f)) (stated_prf v.prf),
    salt_canonical v.salt h.0,
    (shortest v.iteration_count, (h.1, refl), refl),
    length_written v.key_length h.2,
    prf_written v.prf,
    refl,
  ),
  refl,
)

pub length_spelled : (k : Option ℕ) (b : List ℕ) → Perhaps (Uint 65535) b k → writable_option (λ n. n ≤ 65535) k × (b ≡ canon_option uint k)
length_spelled None b r = (tt, r)
length_spelled (Some n) b r = (r.1.0, r.2 ∙ ap (λ (l : List ℕ). el 2 l) r.1.1)

-- the function is left out, or spelled
prf_spelled_to : (b : List ℕ) (f : Pbkdf2Prf) → OrNothing HmacWithSha1 PrfText b f → OrNothing HmacWithSha1 SpellsPrf b f
prf_spelled_to b f (inl r) = inl r
prf_spelled_to b f (inr r) = inr ((prf_spelled b f).0 r).1

prf_spelled_from : (b : List ℕ) (f : Pbkdf2Prf) → OrNothing HmacWithSha1 SpellsPrf b f → OrNothing HmacWithSha1 PrfText b f
prf_spelled_from b f (inl r) = inl r
prf_spelled_from b f (inr r) = inr ((prf_spelled b f).1 (tt, r))

spelled_to : (b : List ℕ) (v : Pbkdf2Params) → Pbkdf2ParamsText b v → ArePbkdf2Params v × SpellsPbkdf2Params b v
spelled_to b v (w, (s, n, k, f, h, g, r, x, is), e) =
    let salt = (salt_spelled s v.salt).0 h in
    let count : n ≡ uint v.iteration_count = g.2 ∙ ap (λ (l : List ℕ). el 2 l) g.1.1 in
    let long = length_spelled v.key_length k r in
    let front : s ++ n ++ k ≡ before_prf v = rw (salt.1, count, long.1) refl in
    ((salt.0, g.1.0, long.0), (f, prf_spelled_to f v.prf x, e ∙ ap (λ (l : List ℕ). seq l) (is ∙ ap (λ (l : List ℕ). l ++ f) front)))

spelled_from : (b : List ℕ) (v : Pbkdf2Params) → ArePbkdf2Params v × SpellsPbkdf2Params b v → Pbkdf2ParamsText b v
spelled_from b v (h, (f, x, e)) = (
  before_prf v ++ f,
  (
    octets v.salt,
    uint v.iteration_count,
    canon_option uint v.key_length,
    f,
    salt_canonical v.salt h.0,
    (shortest v.iteration_count, (h.1, refl), refl),
    length_written v.key_length h.2,
    prf_spelled_from f v.prf x,
    refl,
  ),
  e,
)

pub pbkdf2_params_spelled : (b : List ℕ) (v : Pbkdf2Params) → Pbkdf2ParamsText b v ↔ (ArePbkdf2Params v × SpellsPbkdf2Params b v)
pbkdf2_params_spelled b v = (spelled_to b v, spelled_from b v)
