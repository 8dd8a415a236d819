-- Documents that are sealed under drawn octets.
use Rattle.std.proofs.Common.{◌≡◌, ℕ, List, Option, Result, Ok, Err, inr, refl, subst, length, lit<, lit≤}
use Rattle.std.specs.Prelude.{IfOk, IfErr}
use Rattle.asn1_core.specs.declared.error.Error.TheVariants as asn1
use Rattle.octet_core.specs.Draw.{DrawsIvAndSalt}
use Rattle.pkcs5.specs.Generation.{recommended}
use Rattle.pkcs5.specs.Opening.{FitsKey}
use Rattle.pkcs5.specs.declared.pbes2.parameters.Parameters.{Parameters}
use Rattle.pkcs8.specs.declared.error.Error.{Error}
use Rattle.pkcs8.specs.declared.error.Error.TheVariants as errors
use Rattle.pkcs8.specs.Sealing.{IsSealed, RefusesToEncryptDrawn, RefusesToSeal, RefusesToSealDrawn}
use Rattle.pkcs8.proofs.ShortKeys.{encrypts}

-- what is recommended gives a key, and is not DES
recommended_fits : (iv salt : List ℕ) → FitsKey (recommended iv salt)
recommended_fits iv salt = (
  tt,
  (
    14,
    refl,
    record {
      some_turns = lit≤ tt;
      word = lit≤ tt;
      wide = lit< tt;
      some_blocks = lit≤ tt;
      some_pieces = lit≤ tt;
      product = lit< tt;
      memory = lit< tt;
      pieces = lit< tt;
    },
  ),
)

refused : (lacks : Type 0) (iv salt q m : List ℕ) (e : Error) → length iv ≡ 16 → length salt ≡ 16 → RefusesToSeal (recommended iv salt) q m e → RefusesToSealDrawn lacks q m e
refused lacks iv salt q m (errors.EncryptedPrivateKey e) i s h = encrypts (recommended iv salt) e (recommended_fits iv salt) (λ des. des) h
refused lacks iv salt q m (errors.Asn1 asn1.Overlength) i s h = (iv, salt, i, s, h)
refused lacks iv salt q m (errors.Asn1 asn1.Malformed) i s h = absurd h
refused lacks iv salt q m (errors.Asn1 (asn1.OidUnknown o)) i s h = absurd h
refused lacks iv salt q m (errors.Asn1 asn1.NoRoom) i s h = absurd h
refused lacks iv salt q m (errors.Asn1 asn1.File) i s h = absurd h
refused lacks iv salt q m (errors.Asn1 asn1.Memory) i s h = absurd h
refused lacks iv salt q m (errors.KeyMalformed k) i s h = absurd h
refused lacks iv salt q m errors.ParametersMalformed i s h = absurd h
refused lacks iv salt q m (errors.PublicKey e) i s h = absurd h
refused lacks iv salt q m errors.Memory i s h = tt

module _ {X : Type 0} (octets : X → List ℕ) (old new : Option (List ℕ)) (par : Parameters) (q m : List ℕ) (d : DrawsIvAndSalt old new (λ iv salt. par ≡ recommended iv salt)) where
  pub sealed_drawn : (r : Result X Error) → IfOk r (λ x. IsSealed par q m (octets x)) → IfOk r (λ x. DrawsIvAndSalt old new (λ iv salt. IsSealed (recommended iv salt) q m (octets x)))
  sealed_drawn (Ok x) h = record { iv = d.iv; salt = d.salt; iv_long = d.iv_long; salt_long = d.salt_long; took = d.took; are = subst (λ (p : Parameters). IsSealed p q m (octets x)) d.are h }
  sealed_drawn (Err e) h = tt

  pub refused_drawn : (lacks : Type 0) (r : Result X Error) → IfErr r (λ e. RefusesToSeal par q m e) → IfErr r (λ e. RefusesToSealDrawn lacks q m e)
  refused_drawn lacks (Ok x) h = tt
  refused_drawn lacks (Err e) h = refused lacks d.iv d.salt q m e d.iv_long d.salt_long (subst (λ (p : Parameters). RefusesToSeal p q m e) d.are h)

-- what is said of a text, said of the same text, and of some text
pub of_text : {X E : Type 0} (Q : List ℕ → X → Type 0) (m n : List ℕ) → m ≡ n → (r : Result X E) → IfOk r (λ x. Q m x) → IfOk r (λ x. Q n x)
of_text Q m n e (Ok x) h = subst (λ (t : List ℕ). Q t x) e h
of_text Q m n e (Err f) h = tt

pub of_some_text : {X E : Type 0} (T : List ℕ → Type 0) (Q : List ℕ → X → Type 0) (m : List ℕ) → T m → (r : Result X E) → IfOk r (λ x. Q m x) → IfOk r (λ x. (t : List ℕ) × T t × Q t x)
of_some_text T Q m t (Ok x) h = (m, t, h)
of_some_text T Q m t (Err f) h = tt

-- why the text of a key is not sealed is why the key is not encrypted
unencrypted : (writable lacks : Type 0) (q m : List ℕ) (e : Error) → writable → RefusesToSealDrawn lacks q m e → RefusesToEncryptDrawn writable lacks q m e
unencrypted writable lacks q m (errors.EncryptedPrivateKey e) w h = (w, h)
unencrypted writable lacks q m (errors.Asn1 asn1.Overlength) w h = inr h
unencrypted writable lacks q m (errors.Asn1 asn1.Malformed) w h = absurd h
unencrypted writable lacks q m (errors.Asn1 (asn1.OidUnknown o)) w h = absurd h
unencrypted writable lacks q m (errors.Asn1 asn1.NoRoom) w h = absurd h
unencrypted writable lacks q m (errors.Asn1 asn1.File) w h = absurd h
unencrypted writable lacks q m (errors.Asn1 asn1.Memory) w h = absurd h
unencrypted writable lacks q m (errors.KeyMalformed k) w h = absurd h
unencrypted writable lacks q m errors.ParametersMalformed w h = absurd h
unencrypted writable lacks q m (errors.PublicKey e) w h = absurd h
unencrypted writable lacks q m errors.Memory w h = tt

pub unsealed : {X : Type 0} (writable lacks : Type 0) (q m n : List ℕ) → writable → m ≡ n → (r : Result X Error) → IfErr r (λ e. RefusesToSealDrawn lacks q m e) → IfErr r (λ e. RefusesToEncryptDrawn writable lacks q n e)
unsealed writable lacks q m n w same (Ok x) h = tt
unsealed writable lacks q m n w same (Err e) h = unencrypted writable lacks q n e w (subst (λ (t : List ℕ). RefusesToSealDrawn lacks q t e) same h)
