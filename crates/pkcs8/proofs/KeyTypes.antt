-- Key types: what they return of sealed documents and of files.
use Rattle.std.proofs.Common.{◌≡◌, ℕ, List, Result, Ok, Err, inl, inr, sym, subst}
use Rattle.std.specs.Prelude.{IfOk, IfErr}
use Rattle.pkcs5.specs.SchemeOpening.{SchemeOpens}
use Rattle.pkcs5.specs.declared.encryption_scheme.EncryptionScheme.{EncryptionScheme}
use Rattle.pkcs8.specs.EncryptedPrivateKeyInfo.{IsEncryptedKey, encrypted_key}
use Rattle.pkcs8.specs.KeyTypes.{IsLocked, IsNoKey, IsUnlocked, OfKey}
use Rattle.pkcs8.specs.Sealing.{RefusesToDecrypt}
use Rattle.pkcs8.specs.Seen.{AnyPrivateKey}
use Rattle.pkcs8.specs.declared.error.Error.{Error}

-- a key in a file
pub key_in_file : {K : Type 0} (holds : AnyPrivateKey → K → Type 0) (b : List ℕ) (r : Result K Error) → IfOk r (λ k. OfKey (λ i. holds i k) b)
    → IfOk r (λ k. (b : List ℕ) × OfKey (λ i. holds i k) b)
key_in_file holds b (Ok k) h = (b, h)
key_in_file holds b (Err e) h = tt

-- a document that was read
module _ (b q : List ℕ) (s : EncryptionScheme) (c : List ℕ) (is : IsEncryptedKey b (encrypted_key s c)) where
  pub locked : (refuses : AnyPrivateKey → Error → Type 0) (e : Error) → RefusesToDecrypt s q c e → IsLocked refuses b q e
  locked refuses e h = inr (inl (s, c, is, h))

  -- and that opens to the text m, which is that of n
  module _ (m n : List ℕ) (same : n ≡ m) (opens : SchemeOpens s q c m) where
    unlocked_is : IsUnlocked b q n
    unlocked_is = (s, c, is, subst (λ (x : List ℕ). SchemeOpens s q c x) (sym same) opens)

    pub unlocked : {K : Type 0} (holds : AnyPrivateKey → K → Type 0) (r : Result K Error) → IfOk r (λ k. OfKey (λ i. holds i k) n)
        → IfOk r (λ k. (x : List ℕ) × IsUnlocked b q x × OfKey (λ i. holds i k) x)
    unlocked holds (Ok k) h = (n, unlocked_is, h)
    unlocked holds (Err e) h = tt

    pub locked_text : {K : Type 0} (refuses : AnyPrivateKey → Error → Type 0) (r : Result K Error) → IfErr r (λ e. IsNoKey refuses n e) → IfErr r (λ e. IsLocked refuses b q e)
    locked_text refuses (Ok k) h = tt
    locked_text refuses (Err e) h = inr (inr (n, unlocked_is, h))
