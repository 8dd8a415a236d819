-- lemmas only: nothing to believe here
-- Public keys are read exactly, and what is written of one is read again.
use Rattle.std.proofs.Common.{ℕ, Bool, List, [], ◌++◌, Option, refl, sym, ap, ◌∙◌}
use Rattle.std.specs.Prelude.{◌↔◌}
use Rattle.std.proofs.lemmas.List.{append-nil}
use Rattle.asn1_core.specs.Der.{el}
use Rattle.asn1_core.specs.Reading.{Front}
use Rattle.asn1_core.specs.Texts.{Exact, ExactAll, Whole, On, Ended, seen_option}
use Rattle.asn1_core.specs.declared.identifier.ObjectIdentifier.{ObjectIdentifier}
use Rattle.asn1_core.specs.ExactLaws.{on-exact, ended-exact, same-exact}
use Rattle.asn1_core.specs.ElementLaws.{within-exact}
use Rattle.der_core.specs.Optional.{writable_option}
use Rattle.spki.specs.declared.subject_public_key_info.SubjectPublicKeyInfo.{SubjectPublicKeyInfo}
use Rattle.spki.specs.Algorithm.{algorithm, algorithm_at, AlgorithmText, algorithm_content}
use Rattle.spki.specs.AlgorithmLaws.{algorithm-exact, algorithm_canonical, algorithm_spelled}
use Rattle.spki.specs.SubjectPublicKeyInfo.{public_key, public_key_of, public_key_at, PublicKeyOf, PublicKeyText, public_key_content, SpellsPublicKey}

module _ {V W : Type 0} (can : ℕ → Bool) (P : List ℕ → V → Type 0) (p : Front V) (exact : Exact P p) (whole : Whole can P) (K : List ℕ → W → Type 0) (q : Front W) (exact_key : Exact K q) where
  abbrev Parts : List ℕ → SubjectPublicKeyInfo V W → Type 0
  Parts = On (AlgorithmText P) (λ a. On K (λ k. Ended (public_key a k)))

  to : (b : List ℕ) (v : SubjectPublicKeyInfo V W) → Parts b v → PublicKeyOf P K b v
  to b v (a, r, x, h, (k, z, y, g, (none, is), e), f) =
      rw is (a, k, h, g, f ∙ ap (λ (l : List ℕ). a ++ l) (e ∙ rw none (append-nil k)))

  from : (b : List ℕ) (v : SubjectPublicKeyInfo V W) → PublicKeyOf P K b v → Parts b v
  from b v (a, k, h, g, is) = (a, k, v.algorithm, h, (k, [], v.subject_public_key, g, (refl, refl), sym (append-nil k)), is)

  pub public_key_of-exact : ExactAll (PublicKeyOf P K) (public_key_of can p q)
  public_key_of-exact = same-exact Parts (PublicKeyOf P K) (public_key_of can p q) to from
      (on-exact (AlgorithmText P) (λ a. On K (λ k. Ended (public_key a k))) (algorithm_at can p) _ (algorithm-exact can P p exact whole)
      (λ a. on-exact K (λ k. Ended (public_key a k)) q _ exact_key (λ k. ended-exact (public_key a k))))

  pub public_key-exact : Exact (PublicKeyText P K) (public_key_at can p q)
  public_key-exact = within-exact 0x30 (PublicKeyOf P K) (public_key_of can p q) refl public_key_of-exact

-- ---- what is written

module _ {A V B W : Type 0} (seen : A → V) (P : List ℕ → V → Type 0) (canon : A → List ℕ) (seen_key : B → W) (K : List ℕ → W → Type 0) (canon_key : B → List ℕ) where
  pub public_key_canonical : (writable : A → Type 0) → ((a : A) → writable a → P (canon a) (seen a)) → (o : ObjectIdentifier) (p : Option A) (k : B) → writable_option writable p → K (canon_key k) (seen_key k)
      → PublicKeyText P K (el 0x30 (public_key_content canon canon_key o p k)) (public_key (algorithm o (seen_option seen p)) (seen_key k))
  public_key_canonical writable again o p k h key =
      (public_key_content canon canon_key o p k, (el 0x30 (algorithm_content canon o p), canon_key k, algorithm_canonical seen P canon writable again o p h, key, refl), refl)

module _ {A V B W : Type 0} (seen : A → V) (P : List ℕ → V → Type 0) (writable : A → Type 0) (spell : List ℕ → A → Type 0) (spelled : (b : List ℕ) (a : A) → P b (seen a) ↔ (writable a × spell b a))
    (seen_key : B → W) (K : List ℕ → W → Type 0) (writable_key : B → Type 0) (spell_key : List ℕ → B → Type 0) (spelled_key : (b : List ℕ) (k : B) → K b (seen_key k) ↔ (writable_key k × spell_key b k)) where
  spelled_to : (b : List ℕ) (o : ObjectIdentifier) (p : Option A) (k : B) → PublicKeyText P K b (public_key (algorithm o (seen_option seen p)) (seen_key k))
      → (writable_option writable p × writable_key k) × SpellsPublicKey spell spell_key b o p k
  spelled_to b o p k (w, (a, q, r, s, is), e) =
      let t = (algorithm_spelled seen P writable spell spelled a o p).0 r in
      let u = (spelled_key q k).0 s in
      ((t.0, u.0), (a, q, t.1, u.1, e ∙ ap (λ (l : List ℕ). el 0x30 l) is))

  spelled_from : (b : List ℕ) (o : ObjectIdentifier) (p : Option A) (k : B) → (writable_option writable p × writable_key k) × SpellsPublicKey spell spell_key b o p k
      → PublicKeyText P K b (public_key (algorithm o (seen_option seen p)) (seen_key k))
  spelled_from b o p k ((h, i), (a, q, s, t, e)) =
      (a ++ q, (a, q, (algorithm_spelled seen P writable spell spelled a o p).1 (h, s), (spelled_key q k).1 (i, t), refl), e)

  pub public_key_spelled : (b : List ℕ) (o : ObjectIdentifier) (p : Option A) (k : B) → PublicKeyText P K b (public_key (algorithm o (seen_option seen p)) (seen_key k))
      ↔ ((writable_option writable p × writable_key k) × SpellsPublicKey spell spell_key b o p k)
  public_key_spelled b o p k = (spelled_to b o p k, spelled_from b o p k)
