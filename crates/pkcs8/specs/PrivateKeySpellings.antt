-- lemmas only: nothing to believe here
-- The spellings of a private key, and when two are equal.
use Rattle.std.specs.Prelude.{◌↔◌}
use Rattle.std.proofs.Common.{◌≡◌, ℕ, Bool, true, List, ◌∷◌, ◌++◌, ◌&&◌, Option, Some, None, sym, ap, ◌∙◌}
use Rattle.std.specs.Option.{option_eq}
use Rattle.asn1_core.specs.Der.{el, uint}
use Rattle.asn1_core.specs.OctetLaws.{both, and_true}
use Rattle.asn1_core.specs.Texts.{Within, Perhaps, seen_option}
use Rattle.asn1_core.specs.declared.identifier.ObjectIdentifier.{ObjectIdentifier}
use Rattle.der_core.specs.Optional.{writable_option}
use Rattle.der_core.specs.SameLaws.{option_same}
use Rattle.spki.specs.declared.algorithm.AlgorithmIdentifier.{AlgorithmIdentifier}
use Rattle.spki.specs.Algorithm.{algorithm}
use Rattle.spki.specs.AlgorithmLaws.{algorithm_spelled}
use Rattle.spki.specs.SameLaws.{Tells}
use Rattle.pkcs8.specs.declared.private_key_info.PrivateKeyInfo.{PrivateKeyInfo}
use Rattle.pkcs8.specs.PrivateKeyInfo.{private_key, version_of, PrivateKeyText, public_key_content, SpellsPrivateKey}
use Rattle.pkcs8.specs.PrivateKeyLaws.{version_seen, public_canonical}

module _ {A V K L B W : Type 0} (seen : A → V) (P : List ℕ → V → Type 0) (canon : A → List ℕ) (writable : A → Type 0) (spell : List ℕ → A → Type 0)
    (spelled : (b : List ℕ) (a : A) → P b (seen a) ↔ (writable a × spell b a))
    (seen_key : K → L) (R : List ℕ → L → Type 0) (canon_key : K → List ℕ) (writable_key : K → Type 0) (spell_key : List ℕ → K → Type 0)
    (spelled_key : (b : List ℕ) (k : K) → R b (seen_key k) ↔ (writable_key k × spell_key b k))
    (seen_public : B → W) (Q : List ℕ → W → Type 0) (bits : B → ℕ × List ℕ) (implicit : (k : B) → Q ((bits k).0 ∷ (bits k).1) (seen_public k))
    (sole : (b : List ℕ) (k : B) → Q b (seen_public k) → b ≡ (bits k).0 ∷ (bits k).1) where
  public_spelled : (b : List ℕ) (q : Option B) → Perhaps (Within 0x81 Q) b (seen_option seen_public q) → b ≡ public_key_content bits q
  public_spelled b None r = r
  public_spelled b (Some k) (w, r, e) = e ∙ ap (λ (l : List ℕ). el 0x81 l) (sole w k r)

  -- where the parts' texts are
  abbrev laid : ℕ → List ℕ → List ℕ → List ℕ → List ℕ → List ℕ → List ℕ
  laid n a l x r y = uint n ++ a ++ l ++ x ++ r ++ y

  spelled_to : (b : List ℕ) (o : ObjectIdentifier) (p : Option A) (k : K) (q : Option B) → PrivateKeyText P R Q b (private_key (algorithm o (seen_option seen p)) (seen_key k) (seen_option seen_public q))
      → (writable_option writable p × writable_key k) × SpellsPrivateKey bits spell spell_key b o p k q
  spelled_to b o p k q (w, (a, l, x, r, y, ra, rl, f, rq, g, is), e) =
      let one = (algorithm_spelled seen P writable spell spelled a o p).0 ra in
      let two = (spelled_key l k).0 rl in
      let content : w ≡ laid (version_of q) a l x (public_key_content bits q) y =
      is ∙ ap (λ (n : ℕ). laid n a l x r y) (version_seen seen_public q) ∙ ap (λ (z : List ℕ). laid (version_of q) a l x z y) (public_spelled r q rq) in
      ((one.0, two.0), (a, l, x, y, one.1, two.1, f, g, e ∙ ap (λ (z : List ℕ). el 0x30 z) content))

  spelled_from : (b : List ℕ) (o : ObjectIdentifier) (p : Option A) (k : K) (q : Option B) → (writable_option writable p × writable_key k) × SpellsPrivateKey bits spell spell_key b o p k q
      → PrivateKeyText P R Q b (private_key (algorithm o (seen_option seen p)) (seen_key k) (seen_option seen_public q))
  spelled_from b o p k q ((h, i), (a, l, x, y, s, t, f, g, e)) =
      let r = public_key_content bits q in
      let content : laid (version_of q) a l x r y ≡ laid (version_of (seen_option seen_public q)) a l x r y = ap (λ (n : ℕ). laid n a l x r y) (sym (version_seen seen_public q)) in (
        laid (version_of q) a l x r y,
        (
          a,
          l,
          x,
          r,
          y,
          (algorithm_spelled seen P writable spell spelled a o p).1 (h, s),
          (spelled_key l k).1 (i, t),
          f,
          public_canonical seen P canon seen_key R canon_key seen_public Q bits implicit q,
          g,
          content,
        ),
        e,
      )

  pub private_key_spelled : (b : List ℕ) (o : ObjectIdentifier) (p : Option A) (k : K) (q : Option B) → PrivateKeyText P R Q b (private_key (algorithm o (seen_option seen p)) (seen_key k) (seen_option seen_public q))
      ↔ ((writable_option writable p × writable_key k) × SpellsPrivateKey bits spell spell_key b o p k q)
  private_key_spelled b o p k q = (spelled_to b o p k q, spelled_from b o p k q)

-- ---- equality

pub private_key_same : {V L W K B : Type 0} (a b : AlgorithmIdentifier V) (alike : Bool) → (a ≡ b → alike ≡ true) × (alike ≡ true → a ≡ b)
    → (seen_key : K → L) (eq_key : K → K → Bool) → Tells seen_key eq_key → (seen_public : B → W) (eq_public : B → B → Bool) → Tells seen_public eq_public → (k l : K) (q r : Option B)
    → (private_key a (seen_key k) (seen_option seen_public q) ≡ private_key b (seen_key l) (seen_option seen_public r) → (alike && (eq_key k l && option_eq eq_public q r)) ≡ true)
    × ((alike && (eq_key k l && option_eq eq_public q r)) ≡ true → private_key a (seen_key k) (seen_option seen_public q) ≡ private_key b (seen_key l) (seen_option seen_public r))
private_key_same {V} {L} {W} {K} {B} a b alike algorithms seen_key eq_key tells_key seen_public eq_public tells_public k l q r =
    let publics = option_same seen_public eq_public tells_public q r in (
      λ e. and_true alike (eq_key k l && option_eq eq_public q r) (algorithms.0 (ap (λ (i : PrivateKeyInfo V L W). i.algorithm) e))
          (and_true (eq_key k l) (option_eq eq_public q r) ((tells_key k l).0 (ap (λ (i : PrivateKeyInfo V L W). i.private_key) e)) (publics.0 (ap (λ (i : PrivateKeyInfo V L W). i.public_key) e))),
      λ h.
          let t = both alike (eq_key k l && option_eq eq_public q r) h in
          let u = both (eq_key k l) (option_eq eq_public q r) t.1 in
          ap (λ (c : AlgorithmIdentifier V). private_key c (seen_key k) (seen_option seen_public q)) (algorithms.1 t.0)
          ∙ ap (λ (z : L). private_key b z (seen_option seen_public q)) ((tells_key k l).1 u.0)
          ∙ ap (λ (z : Option W). private_key b (seen_key l) z) (publics.1 u.1),
    )
