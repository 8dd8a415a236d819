-- The texts of a value are its canonical text and its other spellings.
use Rattle.std.proofs.Common.{◌≡◌, ℕ, ◌^◌, ◌-◌, List, [], ◌++◌, refl, sym, ap, subst, ◌∙◌, inl, inr, ◌⊎◌, append-nil}
use Rattle.asn1_core.specs.Der.{el, seq, oid, octets, uint, null}
use Rattle.asn1_core.specs.Oid.{oid_octets}
use Rattle.asn1_core.specs.Texts.{Uint, Inside, Oid}
use Rattle.asn1_core.specs.Sets.{IsRead}
use Rattle.asn1_core.specs.declared.identifier.ObjectIdentifier.{ObjectIdentifier}
use Rattle.asn1_core.proofs.SetLaws.{told_apart, told_back}
use Rattle.pkcs5.specs.Identifiers.{pbes2_oid}
use Rattle.pkcs5.specs.ParametersLaws.{parameters_spelled}
use Rattle.p12.specs.Identifiers.{sha1_oid, sha256_oid, rc2_scheme_oid, triple_des_scheme_oid}
use Rattle.p12.specs.AlgorithmIdentifier.{AlgorithmCase, AlgorithmText, ParamsText}
use Rattle.p12.specs.DigestInfo.{DigestText}
use Rattle.p12.specs.MacData.{MacText}
use Rattle.p12.specs.EncryptedPrivateKeyInfo.{EncryptedKeyText}
use Rattle.p12.specs.Canonical.{params_canon, algorithm_canon, digest_canon, mac_canon, encrypted_key_canon}
use Rattle.p12_laws.specs.Spellings.{HasOneText, IsSpelled, SpellsAlgorithm, SpellsCount, SpellsDigest, SpellsEncryptedKey, SpellsHash, SpellsMac}
use Rattle.p12.proofs.Again.{Count, count_again, algorithm_again, digest_again, encrypted_key_again, known, mac_again, one_left, params_again, raw_is}
use Rattle.p12.specs.declared.pkcs12_pbe_params.Pkcs12PbeParams.{Pkcs12PbeParams}
use Rattle.p12.specs.declared.algorithm_identifier.AlgorithmIdentifier.{AlgorithmIdentifier}
use Rattle.p12.specs.declared.algorithm_identifier.AlgorithmIdentifier.TheVariants.{Sha1, Sha256, PbewithSHAAnd40BitRC2CBC, PbeWithSHAAnd3KeyTripleDESCBC, Pbes2, OtherAlg}
use Rattle.p12.specs.declared.digest_info.DigestInfo.{DigestInfo}
use Rattle.p12.specs.declared.mac_data.MacData.{MacData}
use Rattle.p12.specs.declared.encrypted_private_key_info.EncryptedPrivateKeyInfo.{EncryptedPrivateKeyInfo}

-- ---- parts with one text

pub inside_is : (tag : ℕ) (b v : List ℕ) → Inside tag b v → b ≡ el tag v
inside_is tag b v (s, l, e) = e ∙ ap (λ (x : List ℕ). el tag x) (sym l)

pub uint_is : (max : ℕ) (b : List ℕ) (n : ℕ) → Uint max b n → b ≡ uint n
uint_is max b n (s, (le, is), e) = e ∙ ap (λ (x : List ℕ). el 0x02 x) is

pub oid_is : (b : List ℕ) (k : ObjectIdentifier) → Oid b k → b ≡ oid (oid_octets k)
oid_is b k (s, is, e) = e ∙ ap (λ (x : List ℕ). el 0x06 x) is

-- the last part of a row
pub last_is : (x y z c : List ℕ) → x ≡ c → y ≡ [] → z ≡ x ++ y → z ≡ c
last_is x y z c is nil e = e ∙ ap (λ (l : List ℕ). x ++ l) nil ∙ append-nil x ∙ is

-- two parts
pub parts_are : (x y z c d : List ℕ) → x ≡ c → y ≡ d → z ≡ x ++ y → z ≡ c ++ d
parts_are x y z c d p q e = e ∙ ap (λ (l : List ℕ). l ++ y) p ∙ ap (λ (l : List ℕ). c ++ l) q

-- an element of these parts
pub whole_is : (tag : ℕ) (b w v : List ℕ) → b ≡ el tag w → w ≡ v → b ≡ el tag v
whole_is tag b w v e is = e ∙ ap (λ (x : List ℕ). el tag x) is

-- a SEQUENCE of a known identifier, and what comes after it
pub behind : (k : ObjectIdentifier) (name p q w b : List ℕ) → Oid p k → oid_octets k ≡ name → w ≡ p ++ q → b ≡ el 0x30 w → b ≡ seq (oid name ++ q)
behind k name p q w b o is e e0 = whole_is 0x30 b w (oid name ++ q) e0 (parts_are p q w (oid name) q (oid_is p k o ∙ ap oid is) refl e)

pub at : {A : Type 0} (R : List ℕ → A → Type 0) (v : A) (b c : List ℕ) → R c v → b ≡ c → R b v
at R v b c r e = subst (λ (x : List ℕ). R x v) (sym e) r

-- ---- a law of both directions

pub spelled : {A : Type 0} (R : List ℕ → A → Type 0) (canon : A → List ℕ) (Spell : List ℕ → A → Type 0) → ((v : A) → IsRead R v → R (canon v) v)
    → ((b : List ℕ) (v : A) → R b v → Spell b v) → ((v : A) → IsRead R v → (b : List ℕ) → Spell b v → R b v) → IsSpelled R canon Spell
spelled R canon Spell again to from v h b =
    (λ r. told_apart Spell canon b v (to b v r), λ s. from v h b (told_back Spell canon b v (to (canon v) v (again v h)) s))

pub one_text : {A : Type 0} (R : List ℕ → A → Type 0) (canon : A → List ℕ) → ((v : A) → IsRead R v → R (canon v) v) → ((b : List ℕ) (v : A) → R b v → b ≡ canon v) → HasOneText R canon
one_text R canon again to v h b = (λ r. to b v r, λ e. at R v b (canon v) (again v h) e)

-- ---- algorithms

params_text : (b : List ℕ) (p : Pkcs12PbeParams) → ParamsText b p → b ≡ params_canon p
params_text b p (w, (x, y, r, (u, z, s, e2, e1), e), e0) =
    whole_is 0x30 b w (octets p.salt ++ uint p.iterations) e0
    (parts_are x y w (octets p.salt) (uint p.iterations) (inside_is 0x04 x p.salt r) (last_is u z y (uint p.iterations) (uint_is (2 ^ 64 - 1) u p.iterations s) e2 e1) e)

pub params_spelled : HasOneText ParamsText params_canon
params_spelled = one_text ParamsText params_canon params_again params_text

hash_text : (b name q : List ℕ) → b ≡ seq (oid name ++ q) → (q ≡ []) ⊎ (q ≡ null) → SpellsHash b name
hash_text b name q is (inl nil) = inr (is ∙ ap (λ (l : List ℕ). seq (oid name ++ l)) nil ∙ ap (λ (l : List ℕ). seq l) (append-nil (oid name)))
hash_text b name q is (inr e) = inl (is ∙ ap (λ (l : List ℕ). seq (oid name ++ l)) e)

pub algorithm_text : (b : List ℕ) (v : AlgorithmIdentifier) → AlgorithmText b v → SpellsAlgorithm b v
algorithm_text b Sha1 (w, (p, q, k, o, (is, r), e), e0) = hash_text b sha1_oid q (behind k sha1_oid p q w b o is e e0) r
algorithm_text b Sha256 (w, (p, q, k, o, (is, r), e), e0) = hash_text b sha256_oid q (behind k sha256_oid p q w b o is e e0) r
algorithm_text b (PbewithSHAAnd40BitRC2CBC v) (w, (p, q, k, o, (is, r), e), e0) =
    behind k rc2_scheme_oid p q w b o is e e0 ∙ ap (λ (l : List ℕ). seq (oid rc2_scheme_oid ++ l)) (params_text q v r)
algorithm_text b (PbeWithSHAAnd3KeyTripleDESCBC v) (w, (p, q, k, o, (is, r), e), e0) =
    behind k triple_des_scheme_oid p q w b o is e e0 ∙ ap (λ (l : List ℕ). seq (oid triple_des_scheme_oid ++ l)) (params_text q v r)
algorithm_text b (Pbes2 v) (w, (p, q, k, o, (is, r), e), e0) = (q, ((parameters_spelled q v).0 r).1, behind k pbes2_oid p q w b o is e e0)
algorithm_text b (OtherAlg v) (w, (p, q, k, o, c, e), e0) =
    behind k (oid_octets v.algorithm_type) p q w b o (ap oid_octets (sym c.5)) e e0 ∙ ap (λ (l : List ℕ). seq (oid (oid_octets v.algorithm_type) ++ l)) (raw_is q v.params c.6)

-- the hash k
hash_of_spelling : (k : ObjectIdentifier) (name b : List ℕ) (v : AlgorithmIdentifier) → oid_octets k ≡ name → ((q : List ℕ) → (q ≡ []) ⊎ (q ≡ null) → AlgorithmCase k q v) → SpellsHash b name → AlgorithmText b v
hash_of_spelling k name b v is fits (inl e) = at AlgorithmText v b (seq (oid name ++ null)) (known AlgorithmCase k name null v is (fits null (inr refl))) e
hash_of_spelling k name b v is fits (inr e) =
    at AlgorithmText v b (seq (oid name ++ [])) (known AlgorithmCase k name [] v is (fits [] (inl refl))) (e ∙ ap (λ (l : List ℕ). seq l) (sym (append-nil (oid name))))

pub algorithm_of_spelling : (v : AlgorithmIdentifier) → IsRead AlgorithmText v → (b : List ℕ) → SpellsAlgorithm b v → AlgorithmText b v
algorithm_of_spelling Sha1 (t, (w, (p, q, k, o, (is, r), e), e0)) b s = hash_of_spelling k sha1_oid b Sha1 is (λ q h. (is, h)) s
algorithm_of_spelling Sha256 (t, (w, (p, q, k, o, (is, r), e), e0)) b s = hash_of_spelling k sha256_oid b Sha256 is (λ q h. (is, h)) s
algorithm_of_spelling (PbewithSHAAnd40BitRC2CBC v) h b s = at AlgorithmText (PbewithSHAAnd40BitRC2CBC v) b (algorithm_canon (PbewithSHAAnd40BitRC2CBC v)) (algorithm_again (PbewithSHAAnd40BitRC2CBC v) h) s
algorithm_of_spelling (PbeWithSHAAnd3KeyTripleDESCBC v) h b s =
    at AlgorithmText (PbeWithSHAAnd3KeyTripleDESCBC v) b (algorithm_canon (PbeWithSHAAnd3KeyTripleDESCBC v)) (algorithm_again (PbeWithSHAAnd3KeyTripleDESCBC v) h) s
algorithm_of_spelling (Pbes2 v) (t, (w, (p, q, k, o, (is, r), e), e0)) b (x, s, eb) =
    at AlgorithmText (Pbes2 v) b (seq (oid pbes2_oid ++ x)) (known AlgorithmCase k pbes2_oid x (Pbes2 v) is (is, (parameters_spelled x v).1 (((parameters_spelled q v).0 r).0, s))) eb
algorithm_of_spelling (OtherAlg v) h b s = at AlgorithmText (OtherAlg v) b (algorithm_canon (OtherAlg v)) (algorithm_again (OtherAlg v) h) s

pub algorithm_spelled : IsSpelled AlgorithmText algorithm_canon SpellsAlgorithm
algorithm_spelled = spelled AlgorithmText algorithm_canon SpellsAlgorithm algorithm_again algorithm_text algorithm_of_spelling

-- ---- the MAC

pub digest_text : (b : List ℕ) (d : DigestInfo) → DigestText b d → SpellsDigest b d
digest_text b d (w, (x, y, r, (z, u, s, e2, e1), e), e0) = (
  x,
  algorithm_text x d.digest_algorithm r,
  whole_is 0x30 b w (x ++ octets d.digest) e0
      (parts_are x y w x (octets d.digest) refl (last_is z u y (octets d.digest) (inside_is 0x04 z d.digest s) e2 e1) e),
)

pub digest_of_spelling : (d : DigestInfo) → IsRead DigestText d → (b : List ℕ) → SpellsDigest b d → DigestText b d
digest_of_spelling d (t, (w, (x, y, r, s, e), e0)) b (a, sp, is) =
    (a ++ octets d.digest, (a, octets d.digest, algorithm_of_spelling d.digest_algorithm (x, r) a sp, one_left (Inside 0x04) d (λ d. d.digest) (octets d.digest) (d.digest, refl, refl), refl), is)

pub digest_spelled : IsSpelled DigestText digest_canon SpellsDigest
digest_spelled = spelled DigestText digest_canon SpellsDigest digest_again digest_text digest_of_spelling

count_text : (b : List ℕ) (n : ℕ) → Count b n → SpellsCount b n
count_text b n (inl (nil, is)) = inr (nil, is)
count_text b n (inr u) = inl (uint_is (2 ^ 32 - 1) b n u)

count_of_spelling : (t b : List ℕ) (n : ℕ) → Count t n → SpellsCount b n → Count b n
count_of_spelling t b n c (inl e) = at Count n b (uint n) (count_again t n c) e
count_of_spelling t b n c (inr s) = inl s

pub mac_text : (b : List ℕ) (m : MacData) → MacText b m → SpellsMac b m
mac_text b m (w, (x, y, r, (x2, y2, s, (x3, y3, n, e3, e2), e1), e), e0) = (
  x,
  x3,
  digest_text x m.mac r,
  count_text x3 m.iterations n,
  whole_is 0x30 b w (x ++ (octets m.salt ++ x3)) e0
      (parts_are x y w x (octets m.salt ++ x3) refl (parts_are x2 y2 y (octets m.salt) x3 (inside_is 0x04 x2 m.salt s) (last_is x3 y3 y2 x3 refl e3 e2) e1) e),
)

pub mac_of_spelling : (m : MacData) → IsRead MacText m → (b : List ℕ) → SpellsMac b m → MacText b m
mac_of_spelling m (t, (w, (x, y, r, (x2, y2, s, (x3, y3, n, e3, e2), e1), e), e0)) b (d, c, sd, sc, is) =
    (d ++ (octets m.salt ++ c), (d, octets m.salt ++ c, digest_of_spelling m.mac (x, r) d sd, (octets m.salt, c, (m.salt, refl, refl), one_left Count m (λ m. m.iterations) c (count_of_spelling x3 c m.iterations n sc), refl), refl), is)

pub mac_spelled : IsSpelled MacText mac_canon SpellsMac
mac_spelled = spelled MacText mac_canon SpellsMac mac_again mac_text mac_of_spelling

-- ---- encrypted keys

pub encrypted_key_text : (b : List ℕ) (d : EncryptedPrivateKeyInfo) → EncryptedKeyText b d → SpellsEncryptedKey b d
encrypted_key_text b d (w, (x, y, r, (z, u, s, e2, e1), e), e0) = (
  x,
  algorithm_text x d.encryption_algorithm r,
  whole_is 0x30 b w (x ++ octets d.encrypted_data) e0
      (parts_are x y w x (octets d.encrypted_data) refl (last_is z u y (octets d.encrypted_data) (inside_is 0x04 z d.encrypted_data s) e2 e1) e),
)

pub encrypted_key_of_spelling : (d : EncryptedPrivateKeyInfo) → IsRead EncryptedKeyText d → (b : List ℕ) → SpellsEncryptedKey b d → EncryptedKeyText b d
encrypted_key_of_spelling d (t, (w, (x, y, r, s, e), e0)) b (a, sp, is) =
    (a ++ octets d.encrypted_data, (a, octets d.encrypted_data, algorithm_of_spelling d.encryption_algorithm (x, r) a sp, one_left (Inside 0x04) d (λ d. d.encrypted_data) (octets d.encrypted_data) (d.encrypted_data, refl, refl), refl), is)

pub encrypted_key_spelled : IsSpelled EncryptedKeyText encrypted_key_canon SpellsEncryptedKey
encrypted_key_spelled = spelled EncryptedKeyText encrypted_key_canon SpellsEncryptedKey encrypted_key_again encrypted_key_text encrypted_key_of_spelling
