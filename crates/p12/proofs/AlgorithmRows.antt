-- Algorithms, digests and MACs are read exactly.
use Rattle.std.proofs.Common.{◌≡◌, ℕ, ◌-◌, ◌^◌, Bool, true, false, List, [], Option, Some, None, Ok, Err, refl, sym, ap, subst, ◌∙◌, inl, inr, ◌⊎◌}
use Rattle.std.specs.Prelude.{◌≢◌, Result}
use Rattle.std.specs.Str.{bytes_eq}
use Rattle.std.proofs.lemmas.Slice.Eq.{bytes_eq-Decides}
use Rattle.asn1_core.specs.Der.{el, IsShort, null}
use Rattle.asn1_core.specs.Texts.{Exact, ExactAll, Ended, Made, Perhaps, Within, Raw, Uint, UintOf}
use Rattle.asn1_core.specs.Oid.{oid_octets}
use Rattle.asn1_core.specs.declared.identifier.ObjectIdentifier.{ObjectIdentifier}
use Rattle.asn1_core.specs.ExactLaws.{ended-exact, same-exact}
use Rattle.asn1_core.specs.ElementLaws.{inside-exact, raw-exact}
use Rattle.asn1_core.specs.NumberLaws.{uint-exact}
use Rattle.asn1_core.specs.Fields.{ByCase}
use Rattle.asn1_core.specs.FieldLaws.{sequence, field, end, last, or_nothing-exact, choice, variant, inside, identified, within_some, raw_some, all_of, if_there}
use Rattle.asn1_core.specs.Reading.{Fault, All}
use Rattle.pkcs5.specs.Identifiers.{pbes2_oid}
use Rattle.pkcs5.specs.Parameters.{ParametersText}
use Rattle.pkcs5.specs.ParametersLaws.{parameters-exact}
use Rattle.p12.specs.declared.other_algorithm_identifier.OtherAlgorithmIdentifier.{OtherAlgorithmIdentifier}
use Rattle.p12.specs.Identifiers.{sha1_oid, sha256_oid, rc2_scheme_oid, triple_des_scheme_oid}
use Rattle.p12.specs.AlgorithmIdentifier.{ParamsText, NoScheme, AlgorithmCase, AlgorithmText}
use Rattle.p12.specs.DigestInfo.{DigestText}
use Rattle.p12.specs.MacData.{MacText}
use Rattle.p12.specs.Reading.{null_at, params_at, first_ok, or_else, algorithm_all, algorithm_at, digest_at, mac_at}
use Rattle.p12.specs.declared.pkcs12_pbe_params.Pkcs12PbeParams.{Pkcs12PbeParams}
use Rattle.p12.specs.declared.algorithm_identifier.AlgorithmIdentifier.{AlgorithmIdentifier}
use Rattle.p12.specs.declared.algorithm_identifier.AlgorithmIdentifier.TheVariants.{Sha1, Sha256, PbewithSHAAnd40BitRC2CBC, PbeWithSHAAnd3KeyTripleDESCBC, Pbes2, OtherAlg}
use Rattle.p12.specs.declared.digest_info.DigestInfo.{DigestInfo}
use Rattle.p12.specs.declared.mac_data.MacData.{MacData}

-- one known identifier is not another
pub another : (k a b : List ℕ) → k ≡ a → bytes_eq a b ≡ false → k ≢ b
another k a b is e same = let t = (bytes_eq-Decides a b).1 (sym is ∙ same) in absurd cc

-- NULL
abbrev pub Null : List ℕ → Unit {0} → Type 0
Null = Within 0x05 (Ended tt)

null-exact : Exact Null null_at
null-exact = inside 0x05 refl (ended-exact tt)

-- nothing, or NULL
nullable : (q : List ℕ) → (o : Option (Unit {0})) → Perhaps Null q o → (q ≡ []) ⊎ (q ≡ null)
nullable q None r = inl r
nullable q (Some u) r = inr (r.2 ∙ ap (λ (p : List ℕ). el 0x05 p) r.1.0)

nullable_from : (q : List ℕ) → (q ≡ []) ⊎ (q ≡ null) → (o : Option (Unit {0})) × Perhaps Null q o
nullable_from q (inl e) = (None, e)
nullable_from q (inr e) = (Some tt, ([], (refl, refl), e))

abbrev made_params : List ℕ → ℕ → Pkcs12PbeParams
made_params s n = record { salt = s; iterations = n }

pub params-exact : Exact ParamsText params_at
unfolding params_at
params-exact = sequence 0x30 refl (field (λ p. p.salt) (inside-exact 0x04 refl) (λ s. field (λ p. p.iterations) (uint-exact (2 ^ 64 - 1)) (λ n. end (made_params s n) ((tt, refl), refl) (λ w c i. made_params (c.0.1 i) (c.1 i)))))

abbrev other_algorithm : ObjectIdentifier → Option (List ℕ) → AlgorithmIdentifier
other_algorithm k e = OtherAlg (record { algorithm_type = k; params = e })

not_both : {A : Type 0} (x : Fault) (w : A) → Err x ≡ Ok w → ⊥
not_both x w e = absurd cc

-- a text of the first, or where it is none of it of the second
abbrev OrElse : {A : Type 0} → (List ℕ → A → Type 0) → (List ℕ → A → Type 0) → List ℕ → A → Type 0
OrElse {A = A} R S b v = R b v ⊎ (((w : A) → R b w → IsShort b → ⊥) × S b v)

or_else-exact : {A : Type 0} {R S : List ℕ → A → Type 0} {p q : All A} → ExactAll R p → ExactAll S q → ExactAll (OrElse R S) (or_else p q)
or_else-exact {A = A} {R = R} {S = S} {p = p} {q = q} e f = record {
  found = λ b v h. found b v (p b) refl h;
  again = again;
}
  where
    found : (b : List ℕ) (v : A) (r : Result A Fault) → p b ≡ r → first_ok r (q b) ≡ Ok v → OrElse R S b v
    found b v (Ok w) is h = inl (e.found b v (is ∙ h))
    found b v (Err x) is h = inr (λ w r short. not_both x w (sym is ∙ e.again b w r short), f.found b v h)

    second : (b : List ℕ) (v : A) (r : Result A Fault) → p b ≡ r → ((w : A) → R b w → IsShort b → ⊥) → S b v → IsShort b → first_ok r (q b) ≡ Ok v
    second b v (Ok w) is none s short = absurd (none w (e.found b w is) short)
    second b v (Err x) is none s short = f.again b v s short

    again : (b : List ℕ) (v : A) → OrElse R S b v → IsShort b → or_else p q b ≡ Ok v
    again b v (inl r) short = rw (e.again b v r short) refl
    again b v (inr (none, s)) short = second b v (p b) refl none s short

abbrev AlgorithmChoice : ObjectIdentifier → List ℕ → AlgorithmIdentifier → Type 0
AlgorithmChoice k =
    ByCase (oid_octets k) sha1_oid (Made (λ o. Sha1) (Perhaps Null)) (ByCase (oid_octets k) sha256_oid (Made (λ o. Sha256) (Perhaps Null))
    (ByCase (oid_octets k) rc2_scheme_oid (Made PbewithSHAAnd40BitRC2CBC ParamsText) (ByCase (oid_octets k) triple_des_scheme_oid (Made PbeWithSHAAnd3KeyTripleDESCBC ParamsText)
    (ByCase (oid_octets k) pbes2_oid (OrElse (Made Pbes2 ParametersText) (Made (other_algorithm k) (Perhaps Raw))) (Made (other_algorithm k) (Perhaps Raw))))))

no_scheme : (q : List ℕ) → ((v : AlgorithmIdentifier) → Made Pbes2 ParametersText q v → IsShort q → ⊥) → NoScheme q
no_scheme q none par r short = none (Pbes2 par) (par, r, refl) short

algorithm_to : (k : ObjectIdentifier) (q : List ℕ) (v : AlgorithmIdentifier) → AlgorithmChoice k q v → AlgorithmCase k q v
algorithm_to k q v (inl (is, (o, r, e))) = subst (AlgorithmCase k q) (sym e) (is, nullable q o r)
algorithm_to k q v (inr (n1, inl (is, (o, r, e)))) = subst (AlgorithmCase k q) (sym e) (is, nullable q o r)
algorithm_to k q v (inr (n1, inr (n2, inl (is, (o, r, e))))) = subst (AlgorithmCase k q) (sym e) (is, r)
algorithm_to k q v (inr (n1, inr (n2, inr (n3, inl (is, (o, r, e)))))) = subst (AlgorithmCase k q) (sym e) (is, r)
algorithm_to k q v (inr (n1, inr (n2, inr (n3, inr (n4, inl (is, inl (o, r, e))))))) = subst (AlgorithmCase k q) (sym e) (is, r)
algorithm_to k q v (inr (n1, inr (n2, inr (n3, inr (n4, inl (is, inr (none, (o, r, e)))))))) = subst (AlgorithmCase k q) (sym e) (n1, n2, n3, n4, (λ _. no_scheme q none), refl, r)
algorithm_to k q v (inr (n1, inr (n2, inr (n3, inr (n4, inr (n5, (o, r, e))))))) = subst (AlgorithmCase k q) (sym e) (n1, n2, n3, n4, (λ is. absurd (n5 is)), refl, r)

-- another algorithm, by whether its identifier is that of PBES2
other_from : (k : ObjectIdentifier) (q : List ℕ) (o : OtherAlgorithmIdentifier) → AlgorithmCase k q (OtherAlg o) → (b : Bool) → bytes_eq (oid_octets k) pbes2_oid ≡ b → AlgorithmChoice k q (OtherAlg o)
other_from k q o (n1, n2, n3, n4, none, is, r) true t =
    let same = (bytes_eq-Decides (oid_octets k) pbes2_oid).0 t in
    inr (n1, inr (n2, inr (n3, inr (n4, inl (same, inr (not_pbes2 same, (o.params, r, ap (λ (t : ObjectIdentifier). other_algorithm t o.params) is)))))))
  where
    not_pbes2 : oid_octets k ≡ pbes2_oid → (w : AlgorithmIdentifier) → Made Pbes2 ParametersText q w → IsShort q → ⊥
    not_pbes2 same w (par, s, e) short = none same par s short
other_from k q o (n1, n2, n3, n4, none, is, r) false t =
    inr (n1, inr (n2, inr (n3, inr (n4, inr ((λ same. let yes = (bytes_eq-Decides (oid_octets k) pbes2_oid).1 same in absurd cc), (o.params, r, ap (λ (t : ObjectIdentifier). other_algorithm t o.params) is))))))

algorithm_from : (k : ObjectIdentifier) (q : List ℕ) (v : AlgorithmIdentifier) → AlgorithmCase k q v → AlgorithmChoice k q v
algorithm_from k q Sha1 (is, r) = let n = nullable_from q r in inl (is, (n.0, n.1, refl))
algorithm_from k q Sha256 (is, r) = let n = nullable_from q r in inr (another (oid_octets k) sha256_oid sha1_oid is refl, inl (is, (n.0, n.1, refl)))
algorithm_from k q (PbewithSHAAnd40BitRC2CBC p) (is, r) =
    inr (another (oid_octets k) rc2_scheme_oid sha1_oid is refl, inr (another (oid_octets k) rc2_scheme_oid sha256_oid is refl, inl (is, (p, r, refl))))
algorithm_from k q (PbeWithSHAAnd3KeyTripleDESCBC p) (is, r) =
    inr (
      another (oid_octets k) triple_des_scheme_oid sha1_oid is refl,
      inr (
        another (oid_octets k) triple_des_scheme_oid sha256_oid is refl,
        inr (another (oid_octets k) triple_des_scheme_oid rc2_scheme_oid is refl, inl (is, (p, r, refl))),
      ),
    )
algorithm_from k q (Pbes2 par) (is, r) =
    inr (
      another (oid_octets k) pbes2_oid sha1_oid is refl,
      inr (
        another (oid_octets k) pbes2_oid sha256_oid is refl,
        inr (
          another (oid_octets k) pbes2_oid rc2_scheme_oid is refl,
          inr (another (oid_octets k) pbes2_oid triple_des_scheme_oid is refl, inl (is, inl (par, r, refl))),
        ),
      ),
    )
algorithm_from k q (OtherAlg o) r = other_from k q o r (bytes_eq (oid_octets k) pbes2_oid) refl

algorithm_case-exact : (k : ObjectIdentifier) → ExactAll (AlgorithmCase k) (algorithm_all k)
unfolding algorithm_all
algorithm_case-exact k =
    let digest = if_there null-exact (within_some 0x05 (Ended tt)) in
    let other = variant (other_algorithm k) (if_there raw-exact raw_some) in
    same-exact (AlgorithmChoice k) (AlgorithmCase k) _ (algorithm_to k) (algorithm_from k)
    (choice (oid_octets k) sha1_oid (variant (λ o. Sha1) digest) (choice (oid_octets k) sha256_oid (variant (λ o. Sha256) digest)
    (choice (oid_octets k) rc2_scheme_oid (variant PbewithSHAAnd40BitRC2CBC (all_of params-exact)) (choice (oid_octets k) triple_des_scheme_oid (variant PbeWithSHAAnd3KeyTripleDESCBC (all_of params-exact))
    (choice (oid_octets k) pbes2_oid (or_else-exact (variant Pbes2 (all_of parameters-exact)) other) other)))))

pub algorithm-exact : Exact AlgorithmText algorithm_at
unfolding algorithm_at
algorithm-exact = identified algorithm_case-exact

abbrev made_digest : AlgorithmIdentifier → List ℕ → DigestInfo
made_digest a d = record { digest_algorithm = a; digest = d }

pub digest-exact : Exact DigestText digest_at
unfolding digest_at
digest-exact = sequence 0x30 refl (field (λ d. d.digest_algorithm) algorithm-exact (λ a. field (λ d. d.digest) (inside-exact 0x04 refl) (λ v. end (made_digest a v) ((tt, refl), refl) (λ w c i. made_digest (c.0.1 i) (c.1 i)))))

abbrev made_mac : DigestInfo → List ℕ → ℕ → MacData
made_mac d s n = record { mac = d; salt = s; iterations = n }

uint_some : (n : ℕ) → Uint (2 ^ 32 - 1) [] n → ⊥
uint_some n r = within_some 0x02 (UintOf (2 ^ 32 - 1)) n r

pub mac-exact : Exact MacText mac_at
unfolding mac_at
mac-exact =
    sequence 0x30 refl (field (λ m. m.mac) digest-exact (λ d. field (λ m. m.salt) (inside-exact 0x04 refl) (λ s.
    last (λ m. m.iterations) (made_mac d s) (or_nothing-exact 1 uint_some (all_of (uint-exact (2 ^ 32 - 1)))) (λ n. (((tt, refl), refl), refl)) (λ w c i. made_mac (c.0.1 i) (c.1 i) w.iterations))))
