-- What was opened before is opened as before.
use Rattle.std.proofs.Common.{ℕ, ◌≡◌, ◌∙◌, sym, ◌+◌, inl, inr, List, [], ◌∷◌, refl, ap, ap₂, arith, subst, Bool, true, false}
use Rattle.std.specs.Prelude.{Some, None, ◌&&◌, nat_lt}
use Rattle.std.specs.Str.{bytes_eq}
use Rattle.sha1.specs.Sha1.{sha1}
use Rattle.sha2.specs.Sha256.{sha256}
use Rattle.asn1_core.specs.OctetLaws.{both}
use Rattle.pkcs12_kdf.specs.Mac.{mac_under}
use Rattle.p12.specs.MacData.{is_mac_digest, mac_agrees, mac_value}
use Rattle.transfer.proofs.Faults.{true_false}
use Rattle.legacy_store.specs.declared.mac_rule.MacRule.TheVariants.{Required}
use Rattle.legacy_store.specs.Mac.{agrees_by, cost_by, count_by, hash_mac, is_legacy_digest, legacy_agrees, mac_cost, mac_count, mac_scheme}
use Rattle.legacy_store.specs.Texts.{IsLegacySafe, IsLegacyStore}
use Rattle.std.specs.List.{sum_by}
use Rattle.std.proofs.lemmas.List.Sums.{sum_by-append}
use Rattle.asn1_core.specs.Sets.{Each}
use Rattle.p12.specs.declared.algorithm_identifier.AlgorithmIdentifier.{AlgorithmIdentifier}
use Rattle.p12.specs.declared.algorithm_identifier.AlgorithmIdentifier.TheVariants.{Sha1, Sha256, PbewithSHAAnd40BitRC2CBC, PbeWithSHAAnd3KeyTripleDESCBC, Pbes2, OtherAlg}
use Rattle.p12.specs.declared.content_info.ContentInfo.{ContentInfo}
use Rattle.p12.specs.declared.content_info.ContentInfo.TheVariants as content
use Rattle.p12.specs.declared.encrypted_private_key_info.EncryptedPrivateKeyInfo.{EncryptedPrivateKeyInfo}
use Rattle.p12.specs.declared.safe_bag.SafeBag.{SafeBag}
use Rattle.pkcs5.specs.Kinds.{rounds_of}
use Rattle.pkcs5.specs.declared.pbes2.kdf.Kdf.{Kdf}
use Rattle.pkcs5.specs.declared.pbes2.kdf.Kdf.TheVariants.{Pbkdf2, Scrypt}
use Rattle.pkcs5.specs.declared.pbes2.parameters.Parameters.{Parameters}
use Rattle.p12.specs.AlgorithmIdentifier.{cost, unlock, unlock_pbes2}
use Rattle.p12.proofs.Pbes2.{pbes2_no_rounds}
use Rattle.p12.specs.Collected.{HoldsBags}
use Rattle.p12.specs.declared.mac_data.MacData.{MacData}
use Rattle.p12.specs.declared.pfx.PFX.{PFX}
use Rattle.transfer.specs.Opening.{ContentsTable, HasVerdict, KeyOpens, MacTable, StoreTable, content_share, key_share, opened, refused}
use Rattle.transfer.specs.Verdicts.{StoreOpens}
use Rattle.transfer.specs.declared.store.error.TransferError.{TransferError}
use Rattle.transfer.proofs.Valid.{open_comes}
use Rattle.legacy_store.specs.Algorithm.{legacy_cost, legacy_unlock, p12_unlock, pbes2_scheme, scheme_cost, scheme_of, scheme_unlock}
use Rattle.legacy_store.specs.Forms.{Forms, forms_of}
use Rattle.legacy_store.specs.Laws.{OpensStoresAsBefore, OpensTextsAsBefore}
use Rattle.legacy_store.specs.Verdicts.{LegacyOpens}
use Rattle.legacy_store.proofs.Closed.{opened_exactly}
use Rattle.legacy_store.specs.Opening.{HasVerdictUnder, LegacyContentsTable, LegacyHolds, LegacyKeyOpens, LegacyMacTable, LegacyStoreTable, LegacyTextTable, legacy_key_share, legacy_share}

none_some : {P : Type 0} (m : List ℕ) → None ≡ Some m → P
none_some m e = absurd cc

-- ---- Texts

-- p12 opens nothing by scrypt
by_scrypt : {P : Type 0} (par : Parameters) (k : _) (p c m : List ℕ) → par.kdf ≡ Scrypt k → unlock_pbes2 par p c ≡ Some m → P
by_scrypt par k p c m is h = none_some m (sym (pbes2_no_rounds par p c (ap rounds_of is)) ∙ h)

pbes2_as_before : (par : Parameters) (k : Kdf) (p c m : List ℕ) → par.kdf ≡ k → unlock_pbes2 par p c ≡ Some m → scheme_unlock (forms_of p) (pbes2_scheme par k) c ≡ Some m
unfolding unlock scheme_unlock p12_unlock
pbes2_as_before par (Pbkdf2 k) p c m is h = h
pbes2_as_before par (Scrypt k) p c m is h = by_scrypt par k p c m is h

pbes2_cost_as_before : (par : Parameters) (k : Kdf) (p c m : List ℕ) → par.kdf ≡ k → unlock_pbes2 par p c ≡ Some m → scheme_cost (pbes2_scheme par k) ≡ cost (Pbes2 par)
unfolding scheme_cost
pbes2_cost_as_before par (Pbkdf2 k) p c m is h = refl
pbes2_cost_as_before par (Scrypt k) p c m is h = by_scrypt par k p c m is h

pub texts_as_before : OpensTextsAsBefore
unfolding unlock legacy_unlock scheme_of scheme_unlock p12_unlock
texts_as_before Sha1 p c m h = none_some m h
texts_as_before Sha256 p c m h = none_some m h
texts_as_before (PbewithSHAAnd40BitRC2CBC params) p c m h = none_some m h
texts_as_before (PbeWithSHAAnd3KeyTripleDESCBC params) p c m h = h
texts_as_before (Pbes2 par) p c m h = pbes2_as_before par par.kdf p c m refl h
texts_as_before (OtherAlg o) p c m h = none_some m h

-- by the same share of the work
cost_as_before : (a : AlgorithmIdentifier) (p c m : List ℕ) → unlock a p c ≡ Some m → legacy_cost a ≡ cost a
unfolding unlock scheme_of scheme_cost
cost_as_before Sha1 p c m h = refl
cost_as_before Sha256 p c m h = refl
cost_as_before (PbewithSHAAnd40BitRC2CBC params) p c m h = none_some m h
cost_as_before (PbeWithSHAAnd3KeyTripleDESCBC params) p c m h = refl
cost_as_before (Pbes2 par) p c m h = pbes2_cost_as_before par par.kdf p c m refl h
cost_as_before (OtherAlg o) p c m h = none_some m h

-- ---- Contents and keys

content_as_before : (p : List ℕ) (c : ContentInfo) (gs : List SafeBag) → HoldsBags p c gs → LegacyHolds (forms_of p) c gs × (legacy_share c ≡ content_share c)
content_as_before p (content.Data v) gs h = (h, refl)
content_as_before p (content.EncryptedData d) gs h =
    let a = d.encrypted_content_info.content_encryption_algorithm in
    let c = d.encrypted_content_info.encrypted_content in
    ((h.0, texts_as_before a p c h.0 h.1, h.2), cost_as_before a p c h.0 h.1)
content_as_before p (content.OtherContext o) gs h = none_some h.0 h.1

pub contents_as_before : (p : List ℕ) (cs : List ContentInfo) (gss : List (List SafeBag)) → Each (HoldsBags p) cs gss
    → Each (LegacyHolds (forms_of p)) cs gss × (sum_by legacy_share cs ≡ sum_by content_share cs)
contents_as_before p [] [] e = (tt, refl)
contents_as_before p [] (gs ∷ gss) e = absurd e
contents_as_before p (c ∷ cs) [] e = absurd e
contents_as_before p (c ∷ cs) (gs ∷ gss) e =
    let one = content_as_before p c gs e.0 in
    let more = contents_as_before p cs gss e.1 in
    ((one.0, more.0), sum_by-append legacy_share (c ∷ []) cs ∙ ap₂ (λ (x y : ℕ). (0 + x) + y) one.1 more.1 ∙ sym (sum_by-append content_share (c ∷ []) cs))

pub keys_as_before : (p : List ℕ) (ks : List EncryptedPrivateKeyInfo) (texts : List (List ℕ)) → Each (KeyOpens p) ks texts
    → Each (LegacyKeyOpens (forms_of p)) ks texts × (sum_by legacy_key_share ks ≡ sum_by key_share ks)
keys_as_before p [] [] e = (tt, refl)
keys_as_before p [] (t ∷ ts) e = absurd e
keys_as_before p (k ∷ ks) [] e = absurd e
keys_as_before p (k ∷ ks) (t ∷ ts) e =
    let more = keys_as_before p ks ts e.1 in
    let one = cost_as_before k.encryption_algorithm p k.encrypted_data t e.0.0 in
    (((texts_as_before k.encryption_algorithm p k.encrypted_data t e.0.0, e.0.1), more.0), sum_by-append legacy_key_share (k ∷ []) ks ∙ ap₂ (λ (x y : ℕ). (0 + x) + y) one more.1 ∙ sym (sum_by-append key_share (k ∷ []) ks))

-- ---- Stores

-- A store that is opened is not refused.
is_opened : {P : Type 0} (e : TransferError) (gss : List (List SafeBag)) (ks : List (List ℕ)) → opened gss ks ≡ refused e → P
is_opened e gss ks h = absurd cc

pub not_false : (b : Bool) → (b ≡ false → ⊥) → b ≡ true
not_false true h = refl
not_false false h = absurd (h refl)

contents_table : (p : List ℕ) (limit sum : ℕ) (cs : List ContentInfo) (gss : List (List SafeBag)) (ks : List (List ℕ)) (n : ℕ) → ContentsTable p limit sum cs (opened gss ks) n
    → LegacyContentsTable (forms_of p) limit sum cs (opened gss ks) n
unfolding ContentsTable LegacyContentsTable
contents_table p limit sum cs gss ks n (inl h) = is_opened h.0 gss ks h.3
contents_table p limit sum cs gss ks n (inr (held, a, inl h)) = is_opened h.0 gss ks h.3
contents_table p limit sum cs gss ks n (inr (held, a, inr (texts, b, last))) =
    let c = contents_as_before p cs held a.each in
    let k = keys_as_before p _ texts b.each in
    inr (
      held,
      record { each = c.0; within = omega (arith, c.1, a.within) },
      inr (texts, record { each = k.0; within = omega (arith, c.1, k.1, b.within) }, (last.0, omega (arith, c.1, k.1, last.1))),
    )

-- ---- The MAC

-- A digest that p12 knows is known, its count and its work are those of MacData, and its MAC agrees alike.
pub digest_as_before : (a : AlgorithmIdentifier) → is_mac_digest a ≡ true → is_legacy_digest a ≡ true
unfolding mac_scheme
digest_as_before Sha1 h = refl
digest_as_before Sha256 h = refl
digest_as_before (PbewithSHAAnd40BitRC2CBC p) h = absurd cc
digest_as_before (PbeWithSHAAnd3KeyTripleDESCBC p) h = absurd cc
digest_as_before (Pbes2 par) h = absurd cc
digest_as_before (OtherAlg o) h = absurd cc

work_of : (a : AlgorithmIdentifier) (m : MacData) → is_mac_digest a ≡ true → (count_by (mac_scheme a) m ≡ m.iterations) × (cost_by (mac_scheme a) m ≡ m.iterations)
unfolding mac_scheme
work_of Sha1 m h = (refl, refl)
work_of Sha256 m h = (refl, refl)
work_of (PbewithSHAAnd40BitRC2CBC p) m h = absurd cc
work_of (PbeWithSHAAnd3KeyTripleDESCBC p) m h = absurd cc
work_of (Pbes2 par) m h = absurd cc
work_of (OtherAlg o) m h = absurd cc

pub count_as_before : (m : MacData) → is_mac_digest m.mac.digest_algorithm ≡ true → mac_count m ≡ m.iterations
unfolding mac_count
count_as_before m h = (work_of m.mac.digest_algorithm m h).0

pub work_as_before : (m : MacData) → is_mac_digest m.mac.digest_algorithm ≡ true → mac_cost m ≡ m.iterations
unfolding mac_cost
work_as_before m h = (work_of m.mac.digest_algorithm m h).1

same_octets : (a : AlgorithmIdentifier) (n : ℕ) (f : Forms) (v salt d : List ℕ) (m : MacData)
    → (is_mac_digest a && (nat_lt 0 n && bytes_eq (mac_value a f.units salt n v) d)) ≡ true → m.salt ≡ salt → m.iterations ≡ n → m.mac.digest ≡ d → agrees_by (mac_scheme a) m f v ≡ true
unfolding mac_scheme mac_value hash_mac
same_octets Sha1 n f v salt d m h s i g = rw (s, i, g) (both (nat_lt 0 n) (bytes_eq (mac_under sha1 20 f.units salt n v) d) h).1
same_octets Sha256 n f v salt d m h s i g = rw (s, i, g) (both (nat_lt 0 n) (bytes_eq (mac_under sha256 32 f.units salt n v) d) h).1
same_octets (PbewithSHAAnd40BitRC2CBC p) n f v salt d m h s i g = absurd cc
same_octets (PbeWithSHAAnd3KeyTripleDESCBC p) n f v salt d m h s i g = absurd cc
same_octets (Pbes2 par) n f v salt d m h s i g = absurd cc
same_octets (OtherAlg o) n f v salt d m h s i g = absurd cc

pub mac_as_before : (m : MacData) (f : Forms) (v : List ℕ) → mac_agrees m f.units v ≡ true → legacy_agrees m f v ≡ true
unfolding mac_agrees legacy_agrees
mac_as_before m f v h = same_octets m.mac.digest_algorithm m.iterations f v m.salt m.mac.digest m h refl refl refl

pub digest_not_false : (a : AlgorithmIdentifier) → (is_mac_digest a ≡ false → ⊥) → is_legacy_digest a ≡ false → ⊥
digest_not_false a h none = true_false (is_legacy_digest a) (digest_as_before a (not_false _ h)) none

-- ---- Stores

mac_table : (p : List ℕ) (limit : ℕ) (v : List ℕ) (m : MacData) (gss : List (List SafeBag)) (ks : List (List ℕ)) (n : ℕ) → MacTable p limit v m (opened gss ks) n
    → LegacyMacTable p limit v m (opened gss ks) n
unfolding MacTable LegacyMacTable LegacyTextTable IsLegacySafe
mac_table p limit v m gss ks n (inl h) = is_opened _ gss ks h.1
mac_table p limit v m gss ks n (inr (a, inl h)) = is_opened _ gss ks h.1
mac_table p limit v m gss ks n (inr (a, inr (b, inl h))) = is_opened _ gss ks h.1
mac_table p limit v m gss ks n (inr (a, inr (b, inr (c, inl h)))) = is_opened _ gss ks h.1
mac_table p limit v m gss ks n (inr (a, inr (b, inr (c, inr (d, inl h))))) = is_opened _ gss ks h.1
mac_table p limit v m gss ks n (inr (a, inr (b, inr (c, inr (d, inr (e, (cs, is, t))))))) =
    let known = not_false _ a in
    let work = work_as_before m known in
    let contents = subst (λ s. LegacyContentsTable (forms_of p) limit s cs (opened gss ks) n) (sym work) (contents_table p limit m.iterations cs gss ks n t) in
    inr (
      digest_not_false m.mac.digest_algorithm a,
      inr (λ z. b (sym (count_as_before m known) ∙ z), inr (λ z. c (omega (arith, work, z)), inl (mac_as_before m (forms_of p) v (not_false _ d), inr (λ none. none cs (inl is), (cs, inl is, contents))))),
    )

store_table : (p : List ℕ) (limit : ℕ) (s : PFX) (gss : List (List SafeBag)) (ks : List (List ℕ)) (n : ℕ) → StoreTable p limit s (opened gss ks) n
    → LegacyStoreTable Required p limit s (opened gss ks) n
store_table p limit s gss ks n (inl h) = is_opened _ gss ks h.1
store_table p limit s gss ks n (inr (a, (v, is, inl h))) = is_opened _ gss ks h.1
store_table p limit s gss ks n (inr (a, (v, is, inr (b, (m, has, t))))) = inr (a, (v, is, inr (b, (m, has, mac_table p limit v m gss ks n t))))

pub stores_as_before : OpensStoresAsBefore
unfolding HasVerdict HasVerdictUnder IsLegacyStore
stores_as_before b p limit gss ks n (inl h) = is_opened _ gss ks h.1
stores_as_before b p limit gss ks n (inr (a, inl h)) = is_opened _ gss ks h.1
stores_as_before b p limit gss ks n (inr (a, inr (c, (s, is, t)))) = inr (a, inr (λ none. none s (inl is), (s, inl is, store_table p limit s gss ks n t)))

-- The same of the relations that leave out the order of the causes.
pub opens_as_before : (b p : List ℕ) (gss : List (List SafeBag)) (ks : List (List ℕ)) (n : ℕ) → StoreOpens b p gss ks n → LegacyOpens b p gss ks n
opens_as_before b p gss ks n o = ((opened_exactly Required b p n gss ks n).0 (stores_as_before b p n gss ks n (open_comes b p n gss ks n o (omega arith)))).0
