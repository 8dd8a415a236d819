-- What was refused before for a cause that no old store has is refused for it.
use Rattle.std.proofs.Common.{ℕ, zero, suc, ◌≡◌, ◌≢◌, ◌∙◌, ◌+◌, inl, inr, List, [], length, refl, sym, ap, subst, arith, Bool, true, false}
use Rattle.std.specs.Prelude.{◌&&◌, nat_lt}
use Rattle.std.specs.Str.{bytes_eq}
use Rattle.std.proofs.lemmas.Bool.{lt-ltb}
use Rattle.sha1.specs.Sha1.{sha1}
use Rattle.sha2.specs.Sha256.{sha256}
use Rattle.pkcs12_kdf.specs.Mac.{mac_under}
use Rattle.asn1_core.specs.OctetLaws.{both}
use Rattle.pkcs5.specs.Kinds.{is_pbkdf2, key_size}
use Rattle.pkcs5.specs.Opening.{states_length}
use Rattle.pkcs5.specs.declared.pbes2.kdf.Kdf.{Kdf}
use Rattle.pkcs5.specs.declared.pbes2.kdf.Kdf.TheVariants.{Pbkdf2, Scrypt}
use Rattle.pkcs5.specs.declared.pbes2.parameters.Parameters.{Parameters}
use Rattle.p12.specs.AlgorithmIdentifier.{cost, count, openable, taken, unlock}
use Rattle.p12.specs.declared.algorithm_identifier.AlgorithmIdentifier.{AlgorithmIdentifier}
use Rattle.p12.specs.declared.algorithm_identifier.AlgorithmIdentifier.TheVariants.{Sha1, Sha256, PbewithSHAAnd40BitRC2CBC, PbeWithSHAAnd3KeyTripleDESCBC, Pbes2, OtherAlg}
use Rattle.p12.specs.declared.content_info.ContentInfo.{ContentInfo}
use Rattle.p12.specs.declared.content_info.ContentInfo.TheVariants as content
use Rattle.p12.specs.declared.encrypted_private_key_info.EncryptedPrivateKeyInfo.{EncryptedPrivateKeyInfo}
use Rattle.p12.specs.declared.mac_data.MacData.{MacData}
use Rattle.p12.specs.declared.pfx.PFX.{PFX}
use Rattle.p12.specs.SafeBag.{NoBags}
use Rattle.p12.specs.MacData.{is_mac_digest, mac_agrees, mac_value}
use Rattle.transfer.specs.Opening.{ContentCause, ContentsTable, HasVerdict, KeyFault, LockFault, MacTable, NoKeyText, StoreTable, all_shrouded, of_contents, of_keys, refused}
use Rattle.transfer.specs.Parts.{IsFirstFault}
use Rattle.transfer.specs.declared.store.error.TransferError.{TransferError}
use Rattle.transfer.specs.declared.store.error.TransferError.TheVariants.{Malformed, Unsupported, MacUnsupported, MacMismatch, ContentMalformed, KeyMalformed}
use Rattle.transfer.proofs.Faults.{true_false}
use Rattle.transfer.proofs.Valid.{not_refused}
use Rattle.legacy_store.specs.Algorithm.{SchemeOf, legacy_cost, legacy_count, legacy_openable, legacy_taken, legacy_unlock, p12_taken, p12_unlock, pbes2_scheme, scheme_cost, scheme_count, scheme_of, scheme_openable, scheme_taken, scheme_unlock}
use Rattle.legacy_store.specs.Forms.{Forms, forms_of}
use Rattle.legacy_store.specs.Laws.{RefusesStoresAsBefore, stays_refused}
use Rattle.legacy_store.specs.declared.mac_rule.MacRule.TheVariants.{Required}
use Rattle.legacy_store.specs.Mac.{agrees_by, hash_mac, legacy_agrees, mac_scheme}
use Rattle.legacy_store.specs.Opening.{HasVerdictUnder, LegacyContentCause, LegacyContentsTable, LegacyKeyFault, LegacyLockFault, LegacyMacTable, LegacyStoreTable, LegacyTextTable, NullTable, legacy_contents, legacy_keys}
use Rattle.legacy_store.specs.Texts.{IsLegacySafe, IsLegacyStore}
use Rattle.legacy_store.proofs.Closed.{refused_same}
use Rattle.legacy_store.proofs.Conservative.{contents_as_before, count_as_before, digest_not_false, keys_as_before, mac_as_before, not_false, work_as_before}

-- ---- Causes that stay

-- A cause that stays is none of those that do not.
not_one : (p : List ℕ) (e g : TransferError) → stays_refused p e ≡ true → stays_refused p g ≡ false → e ≢ g
not_one p e g s k is = true_false (stays_refused p e) s (ap (stays_refused p) is ∙ k)

other_cause : {P : Type 0} (p : List ℕ) (e g : TransferError) → stays_refused p e ≡ true → stays_refused p g ≡ false → refused e ≡ refused g → P
other_cause p e g s k is = absurd (not_one p e g s k (refused_same e g is))

-- ---- Locked texts

-- What p12 opens a text to, and its work, are the same under a scheme.
record SameUnder (p : List ℕ) (a : AlgorithmIdentifier) (c : List ℕ) (s : SchemeOf) : Type 0 where
  opens : scheme_openable true s ≡ true
  rounds : scheme_count s ≡ count a
  share : scheme_cost s ≡ cost a
  steps : scheme_taken s c ≡ taken a c
  text : scheme_unlock (forms_of p) s c ≡ unlock a p c

-- p12 opens nothing by scrypt.
same_pbes2 : (p : List ℕ) (par : Parameters) (k : Kdf) (c : List ℕ) → par.kdf ≡ k → openable (Pbes2 par) ≡ true → SameUnder p (Pbes2 par) c (pbes2_scheme par k)
unfolding unlock taken scheme_unlock scheme_taken scheme_openable scheme_count scheme_cost p12_unlock p12_taken
same_pbes2 p par (Pbkdf2 k) c is h = record { opens = h; rounds = refl; share = refl; steps = refl; text = refl }
same_pbes2 p par (Scrypt k) c is h =
    let by_rounds = (both (is_pbkdf2 par.kdf) (states_length par.kdf (key_size par.encryption)) h).0 in
    absurd (true_false (is_pbkdf2 par.kdf) by_rounds (ap is_pbkdf2 is))

under_own : (p : List ℕ) (a : AlgorithmIdentifier) (c : List ℕ) → openable a ≡ true → SameUnder p a c (scheme_of a)
unfolding unlock taken scheme_of scheme_unlock scheme_taken scheme_openable scheme_count scheme_cost p12_unlock p12_taken
under_own p Sha1 c h = absurd cc
under_own p Sha256 c h = absurd cc
under_own p (PbewithSHAAnd40BitRC2CBC params) c h = absurd cc
under_own p (PbeWithSHAAnd3KeyTripleDESCBC params) c h = record { opens = refl; rounds = refl; share = refl; steps = refl; text = refl }
under_own p (Pbes2 par) c h = same_pbes2 p par par.kdf c refl h
under_own p (OtherAlg o) c h = absurd cc

-- And so in this crate.
record SameLock (p : List ℕ) (a : AlgorithmIdentifier) (c : List ℕ) : Type 0 where
  opens : legacy_openable true a ≡ true
  rounds : legacy_count a ≡ count a
  share : legacy_cost a ≡ cost a
  steps : legacy_taken a c ≡ taken a c
  text : legacy_unlock (forms_of p) a c ≡ unlock a p c

same_lock : (p : List ℕ) (a : AlgorithmIdentifier) (c : List ℕ) → openable a ≡ true → SameLock p a c
unfolding legacy_unlock legacy_taken
same_lock p a c h = let s = under_own p a c h in record { opens = s.opens; rounds = s.rounds; share = s.share; steps = s.steps; text = s.text }

module _ (p : List ℕ) (limit sum : ℕ) (a : AlgorithmIdentifier) (c : List ℕ) (e : TransferError) (n : ℕ) (known : e ≢ Unsupported) where
  lock_as_before : (rest next : List ℕ → TransferError → ℕ → Type 0) → (legacy_cost a ≡ cost a → (m : List ℕ) → rest m e n → next m e n) → LockFault p limit sum a c rest e n
      → LegacyLockFault (forms_of p) limit sum a c next e n
  lock_as_before rest next f (inl h) = absurd (known h.1)
  lock_as_before rest next f (inr (x, inl h)) =
      let s = same_lock p a c (not_false _ x) in
      inr (λ g. true_false _ s.opens g, inl (s.rounds ∙ h.0, h.1, h.2))
  lock_as_before rest next f (inr (x, inr (y, inl h))) =
      let s = same_lock p a c (not_false _ x) in
      inr (λ g. true_false _ s.opens g, inr (λ g. y (sym s.rounds ∙ g), inl (omega (arith, s.share, h.0), h.1, h.2)))
  lock_as_before rest next f (inr (x, inr (y, inr (z, inl h)))) =
      let s = same_lock p a c (not_false _ x) in
      inr (λ g. true_false _ s.opens g, inr (λ g. y (sym s.rounds ∙ g), inr (λ g. z (omega (arith, s.share, g)), inl (s.text ∙ h.0, h.1, h.2 ∙ sym s.steps))))
  lock_as_before rest next f (inr (x, inr (y, inr (z, inr (w, (m, is, bad)))))) =
      let s = same_lock p a c (not_false _ x) in
      inr (λ g. true_false _ s.opens g, inr (λ g. y (sym s.rounds ∙ g), inr (λ g. z (omega (arith, s.share, g)), inr (λ g. w (sym s.text ∙ g), (m, s.text ∙ is, f s.share m bad)))))

-- ---- Contents and keys

content_as_refused : (p : List ℕ) (limit sum : ℕ) (c : ContentInfo) (e : TransferError) (n : ℕ) → e ≢ Unsupported → e ≢ ContentMalformed → ContentCause p limit sum c e n
    → LegacyContentCause (forms_of p) limit sum c e n
content_as_refused p limit sum (content.Data v) e n known whole h = absurd (whole h.1)
content_as_refused p limit sum (content.EncryptedData d) e n known whole h =
    lock_as_before p limit sum d.encrypted_content_info.content_encryption_algorithm d.encrypted_content_info.encrypted_content e n known
    (λ m e n. NoBags m × (e ≡ ContentMalformed) × (n ≡ cost d.encrypted_content_info.content_encryption_algorithm))
    (λ m e n. NoBags m × (e ≡ ContentMalformed) × (n ≡ legacy_cost d.encrypted_content_info.content_encryption_algorithm)) (λ s m bad. absurd (whole bad.1)) h
content_as_refused p limit sum (content.OtherContext o) e n known whole h = absurd (known h.0)

contents_as_refused : (p : List ℕ) (limit sum : ℕ) (cs : List ContentInfo) (e : TransferError) (k : ℕ) → e ≢ Unsupported → e ≢ ContentMalformed → IsFirstFault (of_contents p limit) limit sum cs e k
    → IsFirstFault (legacy_contents (forms_of p) limit) limit sum cs e k
contents_as_refused p limit sum cs e k known whole h =
    let c = contents_as_before p h.before h.made h.open_before.each in
    record {
      before = h.before;
      part = h.part;
      behind = h.behind;
      split = h.split;
      made = h.made;
      open_before = record { each = c.0; within = omega (arith, c.1, h.open_before.within) };
      own = h.own;
      fault = subst (λ s. LegacyContentCause (forms_of p) limit s h.part e h.own) (ap (λ s. sum + s) (sym c.1)) (content_as_refused p limit _ h.part e h.own known whole h.fault);
      steps = omega (arith, c.1, h.steps);
    }

key_as_refused : (p : List ℕ) (limit sum : ℕ) (k : EncryptedPrivateKeyInfo) (e : TransferError) (n : ℕ) → e ≢ Unsupported → KeyFault p limit sum k e n → LegacyKeyFault (forms_of p) limit sum k e n
key_as_refused p limit sum k e n known h =
    lock_as_before p limit sum k.encryption_algorithm k.encrypted_data e n known
    (λ m e n. NoKeyText m × (e ≡ KeyMalformed) × (n ≡ cost k.encryption_algorithm))
    (λ m e n. NoKeyText m × (e ≡ KeyMalformed) × (n ≡ legacy_cost k.encryption_algorithm)) (λ s m bad. (bad.0, bad.1, bad.2 ∙ sym s)) h

keys_as_refused : (p : List ℕ) (limit sum : ℕ) (ks : List EncryptedPrivateKeyInfo) (e : TransferError) (n : ℕ) → e ≢ Unsupported → IsFirstFault (of_keys p limit) limit sum ks e n
    → IsFirstFault (legacy_keys (forms_of p) limit) limit sum ks e n
keys_as_refused p limit sum ks e n known h =
    let c = keys_as_before p h.before h.made h.open_before.each in
    record {
      before = h.before;
      part = h.part;
      behind = h.behind;
      split = h.split;
      made = h.made;
      open_before = record { each = c.0; within = omega (arith, c.1, h.open_before.within) };
      own = h.own;
      fault = subst (λ s. LegacyKeyFault (forms_of p) limit s h.part e h.own) (ap (λ s. sum + s) (sym c.1)) (key_as_refused p limit _ h.part e h.own known h.fault);
      steps = omega (arith, c.1, h.steps);
    }

contents_refused_so : (p : List ℕ) (limit sum : ℕ) (cs : List ContentInfo) (e : TransferError) (n : ℕ) → stays_refused p e ≡ true → ContentsTable p limit sum cs (refused e) n
    → LegacyContentsTable (forms_of p) limit sum cs (refused e) n
unfolding ContentsTable LegacyContentsTable
contents_refused_so p limit sum cs e n s (inl (g, k, h, w, is)) =
    let t : stays_refused p g ≡ true = ap (stays_refused p) (sym (refused_same e g w)) ∙ s in
    inl (g, k, contents_as_refused p limit sum cs g k (not_one p g Unsupported t refl) (not_one p g ContentMalformed t refl) h, w, is)
contents_refused_so p limit sum cs e n s (inr (held, a, inl (g, k, h, w, is))) =
    let t : stays_refused p g ≡ true = ap (stays_refused p) (sym (refused_same e g w)) ∙ s in
    let c = contents_as_before p cs held a.each in
    inr (
      held,
      record { each = c.0; within = omega (arith, c.1, a.within) },
      inl (
        g,
        k,
        subst (λ q. IsFirstFault (legacy_keys (forms_of p) limit) limit q (all_shrouded held) g k) (ap (λ q. sum + q) (sym c.1)) (keys_as_refused p limit _ (all_shrouded held) g k (not_one p g Unsupported t refl) h),
        w,
        omega (arith, c.1, is),
      ),
    )
contents_refused_so p limit sum cs e n s (inr (held, a, inr (texts, b, last))) = absurd (not_refused held texts e (sym last.0))

-- ---- The MAC

and_false : (b c : Bool) → (b && c) ≡ false → b ≡ true → c ≡ false
and_false true c h k = h
and_false false c h k = absurd cc

some_count : (n : ℕ) → (n ≡ 0 → ⊥) → nat_lt 0 n ≡ true
some_count zero h = absurd (h refl)
some_count (suc n) h = lt-ltb 0 (suc n) (omega arith)

other_octets : (a : AlgorithmIdentifier) (n : ℕ) (f : Forms) (v salt d : List ℕ) (m : MacData) → (is_mac_digest a && (nat_lt 0 n && bytes_eq (mac_value a f.units salt n v) d)) ≡ false
    → is_mac_digest a ≡ true → nat_lt 0 n ≡ true → m.salt ≡ salt → m.iterations ≡ n → m.mac.digest ≡ d → agrees_by (mac_scheme a) m f v ≡ false
unfolding mac_scheme mac_value hash_mac
other_octets Sha1 n f v salt d m h k r s i g = rw (s, i, g) (and_false (nat_lt 0 n) (bytes_eq (mac_under sha1 20 f.units salt n v) d) h r)
other_octets Sha256 n f v salt d m h k r s i g = rw (s, i, g) (and_false (nat_lt 0 n) (bytes_eq (mac_under sha256 32 f.units salt n v) d) h r)
other_octets (PbewithSHAAnd40BitRC2CBC p) n f v salt d m h k r s i g = absurd cc
other_octets (PbeWithSHAAnd3KeyTripleDESCBC p) n f v salt d m h k r s i g = absurd cc
other_octets (Pbes2 par) n f v salt d m h k r s i g = absurd cc
other_octets (OtherAlg o) n f v salt d m h k r s i g = absurd cc

-- A MAC that does not agree does not agree here.
mac_disagrees : (m : MacData) (f : Forms) (v : List ℕ) → is_mac_digest m.mac.digest_algorithm ≡ true → (m.iterations ≡ 0 → ⊥) → mac_agrees m f.units v ≡ false → legacy_agrees m f v ≡ false
unfolding mac_agrees legacy_agrees
mac_disagrees m f v known some h = other_octets m.mac.digest_algorithm m.iterations f v m.salt m.mac.digest m h known (some_count m.iterations some) refl refl refl

-- Where a mismatch stays a refusal there is a password.
some_password : (p : List ℕ) → stays_refused p MacMismatch ≡ true → p ≢ []
some_password p s none = true_false (stays_refused p MacMismatch) s (ap (λ q. nat_lt 0 (length q)) none)

mac_refused : (p : List ℕ) (limit : ℕ) (v : List ℕ) (m : MacData) (e : TransferError) (n : ℕ) → stays_refused p e ≡ true → MacTable p limit v m (refused e) n → LegacyMacTable p limit v m (refused e) n
unfolding MacTable LegacyMacTable LegacyTextTable NullTable IsLegacySafe
mac_refused p limit v m e n s (inl h) = other_cause p e MacUnsupported s refl h.1
mac_refused p limit v m e n s (inr (a, inl h)) =
    let count = count_as_before m (not_false _ a) in
    inr (digest_not_false m.mac.digest_algorithm a, inl (count ∙ h.0, h.1, h.2))
mac_refused p limit v m e n s (inr (a, inr (b, inl h))) =
    let known = not_false _ a in
    inr (digest_not_false m.mac.digest_algorithm a, inr (λ z. b (sym (count_as_before m known) ∙ z), inl (omega (arith, work_as_before m known, h.0), h.1, h.2)))
mac_refused p limit v m e n s (inr (a, inr (b, inr (c, inl h)))) =
    let known = not_false _ a in
    let work = work_as_before m known in
    let some = some_password p (ap (stays_refused p) (sym (refused_same e MacMismatch h.1)) ∙ s) in
    let bad = mac_disagrees m (forms_of p) v known b h.0 in
    inr (
      digest_not_false m.mac.digest_algorithm a,
      inr (λ z. b (sym (count_as_before m known) ∙ z), inr (λ z. c (omega (arith, work, z)), inr (λ good. true_false _ good bad, inl (some, h.1, h.2 ∙ sym work)))),
    )
mac_refused p limit v m e n s (inr (a, inr (b, inr (c, inr (d, inl h))))) = other_cause p e ContentMalformed s refl h.1
mac_refused p limit v m e n s (inr (a, inr (b, inr (c, inr (d, inr (none, (cs, is, t))))))) =
    let known = not_false _ a in
    let work = work_as_before m known in
    let good = mac_as_before m (forms_of p) v (not_false _ d) in
    let contents = subst (λ w. LegacyContentsTable (forms_of p) limit w cs (refused e) n) (sym work) (contents_refused_so p limit m.iterations cs e n s t) in
    inr (
      digest_not_false m.mac.digest_algorithm a,
      inr (λ z. b (sym (count_as_before m known) ∙ z), inr (λ z. c (omega (arith, work, z)), inl (good, inr (λ no. no cs (inl is), (cs, inl is, contents))))),
    )

-- ---- Stores

store_refused : (p : List ℕ) (limit : ℕ) (x : PFX) (e : TransferError) (n : ℕ) → stays_refused p e ≡ true → StoreTable p limit x (refused e) n → LegacyStoreTable Required p limit x (refused e) n
store_refused p limit x e n s (inl h) = other_cause p e Unsupported s refl h.1
store_refused p limit x e n s (inr (a, (v, is, inl h))) = inr (a, (v, is, inl (h.0, (h.1, h.2))))
store_refused p limit x e n s (inr (a, (v, is, inr (b, (m, has, t))))) = inr (a, (v, is, inr (b, (m, has, mac_refused p limit v m e n s t))))

pub stores_refused : RefusesStoresAsBefore
unfolding HasVerdict HasVerdictUnder IsLegacyStore
stores_refused b p limit e n s (inl h) = inl h
stores_refused b p limit e n s (inr (a, inl h)) = other_cause p e Malformed s refl h.1
stores_refused b p limit e n s (inr (a, inr (c, (x, is, t)))) = inr (a, inr (λ none. none x (inl is), (x, inl is, store_refused p limit x e n s t)))
