-- The keys that are derived before the parts are sealed.
use Rattle.std.proofs.Common.{◌≡◌, ℕ, ◌+◌, ◌≤◌, Some, None, List, [], ◌∷◌, ◌++◌, length, map, take, drop, refl, sym, ap, subst, ◌∙◌, arith, append-nil}
use Rattle.std.specs.Prelude.{All, Option}
use Rattle.std.specs.List.{sum_by}
use Rattle.std.proofs.lemmas.List.{append_assoc, drop-drop, map-append, take-append-drop}
use Rattle.std.proofs.lemmas.List.Concat.{flat_map-append, flat_map-cons}
use Rattle.std.proofs.lemmas.List.Elements.{All-head, All-push, All-tail}
use Rattle.std.proofs.lemmas.List.Sums.{sum_by-cons}
use Rattle.pkcs5.specs.Kinds.{rounds_of}
use Rattle.pkcs5.specs.Opening.{sha256_key}
use Rattle.p12.specs.declared.algorithm_identifier.AlgorithmIdentifier.{AlgorithmIdentifier}
use Rattle.p12.specs.declared.algorithm_identifier.AlgorithmIdentifier.TheVariants.{Sha1, Sha256, PbewithSHAAnd40BitRC2CBC, PbeWithSHAAnd3KeyTripleDESCBC, Pbes2, OtherAlg}
use Rattle.p12.specs.declared.content_info.ContentInfo.{ContentInfo}
use Rattle.p12.specs.declared.content_info.ContentInfo.TheVariants as content
use Rattle.p12.specs.declared.encrypted_data.EncryptedData.{EncryptedData}
use Rattle.p12.specs.declared.encrypted_private_key_info.EncryptedPrivateKeyInfo.{EncryptedPrivateKeyInfo}
use Rattle.p12.specs.declared.safe_bag.SafeBag.{SafeBag}
use Rattle.transfer.specs.Opening.{shrouded_among}
use Rattle.rekey_core.specs.Anew.{content_draws, drawn_for, key_draws}
use Rattle.rekey_core.specs.Deriving.{key_algorithms, keys_in, own_algorithm, part_algorithms, rounds_and_salt, rounds_and_salts, seen_parts, seen_run, seen_runs}
use Rattle.rekey_core.specs.Sealing.{bags_draw}
use Rattle.rekey_core.specs.declared.derived_keys.DerivedKeys.{DerivedKeys}
use Rattle.rekey_core.specs.declared.key_derivation.RoundsAndSalt.{RoundsAndSalt}
use Rattle.rekey_core.proofs.Supplying.{all_draws_cons, bags_keys, draws_cons}
use Rattle.rekey_core.specs.Anew.{pbes2_rounds}
use Rattle.rekey_core.specs.Kinds.{kind_for}
use Rattle.rekey_core.specs.declared.kinds.Kinds.{Kinds}

abbrev Part : Type 0
Part = ℕ × List ℕ

abbrev seen_part : RoundsAndSalt → Part
seen_part p = (p.rounds, p.salt)

abbrev algorithm_of : Kinds → EncryptedPrivateKeyInfo → AlgorithmIdentifier
algorithm_of to k = kind_for to k.encryption_algorithm

-- ---- parts that follow each other

parts_append : (xs ys : List AlgorithmIdentifier) (drawn : List ℕ)
    → rounds_and_salts (xs ++ ys) drawn ≡ rounds_and_salts xs drawn ++ rounds_and_salts ys (drop (sum_by drawn_for xs) drawn)
parts_append [] ys drawn = refl
parts_append (a ∷ xs) ys drawn =
    let n = drawn_for a in
    let first = rounds_and_salt a (take n drawn) in
    ap (λ (l : List Part). first ++ l) (parts_append xs ys (drop n drawn))
    ∙ sym (append_assoc first (rounds_and_salts xs (drop n drawn)) (rounds_and_salts ys (drop (sum_by drawn_for xs) (drop n drawn))))
    ∙ ap (λ (l : List ℕ). (first ++ rounds_and_salts xs (drop n drawn)) ++ rounds_and_salts ys l)
    (drop-drop (sum_by drawn_for xs) n drawn ∙ ap (λ (m : ℕ). drop m drawn) (sym (sum_by-cons drawn_for a xs)))

key_sums : (to : Kinds) (ks : List EncryptedPrivateKeyInfo) → sum_by drawn_for (map (algorithm_of to) ks) ≡ sum_by (key_draws to) ks
key_sums to [] = refl
key_sums to (k ∷ ks) =
    sum_by-cons drawn_for (kind_for to k.encryption_algorithm) (map (algorithm_of to) ks) ∙ ap (λ (n : ℕ). drawn_for (kind_for to k.encryption_algorithm) + n) (key_sums to ks) ∙ sym (sum_by-cons (key_draws to) k ks)

keys_drawn : (to : Kinds) (gs : List SafeBag) → sum_by drawn_for (key_algorithms to gs) ≡ bags_draw to gs
keys_drawn to gs = key_sums to (shrouded_among gs) ∙ sym (bags_keys to gs)

some_part : (a : AlgorithmIdentifier) (z : List ℕ) (r : ℕ) → Some r ≡ pbes2_rounds a → rounds_and_salt a z ≡ (r, drop 16 z) ∷ []
some_part Sha1 z r e = absurd cc
some_part Sha256 z r e = absurd cc
some_part (PbewithSHAAnd40BitRC2CBC p) z r e = absurd cc
some_part (PbeWithSHAAnd3KeyTripleDESCBC p) z r e = absurd cc
some_part (Pbes2 par) z r e = let same : rounds_of par.kdf ≡ r = cc in ap (λ (n : ℕ). (n, drop 16 z) ∷ []) same
some_part (OtherAlg o) z r e = absurd cc

no_part : (a : AlgorithmIdentifier) (z : List ℕ) → None ≡ pbes2_rounds a → rounds_and_salt a z ≡ []
no_part Sha1 z e = refl
no_part Sha256 z e = refl
no_part (PbewithSHAAnd40BitRC2CBC p) z e = refl
no_part (PbeWithSHAAnd3KeyTripleDESCBC p) z e = refl
no_part (Pbes2 par) z e = absurd cc
no_part (OtherAlg o) z e = refl

no_rounds : (o : Option ℕ) → ((r : ℕ) → o ≡ Some r → ⊥) → o ≡ None
no_rounds None h = refl
no_rounds (Some r) h = absurd (h r refl)

-- a part under PBES2
pub part_added : (a : AlgorithmIdentifier) (z salt : List ℕ) (r : ℕ) (old parts : List RoundsAndSalt) → Some r ≡ pbes2_rounds a → salt ≡ drop 16 z
    → parts ≡ old ++ (record { rounds = r; salt = salt }) ∷ [] → seen_parts parts ≡ seen_parts old ++ rounds_and_salt a z
part_added a z salt r old parts is cut pushed =
    let one : (r, salt) ∷ [] ≡ rounds_and_salt a z = ap (λ (s : List ℕ). (r, s) ∷ []) cut ∙ sym (some_part a z r is) in
    ap seen_parts pushed ∙ map-append seen_part old ((record { rounds = r; salt = salt }) ∷ []) ∙ ap (λ (l : List Part). seen_parts old ++ l) one

-- any other part
pub part_passed : (a : AlgorithmIdentifier) (z : List ℕ) (old parts : List RoundsAndSalt) (o : Option ℕ) → o ≡ pbes2_rounds a → ((r : ℕ) → o ≡ Some r → ⊥) → parts ≡ old
    → seen_parts parts ≡ seen_parts old ++ rounds_and_salt a z
part_passed a z old parts o is h e = ap seen_parts e ∙ sym (append-nil (seen_parts old)) ∙ ap (λ (l : List Part). seen_parts old ++ l) (sym (no_part a z (sym (no_rounds o h) ∙ is)))

-- ---- the keys among bags

pub record KeysOn (to : Kinds) (bags rest : List SafeBag) (drawn left : List ℕ) (old parts : List RoundsAndSalt) : Type 0 where
  pub after : drop (bags_draw to rest) left ≡ drop (bags_draw to bags) drawn
  pub are : seen_parts parts ++ rounds_and_salts (key_algorithms to rest) left ≡ seen_parts old ++ rounds_and_salts (key_algorithms to bags) drawn

-- ---- the parts of contents

pub record PartsOn (to : Kinds) (contents rest : List ContentInfo) (bags rest_bags : List (List SafeBag)) (drawn left : List ℕ) (parts : List RoundsAndSalt) : Type 0 where
  pub are : seen_parts parts ++ rounds_and_salts (part_algorithms to rest rest_bags) left ≡ rounds_and_salts (part_algorithms to contents bags) drawn

-- the keys among the bags of a content, after its own part
keys_among : (to : Kinds) (gs : List SafeBag) (more : List AlgorithmIdentifier) (left left_after : List ℕ) (parts parts_after : List RoundsAndSalt) → left_after ≡ drop (bags_draw to gs) left
    → seen_parts parts_after ≡ seen_parts parts ++ rounds_and_salts (key_algorithms to gs) left
    → seen_parts parts_after ++ rounds_and_salts more left_after ≡ seen_parts parts ++ rounds_and_salts (key_algorithms to gs ++ more) left
keys_among to gs more left left_after parts parts_after cut added =
    let own = rounds_and_salts (key_algorithms to gs) left in
    let at = drop (bags_draw to gs) left in
    ap (λ (l : List ℕ). seen_parts parts_after ++ rounds_and_salts more l) cut ∙ ap (λ (l : List Part). l ++ rounds_and_salts more at) added ∙ append_assoc (seen_parts parts) own (rounds_and_salts more at)
    ∙ ap (λ (l : List Part). seen_parts parts ++ l)
    (ap (λ (n : ℕ). own ++ rounds_and_salts more (drop n left)) (sym (keys_drawn to gs)) ∙ sym (parts_append (key_algorithms to gs) more left))

-- the drawn octets that are left are enough for the other contents
pub room_after : (to : Kinds) (rest back : List ContentInfo) (c : ContentInfo) (rest_bags bags_after : List (List SafeBag)) (gs : List SafeBag) (n : ℕ) (left left_own left_after : List ℕ)
    → rest ≡ c ∷ back → rest_bags ≡ gs ∷ bags_after → sum_by (content_draws to) rest + sum_by (bags_draw to) rest_bags ≤ length left → n ≤ content_draws to c → length left ≡ n + length left_own
    → length left_own ≡ bags_draw to gs + length left_after → sum_by (content_draws to) back + sum_by (bags_draw to) bags_after ≤ length left_after
room_after to rest back c rest_bags bags_after gs n left left_own left_after e f room few one two =
    omega (arith, ap (sum_by (content_draws to)) e ∙ draws_cons to c back, ap (sum_by (bags_draw to)) f ∙ all_draws_cons to gs bags_after, room, few, one, two)

pub not_locked : (to : Kinds) (c : ContentInfo) → ((d : EncryptedData) → c ≡ content.EncryptedData d → ⊥) → own_algorithm to c ≡ []
not_locked to (content.Data v) h = refl
not_locked to (content.OtherContext o) h = refl
not_locked to (content.EncryptedData d) h = absurd (h d refl)

-- a content that is not encrypted
pub parts_plain : (to : Kinds) (contents rest back : List ContentInfo) (c : ContentInfo) (bags rest_bags bags_after : List (List SafeBag)) (gs : List SafeBag) (drawn left left_after : List ℕ) (parts parts_after : List RoundsAndSalt)
    → PartsOn to contents rest bags rest_bags drawn left parts → rest ≡ c ∷ back → rest_bags ≡ gs ∷ bags_after → own_algorithm to c ≡ [] → left_after ≡ drop (bags_draw to gs) left
    → seen_parts parts_after ≡ seen_parts parts ++ rounds_and_salts (key_algorithms to gs) left → PartsOn to contents back bags bags_after drawn left_after parts_after
parts_plain to contents rest back c bags rest_bags bags_after gs drawn left left_after parts parts_after on e f none cut added =
    let more = part_algorithms to back bags_after in
    let same : part_algorithms to rest rest_bags ≡ key_algorithms to gs ++ more =
    ap (λ (cs : List ContentInfo). part_algorithms to cs rest_bags) e ∙ ap (λ (gss : List (List SafeBag)). part_algorithms to (c ∷ back) gss) f
    ∙ ap (λ (own : List AlgorithmIdentifier). own ++ (key_algorithms to gs ++ more)) none in
    record {
      are = keys_among to gs more left left_after parts parts_after cut added ∙ ap (λ (l : List AlgorithmIdentifier). seen_parts parts ++ rounds_and_salts l left) (sym same) ∙ on.are;
    }

-- a content that is
pub parts_locked : (to : Kinds) (contents rest back : List ContentInfo) (c : ContentInfo) (d : EncryptedData) (bags rest_bags bags_after : List (List SafeBag)) (gs : List SafeBag) (drawn left left_own left_after : List ℕ)
    (parts parts_own parts_after : List RoundsAndSalt) → PartsOn to contents rest bags rest_bags drawn left parts → rest ≡ c ∷ back → rest_bags ≡ gs ∷ bags_after → c ≡ content.EncryptedData d
    → left_own ≡ drop (drawn_for (kind_for to d.encrypted_content_info.content_encryption_algorithm)) left
    → seen_parts parts_own ≡ seen_parts parts ++ rounds_and_salt (kind_for to d.encrypted_content_info.content_encryption_algorithm) (take (drawn_for (kind_for to d.encrypted_content_info.content_encryption_algorithm)) left)
    → left_after ≡ drop (bags_draw to gs) left_own → seen_parts parts_after ≡ seen_parts parts_own ++ rounds_and_salts (key_algorithms to gs) left_own → PartsOn to contents back bags bags_after drawn left_after parts_after
parts_locked to contents rest back c d bags rest_bags bags_after gs drawn left left_own left_after parts parts_own parts_after on e f is cut_own added_own cut added =
    let a = kind_for to d.encrypted_content_info.content_encryption_algorithm in
    let n = drawn_for a in
    let own = rounds_and_salt a (take n left) in
    let more = part_algorithms to back bags_after in
    let keys = key_algorithms to gs ++ more in
    let same : part_algorithms to rest rest_bags ≡ a ∷ keys =
    ap (λ (cs : List ContentInfo). part_algorithms to cs rest_bags) e ∙ ap (λ (gss : List (List SafeBag)). part_algorithms to (c ∷ back) gss) f
    ∙ ap (λ (x : ContentInfo). own_algorithm to x ++ keys) is in
    record {
      are =
          keys_among to gs more left_own left_after parts_own parts_after cut added ∙ ap (λ (l : List ℕ). seen_parts parts_own ++ rounds_and_salts keys l) cut_own
          ∙ ap (λ (l : List Part). l ++ rounds_and_salts keys (drop n left)) added_own ∙ append_assoc (seen_parts parts) own (rounds_and_salts keys (drop n left))
          ∙ ap (λ (l : List AlgorithmIdentifier). seen_parts parts ++ rounds_and_salts l left) (sym same) ∙ on.are;
    }

-- ---- runs of parts

with_salts : (r : ℕ) (run : List RoundsAndSalt) → All (λ (p : RoundsAndSalt). p.rounds ≡ r) run → map (λ (salt : List ℕ). (r, salt)) (map (λ (p : RoundsAndSalt). p.salt) run) ≡ seen_parts run
with_salts r [] h = refl
with_salts r (p ∷ run) h =
    let first : p.rounds ≡ r = All-head (λ (p : RoundsAndSalt). p.rounds ≡ r) p run h in
    let rest = with_salts r run (All-tail (λ (p : RoundsAndSalt). p.rounds ≡ r) p run h) in
    ap (λ (n : ℕ). (n, p.salt) ∷ map (λ (salt : List ℕ). (r, salt)) (map (λ (p : RoundsAndSalt). p.salt) run)) (sym first) ∙ ap (λ (l : List Part). seen_part p ∷ l) rest

run_is : (made : DerivedKeys) (run : List RoundsAndSalt) (r : ℕ) → All (λ (p : RoundsAndSalt). p.rounds ≡ r) run → made.rounds ≡ r → made.salts ≡ map (λ (p : RoundsAndSalt). p.salt) run → seen_run made ≡ seen_parts run
run_is made run r equal rounds salts =
    ap (λ (n : ℕ). map (λ (salt : List ℕ). (n, salt)) made.salts) rounds ∙ ap (λ (l : List (List ℕ)). map (λ (salt : List ℕ). (r, salt)) l) salts ∙ with_salts r run equal

-- The runs that were derived, and the parts that are left, are all parts.
pub record RunsOn (parts rest : List RoundsAndSalt) (new : List ℕ) (runs : List DerivedKeys) : Type 0 where
  pub parts_are : seen_runs runs ++ seen_parts rest ≡ seen_parts parts
  pub password : All (λ (run : DerivedKeys). run.password.now ≡ new) runs

pub runs_step : (parts rest run back : List RoundsAndSalt) (n r : ℕ) (new : List ℕ) (runs runs_after : List DerivedKeys) (made : DerivedKeys) → RunsOn parts rest new runs → run ≡ take n rest → back ≡ drop n rest
    → All (λ (p : RoundsAndSalt). p.rounds ≡ r) (take n rest) → made.rounds ≡ r → made.salts ≡ map (λ (p : RoundsAndSalt). p.salt) run → made.password.now ≡ new → runs_after ≡ runs ++ made ∷ []
    → RunsOn parts back new runs_after
runs_step parts rest run back n r new runs runs_after made on front after equal rounds salts password pushed =
    let of_run : seen_run made ≡ seen_parts (take n rest) =
    run_is made run r (subst (λ (l : List RoundsAndSalt). All (λ (p : RoundsAndSalt). p.rounds ≡ r) l) (sym front) equal) rounds salts ∙ ap seen_parts front in
    let one : seen_runs (made ∷ []) ≡ seen_run made = flat_map-cons seen_run made [] ∙ append-nil (seen_run made) in
    let all : seen_runs runs_after ≡ seen_runs runs ++ seen_parts (take n rest) =
    ap seen_runs pushed ∙ flat_map-append seen_run runs (made ∷ []) ∙ ap (λ (l : List Part). seen_runs runs ++ l) (one ∙ of_run) in
    let split : seen_parts (take n rest) ++ seen_parts (drop n rest) ≡ seen_parts rest =
    sym (map-append seen_part (take n rest) (drop n rest)) ∙ ap seen_parts (take-append-drop n rest) in
    record {
      parts_are =
          ap (λ (l : List RoundsAndSalt). seen_runs runs_after ++ seen_parts l) after ∙ ap (λ (l : List Part). l ++ seen_parts (drop n rest)) all
          ∙ append_assoc (seen_runs runs) (seen_parts (take n rest)) (seen_parts (drop n rest)) ∙ ap (λ (l : List Part). seen_runs runs ++ l) split ∙ on.parts_are;
      password = subst (λ (l : List DerivedKeys). All (λ (run : DerivedKeys). run.password.now ≡ new) l) (sym pushed)
          (All-push (λ (run : DerivedKeys). run.password.now ≡ new) runs made on.password password);
    }

pub runs_end : (parts rest : List RoundsAndSalt) (new : List ℕ) (runs : List DerivedKeys) → RunsOn parts rest new runs → rest ≡ [] → seen_runs runs ≡ seen_parts parts
runs_end parts rest new runs on none = sym (append-nil (seen_runs runs)) ∙ ap (λ (l : List RoundsAndSalt). seen_runs runs ++ seen_parts l) (sym none) ∙ on.parts_are

-- ---- the keys of runs

abbrev key_of : List ℕ → Part → List ℕ
key_of new part = sha256_key part.0 new part.1

run_keys : (r : ℕ) (new : List ℕ) (salts : List (List ℕ)) → map (λ (salt : List ℕ). sha256_key r new salt) salts ≡ map (key_of new) (map (λ (salt : List ℕ). (r, salt)) salts)
run_keys r new [] = refl
run_keys r new (s ∷ salts) = ap (λ (l : List (List ℕ)). sha256_key r new s ∷ l) (run_keys r new salts)

one_run : (run : DerivedKeys) (new : List ℕ) → run.password.now ≡ new → run.keys ≡ map (key_of new) (seen_run run)
one_run run new is =
    run.are_derived ∙ ap (λ (q : List ℕ). map (λ (salt : List ℕ). sha256_key run.rounds q salt) run.salts) is ∙ run_keys run.rounds new run.salts

pub all_keys_are : (runs : List DerivedKeys) (new : List ℕ) → All (λ (run : DerivedKeys). run.password.now ≡ new) runs → keys_in runs ≡ map (key_of new) (seen_runs runs)
all_keys_are [] new h = refl
all_keys_are (run ∷ runs) new h =
    let P : DerivedKeys → Type 0 = λ run. run.password.now ≡ new in
    let first = one_run run new (All-head P run runs h) in
    let rest = all_keys_are runs new (All-tail P run runs h) in
    ap (λ (l : List (List ℕ)). l ++ keys_in runs) first ∙ ap (λ (l : List (List ℕ)). map (key_of new) (seen_run run) ++ l) rest ∙ sym (map-append (key_of new) (seen_run run) (seen_runs runs))
