-- One store comes of the same drawn octets.
use Rattle.std.proofs.Common.{◌≡◌, ℕ, ◌+◌, ◌<◌, Bool, true, false, List, [], ◌∷◌, ◌++◌, length, take, drop, Option, Some, None, refl, sym, ap, ap₂, subst, ◌∙◌, arith}
use Rattle.std.specs.Prelude.{All, if◌then◌else◌}
use Rattle.std.proofs.lemmas.List.{length-append}
use Rattle.std.proofs.lemmas.List.Elements.{All-head, All-tail}
use Rattle.std.proofs.Math.Seq.{drop-append_seam, take-append_seam}
use Rattle.pkcs5.specs.Cipher.{IsCipher}
use Rattle.pkcs5.specs.Opening.{Opens}
use Rattle.pkcs5.specs.OpeningLaws.{opened_is}
use Rattle.pkcs5.specs.declared.pbes2.parameters.Parameters.{Parameters}
use Rattle.p12.specs.AlgorithmIdentifier.{unlock}
use Rattle.p12.proofs.Pbes2.{unlock_pbes2-is}
use Rattle.p12.specs.Canonical.{store_canon}
use Rattle.p12.specs.declared.safe_bag.SafeBag.{SafeBag}
use Rattle.create_core.specs.Bags.{KeysSealed, key_bag}
use Rattle.create_core.specs.Created.{store_of, two_contents}
use Rattle.create_core.specs.Laws.{OneCreated}
use Rattle.sealing_core.specs.Drawn.{AreOf16, octets_of}
use Rattle.create_core.specs.Parts.{Seals, parameters_under, under}
use Rattle.sealing_core.specs.declared.drawn.IvAndSalt.{IvAndSalt}
use Rattle.create_core.specs.declared.entry.KeyEntry.{KeyEntry}
use Rattle.sealing_core.proofs.Draws.{length-octets_of}

-- the law of pkcs5
abbrev pub OneCiphertext : Type 0
OneCiphertext = (par : Parameters) (q c d m : List ℕ) → All (λ octet. octet < 256) c → All (λ octet. octet < 256) d → IsCipher par.encryption → Opens par q c m → Opens par q d m → c ≡ d

halves : (a b c d : List ℕ) → length a ≡ length c → a ++ b ≡ c ++ d → (a ≡ c) × (b ≡ d)
halves a b c d l e = (
  sym (take-append_seam a b) ∙ ap (take (length a)) e ∙ ap (λ (n : ℕ). take n (c ++ d)) l ∙ take-append_seam c d,
  sym (drop-append_seam a b) ∙ ap (drop (length a)) e ∙ ap (λ (n : ℕ). drop n (c ++ d)) l ∙ drop-append_seam c d,
)

part_of : List ℕ → List ℕ → IvAndSalt
part_of iv salt = record { iv = iv; salt = salt }

part_same : (d e : IvAndSalt) → AreOf16 d → AreOf16 e → d.iv ++ d.salt ≡ e.iv ++ e.salt → d ≡ e
unfolding part_of
part_same d e f g h = let p = halves d.iv d.salt e.iv e.salt (f.0 ∙ sym g.0) h in ap₂ part_of p.0 p.1

parts_same : (ds es : List IvAndSalt) → All AreOf16 ds → All AreOf16 es → length ds ≡ length es → octets_of ds ≡ octets_of es → ds ≡ es
parts_same [] [] f g l h = refl
parts_same [] (e ∷ es) f g l h = absurd (omega (arith, l))
parts_same (d ∷ ds) [] f g l h = absurd (omega (arith, l))
parts_same (d ∷ ds) (e ∷ es) f g l h =
    let one = All-head AreOf16 d ds f in
    let two = All-head AreOf16 e es g in
    let p = halves (d.iv ++ d.salt) (octets_of ds) (e.iv ++ e.salt) (octets_of es) (omega (arith, length-append d.iv d.salt, length-append e.iv e.salt, one.0, one.1, two.0, two.1)) h in
    ap₂ (λ (x : IvAndSalt) (xs : List IvAndSalt). x ∷ xs) (part_same d e one two p.0) (parts_same ds es (All-tail AreOf16 d ds f) (All-tail AreOf16 e es g) (omega (arith, l)) p.1)

if_value : (t : Bool) (r : Option (List ℕ)) (m : List ℕ) → (if t then r else None) ≡ Some m → r ≡ Some m
if_value true r m e = e
if_value false r m e = absurd cc

opens_of : (r : ℕ) (p : List ℕ) (d : IvAndSalt) (m c : List ℕ) → unlock (under r d) p c ≡ Some m → Opens (parameters_under r d) p c m
unfolding unlock
opens_of r p d m c e = opened_is (parameters_under r d) p c m (if_value _ _ m (sym (unlock_pbes2-is (parameters_under r d) p c) ∙ e))

sealed_same : OneCiphertext → (r : ℕ) (p : List ℕ) (d : IvAndSalt) (m c v : List ℕ) → AreOf16 d → Seals r p d m c → Seals r p d m v → c ≡ v
sealed_same one r p d m c v of s t = one (parameters_under r d) p c v m s.octets t.octets of.0 (opens_of r p d m c s.opens) (opens_of r p d m v t.opens)

each_length : (r : ℕ) (p : List ℕ) (es : List KeyEntry) (ds : List IvAndSalt) (gs : List SafeBag) → KeysSealed r p es ds gs → length ds ≡ length es
each_length r p [] [] [] h = refl
each_length r p [] [] (g ∷ gs) h = absurd h
each_length r p [] (d ∷ ds) gs h = absurd h
each_length r p (e ∷ es) [] gs h = absurd h
each_length r p (e ∷ es) (d ∷ ds) [] h = absurd h
each_length r p (e ∷ es) (d ∷ ds) (g ∷ gs) h = omega (arith, each_length r p es ds gs h.1)

bags_same : OneCiphertext → (r : ℕ) (p : List ℕ) (es : List KeyEntry) (ds : List IvAndSalt) (gs hs : List SafeBag) → All AreOf16 ds → KeysSealed r p es ds gs → KeysSealed r p es ds hs → gs ≡ hs
bags_same one r p [] [] [] [] of h k = refl
bags_same one r p [] [] [] (x ∷ hs) of h k = absurd k
bags_same one r p [] [] (g ∷ gs) hs of h k = absurd h
bags_same one r p [] (d ∷ ds) gs hs of h k = absurd h
bags_same one r p (e ∷ es) [] gs hs of h k = absurd h
bags_same one r p (e ∷ es) (d ∷ ds) [] hs of h k = absurd h
bags_same one r p (e ∷ es) (d ∷ ds) (g ∷ gs) [] of h k = absurd k
bags_same one r p (e ∷ es) (d ∷ ds) (g ∷ gs) (x ∷ hs) of h k =
    let c = sealed_same one r p d e.key h.0.ciphertext k.0.ciphertext (All-head AreOf16 d ds of) h.0.seals k.0.seals in
    ap₂ (λ (y : SafeBag) (ys : List SafeBag). y ∷ ys) (h.0.is ∙ ap (key_bag r e d) c ∙ sym k.0.is) (bags_same one r p es ds gs hs (All-tail AreOf16 d ds of) h.1 k.1)

pub one_created : OneCiphertext → OneCreated
one_created one keys certificates p r drawn b c m n =
    let many : length m.of_keys ≡ length n.of_keys = each_length r p keys m.of_keys m.bags m.keys_sealed ∙ sym (each_length r p keys n.of_keys n.bags n.keys_sealed) in
    let size : length (octets_of m.of_keys) ≡ length (octets_of n.of_keys) = omega (arith, many, length-octets_of m.of_keys m.keys_of_16, length-octets_of n.of_keys n.keys_of_16) in
    let x = m.of_certificates in
    let y = n.of_certificates in
    let whole : (octets_of m.of_keys ++ (x.iv ++ x.salt)) ++ m.salt ≡ (octets_of n.of_keys ++ (y.iv ++ y.salt)) ++ n.salt = sym m.order ∙ n.order in
    let front = halves (octets_of m.of_keys ++ (x.iv ++ x.salt)) m.salt (octets_of n.of_keys ++ (y.iv ++ y.salt)) n.salt
    (omega (arith, length-append (octets_of m.of_keys) (x.iv ++ x.salt), length-append (octets_of n.of_keys) (y.iv ++ y.salt), size, length-append x.iv x.salt, length-append y.iv y.salt, m.certificates_of_16.0, m.certificates_of_16.1, n.certificates_of_16.0, n.certificates_of_16.1)) whole in
    let both = halves (octets_of m.of_keys) (x.iv ++ x.salt) (octets_of n.of_keys) (y.iv ++ y.salt) size front.0 in
    let parts : n.of_keys ≡ m.of_keys = sym (parts_same m.of_keys n.of_keys m.keys_of_16 n.keys_of_16 many both.0) in
    let part : y ≡ x = sym (part_same x y m.certificates_of_16 n.certificates_of_16 both.1) in
    let bags : m.bags ≡ n.bags = bags_same one r p keys m.of_keys m.bags n.bags m.keys_of_16 m.keys_sealed (subst (λ (ds : List IvAndSalt). KeysSealed r p keys ds n.bags) parts n.keys_sealed) in
    let sealed : m.sealed ≡ n.sealed = sealed_same one r p x _ m.sealed n.sealed m.certificates_of_16 m.certificates_sealed (subst (λ (d : IvAndSalt). Seals r p d _ n.sealed) part n.certificates_sealed) in
    m.is ∙ ap (λ (s : List ℕ). store_canon (store_of r p s (two_contents r x m.sealed m.bags))) front.1 ∙ ap (λ (d : IvAndSalt). store_canon (store_of r p n.salt (two_contents r d m.sealed m.bags))) (sym part)
    ∙ ap (λ (v : List ℕ). store_canon (store_of r p n.salt (two_contents r y v m.bags))) sealed ∙ ap (λ (gs : List SafeBag). store_canon (store_of r p n.salt (two_contents r y n.sealed gs))) bags ∙ sym n.is
