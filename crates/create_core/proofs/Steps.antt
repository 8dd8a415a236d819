-- The steps of making a store.
use Rattle.std.proofs.Common.{◌≡◌, ℕ, ◌+◌, ◌<◌, ◌≤◌, ◌^◌, List, [], ◌∷◌, ◌++◌, length, take, Option, sym, ap, subst, ◌∙◌, arith}
use Rattle.std.specs.Prelude.{All, Ok, Err, IfErr, IfOk, Result}
use Rattle.std.specs.Io.KnownBytes.{Consumes}
use Rattle.std.proofs.lemmas.List.{length-append}
use Rattle.std.proofs.lemmas.List.Elements.{All-nil, All-cons, All-take}
use Rattle.asn1_core.specs.Writing.{IsOverlong}
use Rattle.p12.specs.Canonical.{WritableAlgorithm, WritableContent, bags_canon, contents_canon, store_canon}
use Rattle.p12.specs.MacData.{mac_of}
use Rattle.p12.specs.Writing.{EncodesText}
use Rattle.p12.specs.declared.algorithm_identifier.AlgorithmIdentifier.TheVariants.{Sha256}
use Rattle.p12.specs.declared.content_info.ContentInfo.{ContentInfo}
use Rattle.p12.specs.declared.mac_data.MacData.{MacData}
use Rattle.p12.specs.declared.content_info.ContentInfo.TheVariants as content
use Rattle.p12.specs.declared.error.Error.{Error}
use Rattle.p12.specs.declared.error.Error.TheVariants as errors
use Rattle.p12.specs.declared.safe_bag.SafeBag.{SafeBag}
use Rattle.transfer.specs.Limits.{store_limit}
use Rattle.create_core.specs.Bags.{HasKeyText, IsCertificateNamedInText, IsNamedInText, KeysSealed, certificate_bags}
use Rattle.create_core.specs.CreateError.{LongOnly}
use Rattle.create_core.specs.Created.{DrawsAndCreates, RefusesToCreate, created_draws, sealed_content, store_of}
use Rattle.create_core.specs.Making.{AreContents, IsSealedText, IsWritingRefusal}
use Rattle.sealing_core.specs.Drawn.{AreOf16, octets_of}
use Rattle.create_core.specs.Parts.{FailsToDraw}
use Rattle.create_core.specs.Size.{blank_keys, created_size}
use Rattle.sealing_core.specs.declared.drawn.IvAndSalt.{IvAndSalt}
use Rattle.create_core.specs.declared.entry.CertificateEntry.{CertificateEntry}
use Rattle.create_core.specs.declared.entry.KeyEntry.{KeyEntry}
use Rattle.create_core.specs.declared.error.CreateError.{CreateError}
use Rattle.create_core.specs.declared.error.CreateError.TheVariants.{Malformed, Rng, TooLong, Memory}
use Rattle.create_core.proofs.BagLoops.{are_parameters}
use Rattle.sealing_core.proofs.Draws.{consumes_more, lacks_all, length-octets_of, parted, took_least}
use Rattle.create_core.proofs.Sizes.{certificates_in, contents_in, keys_in, keys_same, store_size}

-- ---- refusals to write

pub long_map : (P Q : Type 0) (e : CreateError) → (P → Q) → LongOnly P e → LongOnly Q e
long_map P Q TooLong f h = f h
long_map P Q Memory f h = h
long_map P Q Malformed f h = absurd h
long_map P Q Rng f h = absurd h

pub writing_refusal : (can : Type 0) (text : List ℕ) (e : Error) → can → EncodesText can text (Err e) → IsWritingRefusal e
writing_refusal can text errors.Malformed c h = h c
writing_refusal can text errors.Invalid c h = h
writing_refusal can text errors.Rng c h = h
writing_refusal can text errors.TooLong c h = tt
writing_refusal can text errors.Memory c h = tt

overlong : (can : Type 0) (text : List ℕ) (e : Error) → EncodesText can text (Err e) → e ≡ errors.TooLong → IsOverlong (length text)
overlong can text errors.TooLong h is = h
overlong can text errors.Malformed h is = absurd cc
overlong can text errors.Invalid h is = absurd cc
overlong can text errors.Rng h is = absurd cc
overlong can text errors.Memory h is = absurd cc

pub long_outer : (can : Type 0) (r : ℕ) (p salt : List ℕ) (cs : List ContentInfo) (e : Error) (f : CreateError) → EncodesText can (contents_canon cs) (Err e) → LongOnly (e ≡ errors.TooLong) f
    → LongOnly (store_limit < length (store_canon (store_of r p salt cs))) f
long_outer can r p salt cs e f h l = long_map _ _ f (λ is. omega (arith, overlong can (contents_canon cs) e h is, contents_in r p salt cs)) l

-- ---- contents

pub long_keys : (r : ℕ) (p : List ℕ) (keys : List KeyEntry) (drawn : List IvAndSalt) (bags listed : List SafeBag) (e : CreateError) → All AreOf16 drawn → KeysSealed r p keys (take (length keys) drawn) bags → listed ≡ bags
    → LongOnly (2 ^ 32 ≤ length (bags_canon listed)) e → LongOnly (2 ^ 32 ≤ length (blank_keys r keys)) e
long_keys r p keys drawn bags listed e of h same l =
    long_map _ _ e (λ long. omega (arith, long, ap (λ (x : List SafeBag). length (bags_canon x)) same, keys_same r p keys (take (length keys) drawn) bags (All-take AreOf16 (length keys) drawn of) h)) l

pub long_first : (r : ℕ) (keys : List KeyEntry) (certificates : List CertificateEntry) (e : CreateError) → LongOnly (2 ^ 32 ≤ length (bags_canon (certificate_bags keys certificates))) e → LongOnly (store_limit < created_size r keys certificates) e
long_first r keys certificates e h = long_map _ _ e (λ long. omega (arith, long, certificates_in r keys certificates)) h

pub long_second : (r : ℕ) (keys : List KeyEntry) (certificates : List CertificateEntry) (e : CreateError) → LongOnly (2 ^ 32 ≤ length (blank_keys r keys)) e → LongOnly (store_limit < created_size r keys certificates) e
long_second r keys certificates e h = long_map _ _ e (λ long. omega (arith, long, keys_in r keys certificates)) h

pub contents_write : (r : ℕ) (p : List ℕ) (keys : List KeyEntry) (certificates : List CertificateEntry) (drawn : List IvAndSalt) (cs : List ContentInfo) → r < 2 ^ 32 → length drawn ≡ length keys + 1 → All AreOf16 drawn
    → AreContents r p keys certificates drawn cs → All WritableContent cs
contents_write r p keys certificates drawn cs small long of a =
    let first = sealed_content r a.part a.sealed in
    let second = content.Data (bags_canon a.bags) in
    let last = (parted drawn (length keys) a.part a.at long of).last in
    subst (All WritableContent) (sym a.are) (All-cons WritableContent first (second ∷ []) (are_parameters r a.part small last) (All-cons WritableContent second [] tt (All-nil WritableContent)))

-- ---- the text

sized : (r : ℕ) (p : List ℕ) (keys : List KeyEntry) (certificates : List CertificateEntry) (drawn : List IvAndSalt) (salt : List ℕ) (cs : List ContentInfo) → length drawn ≡ length keys + 1 → All AreOf16 drawn → length salt ≡ 8
    → AreContents r p keys certificates drawn cs → length (store_canon (store_of r p salt cs)) ≡ created_size r keys certificates
sized r p keys certificates drawn salt cs long of eight a =
    let k = parted drawn (length keys) a.part a.at long of in
    ap (λ (x : List ContentInfo). length (store_canon (store_of r p salt x))) a.are
    ∙ store_size r p keys certificates (take (length keys) drawn) a.part a.sealed a.bags salt k.front k.last a.certificates_sealed a.keys_sealed eight

pub sealed_text : (r : ℕ) (p : List ℕ) (keys : List KeyEntry) (certificates : List CertificateEntry) (drawn : List IvAndSalt) (salt b : List ℕ) (cs listed : List ContentInfo) → length drawn ≡ length keys + 1 → All AreOf16 drawn → length salt ≡ 8
    → AreContents r p keys certificates drawn cs → listed ≡ cs → (b ≡ store_canon (store_of r p salt listed)) × (length b ≤ store_limit) → IsSealedText r p keys certificates drawn salt b
sealed_text r p keys certificates drawn salt b cs listed long of eight a same is =
    let text : b ≡ store_canon (store_of r p salt cs) = is.0 ∙ ap (λ (x : List ContentInfo). store_canon (store_of r p salt x)) same in
    record { contents = cs; are = a; is = text; short = is.1; sized = ap length text ∙ sized r p keys certificates drawn salt cs long of eight a }

pub long_text : (r : ℕ) (p : List ℕ) (keys : List KeyEntry) (certificates : List CertificateEntry) (drawn : List IvAndSalt) (salt : List ℕ) (cs listed : List ContentInfo) (e : CreateError) → length drawn ≡ length keys + 1 → All AreOf16 drawn
    → length salt ≡ 8 → AreContents r p keys certificates drawn cs → listed ≡ cs → LongOnly (store_limit < length (store_canon (store_of r p salt listed))) e → LongOnly (store_limit < created_size r keys certificates) e
long_text r p keys certificates drawn salt cs listed e long of eight a same h =
    long_map _ _ e (λ l. omega (arith, l, ap (λ (x : List ContentInfo). length (store_canon (store_of r p salt x))) same, sized r p keys certificates drawn salt cs long of eight a)) h

-- ---- the whole call

pub draws_and_creates : (keys : List KeyEntry) (certificates : List CertificateEntry) (p : List ℕ) (r : ℕ) (old mid new : Option (List ℕ)) (drawn : List IvAndSalt) (salt b : List ℕ) → All HasKeyText keys → All IsNamedInText keys
    → All IsCertificateNamedInText certificates → All AreOf16 drawn → length drawn ≡ length keys + 1 → Consumes old mid (octets_of drawn) → Consumes mid new salt → length salt ≡ 8 → IsSealedText r p keys certificates drawn salt b
    → DrawsAndCreates keys certificates p r old new b
draws_and_creates keys certificates p r old mid new drawn salt b are names others of long first second eight s =
    let a = s.are in
    let k = parted drawn (length keys) a.part a.at long of in
    record {
      drawn = octets_of drawn ++ salt;
      exactly = omega (arith, length-append (octets_of drawn) salt, length-octets_of drawn of, long, eight);
      took = consumes_more old mid new (octets_of drawn) salt first second;
      creates = record {
        are_keys = are;
        key_names = names;
        certificate_names = others;
        of_keys = take (length keys) drawn;
        of_certificates = a.part;
        salt = salt;
        order = ap (λ (x : List ℕ). x ++ salt) k.octets;
        keys_of_16 = k.front;
        certificates_of_16 = k.last;
        salt_of_8 = eight;
        sealed = a.sealed;
        bags = a.bags;
        certificates_sealed = a.certificates_sealed;
        keys_sealed = a.keys_sealed;
        is = s.is ∙ ap (λ (x : List ContentInfo). store_canon (store_of r p salt x)) a.are;
        short = s.short;
      };
      sized = s.sized;
    }

pub salt_refused : (keys : List KeyEntry) (certificates : List CertificateEntry) (r before mid now : ℕ) (old left : Option (List ℕ)) (drawn : List IvAndSalt) (e : CreateError) → All HasKeyText keys → All AreOf16 drawn → length drawn ≡ length keys + 1
    → mid ≡ before → Consumes old left (octets_of drawn) → FailsToDraw mid now left 8 e → RefusesToCreate keys certificates r before now old e
salt_refused keys certificates r before mid now old left drawn Malformed are of long same took h = absurd h
salt_refused keys certificates r before mid now old left drawn Rng are of long same took h =
    (are, lacks_all before mid now old left (octets_of drawn) 8 (created_draws keys) same took (omega (arith, length-octets_of drawn of, long)) h)
salt_refused keys certificates r before mid now old left drawn TooLong are of long same took h = absurd h
salt_refused keys certificates r before mid now old left drawn Memory are of long same took h = tt

pub text_refused : (keys : List KeyEntry) (certificates : List CertificateEntry) (r before now : ℕ) (old mid new : Option (List ℕ)) (drawn : List IvAndSalt) (salt : List ℕ) (e : CreateError) → All HasKeyText keys → All AreOf16 drawn
    → length drawn ≡ length keys + 1 → Consumes old mid (octets_of drawn) → Consumes mid new salt → length salt ≡ 8 → LongOnly (store_limit < created_size r keys certificates) e → RefusesToCreate keys certificates r before now old e
text_refused keys certificates r before now old mid new drawn salt Malformed are of long first second eight h = absurd h
text_refused keys certificates r before now old mid new drawn salt Rng are of long first second eight h = absurd h
text_refused keys certificates r before now old mid new drawn salt TooLong are of long first second eight h =
    (are, took_least old new (octets_of drawn ++ salt) (created_draws keys) (consumes_more old mid new (octets_of drawn) salt first second) (omega (arith, length-append (octets_of drawn) salt, length-octets_of drawn of, long, eight)), h)
text_refused keys certificates r before now old mid new drawn salt Memory are of long first second eight h = tt

pub mac_writes : (mac : MacData) (q v salt : List ℕ) (r : ℕ) → mac ≡ mac_of Sha256 q v salt r → WritableAlgorithm mac.mac.digest_algorithm
unfolding mac_of
mac_writes mac q v salt r e = subst (λ (x : MacData). WritableAlgorithm x.mac.digest_algorithm) (sym e) tt

-- of a result of the last step
pub text_if : (r : ℕ) (p : List ℕ) (keys : List KeyEntry) (certificates : List CertificateEntry) (drawn : List IvAndSalt) (salt : List ℕ) (cs listed : List ContentInfo) (x : Result (List ℕ) CreateError) → length drawn ≡ length keys + 1 → All AreOf16 drawn
    → length salt ≡ 8 → AreContents r p keys certificates drawn cs → listed ≡ cs → IfOk x (λ b. (b ≡ store_canon (store_of r p salt listed)) × (length b ≤ store_limit)) → IfOk x (IsSealedText r p keys certificates drawn salt)
text_if r p keys certificates drawn salt cs listed (Ok b) long of eight a same h = sealed_text r p keys certificates drawn salt b cs listed long of eight a same h
text_if r p keys certificates drawn salt cs listed (Err e) long of eight a same h = tt

pub long_if : (r : ℕ) (p : List ℕ) (keys : List KeyEntry) (certificates : List CertificateEntry) (drawn : List IvAndSalt) (salt : List ℕ) (cs listed : List ContentInfo) (x : Result (List ℕ) CreateError) → length drawn ≡ length keys + 1 → All AreOf16 drawn
    → length salt ≡ 8 → AreContents r p keys certificates drawn cs → listed ≡ cs → IfErr x (LongOnly (store_limit < length (store_canon (store_of r p salt listed)))) → IfErr x (LongOnly (store_limit < created_size r keys certificates))
long_if r p keys certificates drawn salt cs listed (Ok b) long of eight a same h = tt
long_if r p keys certificates drawn salt cs listed (Err e) long of eight a same h = long_text r p keys certificates drawn salt cs listed e long of eight a same h

-- the same under equal names
pub sealed_as : (r r2 : ℕ) (p p2 : List ℕ) (keys : List KeyEntry) (certificates : List CertificateEntry) (drawn drawn2 : List IvAndSalt) (salt b : List ℕ) → r2 ≡ r → p2 ≡ p → drawn2 ≡ drawn → IsSealedText r2 p2 keys certificates drawn2 salt b
    → IsSealedText r p keys certificates drawn salt b
sealed_as r r2 p p2 keys certificates drawn drawn2 salt b e f g h =
    subst (λ (n : ℕ). IsSealedText n p keys certificates drawn salt b) e (subst (λ (q : List ℕ). IsSealedText r2 q keys certificates drawn salt b) f (subst (λ (d : List IvAndSalt). IsSealedText r2 p2 keys certificates d salt b) g h))

pub long_as : (r r2 : ℕ) (keys : List KeyEntry) (certificates : List CertificateEntry) (e : CreateError) → r2 ≡ r → LongOnly (store_limit < created_size r2 keys certificates) e → LongOnly (store_limit < created_size r keys certificates) e
long_as r r2 keys certificates e same h = subst (λ (n : ℕ). LongOnly (store_limit < created_size n keys certificates) e) same h
