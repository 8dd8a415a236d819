-- One content that is sealed anew.
use Rattle.std.proofs.Common.{◌≡◌, ℕ, ◌<◌, ◌≤◌, ◌^◌, List, [], ◌++◌, length, Some, None, true, refl, sym, ap, subst, ◌∙◌, arith}
use Rattle.std.specs.Prelude.{All, ⊤}
use Rattle.std.proofs.lemmas.List.{append_assoc}
use Rattle.asn1_core.specs.Sets.{IsRead}
use Rattle.asn1_core.specs.Texts.{Many}
use Rattle.p12.specs.AlgorithmIdentifier.{count, openable, unlock}
use Rattle.p12.specs.Canonical.{WritableBag, bags_canon, content_canon}
use Rattle.p12.specs.SafeBag.{BagText, IsBags}
use Rattle.p12.specs.declared.content_info.ContentInfo.{ContentInfo}
use Rattle.p12.specs.declared.content_info.ContentInfo.TheVariants as content
use Rattle.p12.specs.declared.encrypted_data.EncryptedData.{EncryptedData}
use Rattle.p12.specs.declared.safe_bag.SafeBag.{SafeBag}
use Rattle.transfer.specs.declared.store.error.TransferError.{TransferError}
use Rattle.rekey_core.specs.Like.{FormLike, IsAnew}
use Rattle.rekey_core.specs.Unlocking.{HoldsBy, Unlocking}
use Rattle.rekey_core.specs.Sealing.{CanSeal, BagsSealed, ContentSealed, LongOnly, Supplies}
use Rattle.rekey_core.specs.Size.{blank_content, blank_text, sealed_size}
use Rattle.rekey_core.proofs.Sizes.{bags_same, plain_in, sealed_in, text_in_sealed}
use Rattle.rekey_core.proofs.Supplying.{long_map}
use Rattle.rekey_core.proofs.Texts.{bags_sealed, bags_write}
use Rattle.rekey_core.specs.Kinds.{kind_for}
use Rattle.rekey_core.specs.declared.kinds.Kinds.{Kinds}

-- what is asked of a content that is sealed anew
abbrev pub Asked : Kinds → ContentInfo → List SafeBag → List (List ℕ) → Type 0
Asked to c gs keys = (u : Unlocking) × (more : List (List ℕ)) × CanSeal to u × HoldsBy u c gs × Supplies u gs keys more

-- what is said of its bags, that were sealed
abbrev pub Said : Kinds → List ℕ → List SafeBag → List (List ℕ) → List (List ℕ) → List ℕ → List ℕ → List SafeBag → Type 0
Said to q gs keys keys_after drawn drawn_after hs = (u : Unlocking) (more : List (List ℕ)) → Supplies u gs keys more → (keys_after ≡ more) × BagsSealed to u q gs drawn drawn_after hs

pub asked_bags : (to : Kinds) (c : ContentInfo) (gs : List SafeBag) (keys now : List (List ℕ)) → now ≡ keys → Asked to c gs keys → (u : Unlocking) × (more : List (List ℕ)) × CanSeal to u × Supplies u gs now more
asked_bags to c gs keys now e (u, more, can, h, s) = (u, more, can, subst (λ (k : List (List ℕ)). Supplies u gs k more) (sym e) s)

many_of : (m : List ℕ) (gs : List SafeBag) → IsBags m gs → IsRead (Many BagText) gs
unfolding IsBags
many_of m gs ((w, r, e), short) = (w, r)

pub can_write : (to : Kinds) (q : List ℕ) (c : ContentInfo) (gs hs : List SafeBag) (keys now after : List (List ℕ)) (drawn drawn_after : List ℕ) → now ≡ keys → Asked to c gs keys → Said to q gs now after drawn drawn_after hs → All WritableBag hs
can_write to q c gs hs keys now after drawn drawn_after e (u, more, can, h, s) all =
    let b = (all u more (subst (λ (k : List (List ℕ)). Supplies u gs k more) (sym e) s)).1 in
    let m = many_of h.0 gs h.2 in
    let r = bags_sealed to u q gs hs b.took m.0 b.sealed m.1 in
    bags_write hs r.0 r.1

pub content_opens : (to : Kinds) (c : ContentInfo) (d : EncryptedData) (gs : List SafeBag) (keys : List (List ℕ)) → c ≡ content.EncryptedData d → Asked to c gs keys
    → (openable (kind_for to d.encrypted_content_info.content_encryption_algorithm) ≡ true) × (0 < count (kind_for to d.encrypted_content_info.content_encryption_algorithm))
content_opens to c d gs keys e (u, more, can, h, s) =
    let i = d.encrypted_content_info in
    let k = subst (λ (x : ContentInfo). HoldsBy u x gs) e h in
    can i.content_encryption_algorithm i.encrypted_content k.0 k.1

-- ---- too long

abbrev pub IsLong : Kinds → ContentInfo → List SafeBag → List (List ℕ) → Type 0
IsLong to c gs keys = (u : Unlocking) (more : List (List ℕ)) → HoldsBy u c gs → Supplies u gs keys more → 2 ^ 32 ≤ length (content_canon (blank_content to u c gs))

-- a content is of a kind that can be sealed
abbrev Sealable : Kinds → ContentInfo → Type 0
Sealable to (content.Data v) = ⊤
Sealable to (content.EncryptedData d) = openable (kind_for to d.encrypted_content_info.content_encryption_algorithm) ≡ true
Sealable to (content.OtherContext o) = ⊤

sealable : (to : Kinds) (c : ContentInfo) (gs : List SafeBag) (keys : List (List ℕ)) → Asked to c gs keys → Sealable to c
sealable to (content.Data v) gs keys a = tt
sealable to (content.EncryptedData d) gs keys a = (content_opens to (content.EncryptedData d) d gs keys refl a).0
sealable to (content.OtherContext o) gs keys a = tt

text_fits : (to : Kinds) (u : Unlocking) (c : ContentInfo) (gs : List SafeBag) → Sealable to c → HoldsBy u c gs → length (blank_text to u gs) ≤ length (content_canon (blank_content to u c gs))
text_fits to u (content.Data v) gs s h = plain_in to u v gs
text_fits to u (content.EncryptedData d) gs s h = text_in_sealed to u d gs s
text_fits to u (content.OtherContext o) gs s h = absurd (none_some h.0 h.1)
  where
    none_some : (m : List ℕ) → None ≡ Some m → ⊥
    none_some m e = cc

pub long_bags : (to : Kinds) (c : ContentInfo) (gs : List SafeBag) (keys now : List (List ℕ)) (f : TransferError) → now ≡ keys → Asked to c gs keys
    → LongOnly ((u : Unlocking) (more : List (List ℕ)) → Supplies u gs now more → 2 ^ 32 ≤ length (blank_text to u gs)) f → LongOnly (IsLong to c gs keys) f
long_bags to c gs keys now f e asked h = long_map _ _ f (λ all u more k s. omega (arith, all u more (subst (λ (x : List (List ℕ)). Supplies u gs x more) (sym e) s), text_fits to u c gs (sealable to c gs keys asked) k)) h

pub long_text : (to : Kinds) (q : List ℕ) (c : ContentInfo) (gs hs : List SafeBag) (keys now after : List (List ℕ)) (drawn drawn_after : List ℕ) (f : TransferError) → now ≡ keys → Asked to c gs keys → Said to q gs now after drawn drawn_after hs
    → LongOnly (2 ^ 32 ≤ length (bags_canon hs)) f → LongOnly (IsLong to c gs keys) f
long_text to q c gs hs keys now after drawn drawn_after f e asked all h = long_map _ _ f (λ l u more k s. (
    let b = (all u more (subst (λ (x : List (List ℕ)). Supplies u gs x more) (sym e) s)).1 in
    omega (arith, l, bags_same to u q gs hs b.took b.sealed, text_fits to u c gs (sealable to c gs keys asked) k)
    )) h

pub long_sealed : (to : Kinds) (q : List ℕ) (c : ContentInfo) (d : EncryptedData) (gs hs : List SafeBag) (keys now after : List (List ℕ)) (drawn drawn_after t : List ℕ) (f : TransferError) → c ≡ content.EncryptedData d → now ≡ keys
    → Said to q gs now after drawn drawn_after hs → t ≡ bags_canon hs → LongOnly (2 ^ 32 ≤ sealed_size (kind_for to d.encrypted_content_info.content_encryption_algorithm) (length t)) f → LongOnly (IsLong to c gs keys) f
long_sealed to q c d gs hs keys now after drawn drawn_after t f is e all same h = long_map _ _ f (λ l u more k s. (
    let b = (all u more (subst (λ (x : List (List ℕ)). Supplies u gs x more) (sym e) s)).1 in
    let a = kind_for to d.encrypted_content_info.content_encryption_algorithm in
    let size : sealed_size a (length t) ≡ sealed_size a (length (blank_text to u gs)) = ap (sealed_size a) (ap length same ∙ bags_same to u q gs hs b.took b.sealed) in
    let whole : length (content_canon (blank_content to u c gs)) ≡ length (content_canon (blank_content to u (content.EncryptedData d) gs)) = ap (λ (x : ContentInfo). length (content_canon (blank_content to u x gs))) is in
    omega (arith, l, size, whole, sealed_in to u d gs)
    )) h

-- ---- sealed

abbrev pub Sealed : Kinds → List ℕ → ContentInfo → List SafeBag → List (List ℕ) → List (List ℕ) → List ℕ → List ℕ → ContentInfo → Type 0
Sealed to q c gs keys after drawn drawn_after e = (u : Unlocking) (more : List (List ℕ)) → HoldsBy u c gs → Supplies u gs keys more → (after ≡ more) × (z : List ℕ) × (drawn ≡ z ++ drawn_after) × ContentSealed to u q z c e

pub plain_sealed : (to : Kinds) (q : List ℕ) (c : ContentInfo) (v : List ℕ) (gs hs : List SafeBag) (keys after : List (List ℕ)) (drawn drawn_after t : List ℕ) → c ≡ content.Data v → Said to q gs keys after drawn drawn_after hs
    → (t ≡ bags_canon hs) × (length t < 2 ^ 32) → Sealed to q c gs keys after drawn drawn_after (content.Data t)
plain_sealed to q c v gs hs keys after drawn drawn_after t is all text u more h s =
    let b = all u more s in (
      b.0,
      b.1.took,
      b.1.splits,
      record {
        own = [];
        of_keys = b.1.took;
        order = refl;
        form = subst (λ (x : ContentInfo). FormLike to [] x (content.Data t)) (sym is) refl;
        bags = gs;
        bags_anew = hs;
        holds = h;
        sealed = b.1.sealed;
        opens = ap (λ (x : List ℕ). Some x) text.0;
        short = omega (arith, ap length text.0, text.1);
      },
    )

pub encrypted_sealed : (to : Kinds) (q : List ℕ) (c : ContentInfo) (d e : EncryptedData) (gs hs : List SafeBag) (keys now after : List (List ℕ)) (drawn own mid drawn_after t : List ℕ) → c ≡ content.EncryptedData d → now ≡ keys
    → drawn ≡ own ++ mid → Said to q gs now after mid drawn_after hs → (t ≡ bags_canon hs) × (length t < 2 ^ 32)
    → IsAnew to own d.encrypted_content_info.content_encryption_algorithm e.encrypted_content_info.content_encryption_algorithm
    → unlock e.encrypted_content_info.content_encryption_algorithm q e.encrypted_content_info.encrypted_content ≡ Some t → Sealed to q c gs keys after drawn drawn_after (content.EncryptedData e)
encrypted_sealed to q c d e gs hs keys now after drawn own mid drawn_after t is same front all text n o u more h s =
    let b = all u more (subst (λ (x : List (List ℕ)). Supplies u gs x more) (sym same) s) in (
      b.0,
      own ++ b.1.took,
      front ∙ ap (λ l. own ++ l) b.1.splits ∙ sym (append_assoc own b.1.took drawn_after),
      record {
        own = own;
        of_keys = b.1.took;
        order = refl;
        form = subst (λ (x : ContentInfo). FormLike to own x (content.EncryptedData e)) (sym is) n;
        bags = gs;
        bags_anew = hs;
        holds = h;
        sealed = b.1.sealed;
        opens = o ∙ ap (λ (x : List ℕ). Some x) text.0;
        short = omega (arith, ap length text.0, text.1);
      },
    )
