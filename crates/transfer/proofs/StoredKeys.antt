-- Texts of private keys that were part of a store.
use Rattle.std.proofs.Common.{◌≡◌, ◌∙◌, ℕ, zero, suc, ◌+◌, ◌<◌, ◌≤◌, List, [], ◌∷◌, ◌++◌, length, take, get_or, sym, ap, ap₂, subst, arith}
use Rattle.std.specs.Prelude.{All}
use Rattle.std.proofs.lemmas.List.Elements.{All-append}
use Rattle.der_core.specs.BitString.{seen_bits}
use Rattle.pkcs8.specs.Seen.{seen_private_key}
use Rattle.spki.specs.Seen.{borrowed_any}
use Rattle.transfer.specs.InPlace.{IsOpenedKey, texts_of}
use Rattle.transfer.specs.Limits.{store_limit}
use Rattle.transfer.specs.Opening.{IsKeyText, IsStoredKey, NoKeyText}
use Rattle.transfer.specs.declared.store.key_text.OpenedKey.{OpenedKey}
use Rattle.transfer.proofs.Faults.{take_one}
use Rattle.transfer.proofs.Overwriting.{map_more}

pub stored_at : (texts : List (List ℕ)) (i : ℕ) (text : List ℕ) → All IsStoredKey texts → i < length texts → text ≡ get_or texts i text → IsStoredKey text
stored_at texts i text all lt is = subst IsStoredKey (sym is) (all i text lt)

-- Each is read again.
pub none_unread : {P : Type 0} (texts : List (List ℕ)) (i : ℕ) (text seen : List ℕ) → All IsStoredKey texts → i < length texts → text ≡ get_or texts i text → seen ≡ text → NoKeyText seen → P
none_unread texts i text seen all lt is same none = absurd ((stored_at texts i text all lt is).0 (subst NoKeyText same none))

pub opened_text : (k : OpenedKey) (text : List ℕ) → IsOpenedKey k → k.text.now ≡ text → IsKeyText text
opened_text k text is same = subst IsKeyText same (seen_private_key borrowed_any (λ s. s.octets.now) (λ s. seen_bits s.unused_bits s.octets.now) k.key, is.0)

pub text_stored : (text : List ℕ) → IsKeyText text → length text ≤ store_limit → IsStoredKey text
text_stored text is short = (λ none. none is.0 is.1, short)

all_one : {X : Type 0} (P : X → Type 0) (x : X) → P x → All P (x ∷ [])
all_one P x h zero d lt = h
all_one P x h (suc i) d lt = absurd (omega (arith, lt))

pub all_more : (keys more : List OpenedKey) (key : OpenedKey) → more ≡ keys ++ key ∷ [] → All IsOpenedKey keys → IsOpenedKey key → All IsOpenedKey more
all_more keys more key is all one = subst (All IsOpenedKey) (sym is) (All-append IsOpenedKey keys (key ∷ []) all (all_one IsOpenedKey key one))

pub texts_more : (texts : List (List ℕ)) (i : ℕ) (text seen : List ℕ) (keys more : List OpenedKey) (key : OpenedKey) → i < length texts → text ≡ get_or texts i text → seen ≡ text → key.text.now ≡ seen
    → more ≡ keys ++ key ∷ [] → texts_of keys ≡ take i texts → texts_of more ≡ take (i + 1) texts
texts_more texts i text seen keys more key lt at same reads is before =
    ap texts_of is ∙ map_more (λ (k : OpenedKey). k.text.now) keys key ∙ ap₂ (λ (xs : List (List ℕ)) (x : List ℕ). xs ++ x ∷ []) before (reads ∙ same) ∙ sym (take_one texts i text lt at)
