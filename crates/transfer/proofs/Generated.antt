-- The octets of the generator, taken one by one.
use Rattle.std.proofs.Common.{◌≡◌, ◌∙◌, sym, ap, refl, ℕ, zero, suc, ◌+◌, ◌-◌, ◌/◌, ◌%◌, ◌<◌, List, [], ◌∷◌, ◌++◌, length, take, arith, append-nil, append_assoc, slice_set, ◌≤◌, subst}
use Rattle.std.proofs.lemmas.List.{take_more_set, take_all}
use Rattle.asn1_core.specs.Sets.{Each}
use Rattle.p12.specs.declared.safe_bag.SafeBag.{SafeBag}
use Rattle.transfer.specs.Sample.{IsKeyBag, SealsKey, behind_keys, behind_salt, certificate_at, certificate_bag, certificate_bags, next_state, octets_behind, starts, state_behind}

-- an octet, and what is left after it
octets_more : (y n : ℕ) → octets_behind y (suc n) ≡ (next_state y / 65536) % 256 ∷ octets_behind (next_state y) n
unfolding octets_behind
octets_more y n = refl

state_more : (y n : ℕ) → state_behind y (suc n) ≡ state_behind (next_state y) n
unfolding state_behind
state_more y n = refl

left : (n i : ℕ) → i < n → n - i ≡ suc (n - (i + 1))
left n i h = omega (arith, h)

-- octets that are filled in one after the other
pub filled_more : (out whole : List ℕ) (n i v y z : ℕ) → i < n → length out ≡ n → z ≡ next_state y → v ≡ (z / 65536) % 256 → take i out ++ octets_behind y (n - i) ≡ whole
    → take (i + 1) (slice_set out i v) ++ octets_behind z (n - (i + 1)) ≡ whole
filled_more out whole n i v y z h long is value before =
    let more : octets_behind y (n - i) ≡ v ∷ octets_behind z (n - (i + 1)) =
    ap (octets_behind y) (left n i h) ∙ octets_more y (n - (i + 1)) ∙ rw (value, is) refl in
    ap (λ t. t ++ octets_behind z (n - (i + 1))) (take_more_set out i v (omega (arith, h, long)))
    ∙ append_assoc (take i out) (v ∷ []) (octets_behind z (n - (i + 1))) ∙ ap (λ t. take i out ++ t) (sym more) ∙ before

pub state_filled : (n i y z end : ℕ) → i < n → z ≡ next_state y → state_behind y (n - i) ≡ end → state_behind z (n - (i + 1)) ≡ end
state_filled n i y z end h is before =
    rw is (sym (state_more y (n - (i + 1))) ∙ ap (state_behind y) (sym (left n i h)) ∙ before)

none_left : (y : ℕ) → octets_behind y 0 ≡ []
unfolding octets_behind
none_left y = refl

none_behind : (y : ℕ) → state_behind y 0 ≡ y
unfolding state_behind
none_behind y = refl

over : (n i : ℕ) → n ≤ i → n - i ≡ 0
over n i h = omega (arith, h)

pub filled_all : (out whole : List ℕ) (n i y : ℕ) → n ≤ i → length out ≡ n → take i out ++ octets_behind y (n - i) ≡ whole → out ≡ whole
filled_all out whole n i y h long before =
    sym (append-nil out) ∙ ap (λ t. t ++ []) (sym (take_all i out (omega (arith, h, long)))) ∙ ap (λ t. take i out ++ t) (sym (ap (octets_behind y) (over n i h) ∙ none_left y)) ∙ before

pub state_all : (n i y end : ℕ) → n ≤ i → state_behind y (n - i) ≡ end → y ≡ end
state_all n i y end h before = sym (none_behind y) ∙ ap (state_behind y) (sym (over n i h)) ∙ before

-- ---- keys, one after the other

before_last : (n : ℕ) → n ≡ suc n - 1
before_last n = omega arith

pub starts_more : (y n : ℕ) → 0 < n → starts y n ≡ y ∷ starts (behind_salt y) (n - 1)
starts_more y zero h = absurd (omega (arith, h))
starts_more y (suc n) h = ap (λ m. y ∷ starts (behind_salt y) m) (before_last n)

pub behind_more : (y n : ℕ) → 0 < n → behind_keys y n ≡ behind_keys (behind_salt y) (n - 1)
behind_more y zero h = absurd (omega (arith, h))
behind_more y (suc n) h = ap (behind_keys (behind_salt y)) (before_last n)

pub certificates_more : (bags whole : List SafeBag) (g : SafeBag) (y n z : ℕ) → 0 < n → g ≡ certificate_bag (certificate_at y) → z ≡ behind_salt y → bags ++ certificate_bags (starts y n) ≡ whole
    → (bags ++ g ∷ []) ++ certificate_bags (starts z (n - 1)) ≡ whole
certificates_more bags whole g y n z h is state before =
    append_assoc bags (g ∷ []) (certificate_bags (starts z (n - 1)))
    ∙ ap (λ t. bags ++ t) (rw (is, state) (sym (ap certificate_bags (starts_more y n h)))) ∙ before

-- The bags of the keys that come next complete those of all.
abbrev pub Completes : List SafeBag → List ℕ → List ℕ → Type 0
Completes bags left all = (rest : List SafeBag) → Each IsKeyBag left rest → Each IsKeyBag all (bags ++ rest)

pub keys_more : (bags : List SafeBag) (g : SafeBag) (y n z : ℕ) (all : List ℕ) → 0 < n → IsKeyBag y g → z ≡ behind_salt y → Completes bags (starts y n) all → Completes (bags ++ g ∷ []) (starts z (n - 1)) all
keys_more bags g y n z all h is state before rest e =
    let left : Each IsKeyBag (y ∷ starts (behind_salt y) (n - 1)) (g ∷ rest) = (is, subst (λ s. Each IsKeyBag (starts s (n - 1)) rest) state e) in
    let made = before (g ∷ rest) (subst (λ (ys : List ℕ). Each IsKeyBag ys (g ∷ rest)) (sym (starts_more y n h)) left) in
    subst (λ (gs : List SafeBag). Each IsKeyBag all gs) (sym (append_assoc bags (g ∷ []) rest)) made

pub keys_all : (bags : List SafeBag) (y n : ℕ) (all : List ℕ) → n ≤ 0 → Completes bags (starts y n) all → Each IsKeyBag all bags
keys_all bags y zero all h before = subst (λ (gs : List SafeBag). Each IsKeyBag all gs) (append-nil bags) (before [] tt)
keys_all bags y (suc n) all h before = absurd (omega (arith, h))

pub seals_as : (s t k l : List ℕ) (g : SafeBag) → s ≡ t → k ≡ l → SealsKey s k g → SealsKey t l g
seals_as s t k l g e f h = rw (← e, ← f) h

pub behind_left : (y n z end : ℕ) → 0 < n → z ≡ behind_salt y → behind_keys y n ≡ end → behind_keys z (n - 1) ≡ end
behind_left y n z end h is before = rw is (sym (behind_more y n h) ∙ before)
