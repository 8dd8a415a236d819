-- lemmas only: nothing to believe here
-- The numbers are read exactly.
use Rattle.std.proofs.Common.{◌≡◌, ℕ, ◌+◌, ◌*◌, ◌<◌, ◌≤◌, true, false, List, [], ◌∷◌, ◌++◌, Ok, refl, sym, ap, subst, ◌∙◌, arith, inl, inr, ◌⊎◌, IsTrue, nat_lt, ◌&&◌, ◌||◌}
use Rattle.std.proofs.lemmas.Bool.{cases_lt, ltb-true, le-ltb, lt-ltb}
use Rattle.asn1_core.specs.Der.{shortest}
use Rattle.asn1_core.specs.Reading.{are_octets, number_on, uint_of, uint_at}
use Rattle.asn1_core.specs.Texts.{Exact, ExactAll, UintOf, Uint}
use Rattle.asn1_core.specs.OctetLaws.{IsOctets, is_octets, both, and_true, shortest_octets}
use Rattle.asn1_core.specs.DigitLaws.{number_shortest, shortest_one, shortest_more, shortest_along, front_shortest}
use Rattle.asn1_core.specs.ElementLaws.{within-exact}
use Rattle.asn1_core.specs.ExactLaws.{where_holds, where_true}

or_lt : (b c : ℕ) → IsTrue (nat_lt 0 b || nat_lt 127 c) → (0 < b) ⊎ (127 < c)
or_lt b c h =
    elim (cases_lt 0 b) [
      | inl lt ↦ inl lt
      | inr z ↦ inr (ltb-true 127 c (rw (le-ltb 0 b z) at h))
    ]

lead_is : (b c : ℕ) (bs : List ℕ) → b < 128 → (0 < b) ⊎ (127 < c) → IsOctets (b ∷ c ∷ bs) → shortest (number_on b (c ∷ bs)) ≡ b ∷ c ∷ bs
lead_is b c bs below (inl pos) octets = shortest_along b (c ∷ bs) pos octets.1 ∙ rw (shortest_one b below) refl
lead_is b c bs below (inr large) octets =
    elim (cases_lt 0 b) [
      | inl pos ↦ shortest_along b (c ∷ bs) pos octets.1 ∙ rw (shortest_one b below) refl
      | inr z ↦ shortest_along (256 * b + c) bs (omega arith) octets.1.1 ∙ ap (λ (x : List ℕ). x ++ bs) (shortest_more b c (omega arith) octets.1.0 ∙ ap (λ (x : List ℕ). x ++ c ∷ []) (shortest_one b below))
    ]

uint_small : (max n : ℕ) → n < 128 → n ≤ max → uint_of max (n ∷ []) ≡ Ok n
unfolding uint_of
uint_small max n lt h = where_true (nat_lt n 128 && nat_lt n (max + 1)) n (and_true _ _ (lt-ltb n 128 lt) (lt-ltb n (max + 1) (omega arith)))

or_true : (b c : ℕ) → (0 < b) ⊎ (127 < c) → IsTrue (nat_lt 0 b || nat_lt 127 c)
or_true b c (inl h) = rw (lt-ltb 0 b h) refl
or_true b c (inr h) = elim (nat_lt 0 b) as (λ x. IsTrue (x || nat_lt 127 c)) [ true ↦ refl | false ↦ lt-ltb 127 c h ]

uint_long : (max n b c : ℕ) (bs : List ℕ) → b < 128 → (0 < b) ⊎ (127 < c) → number_on b (c ∷ bs) ≡ n → n ≤ max → IsTrue (are_octets (b ∷ c ∷ bs)) → uint_of max (b ∷ c ∷ bs) ≡ Ok n
unfolding uint_of
uint_long max n b c bs below least num h octets = rw num (where_true _ n (and_true (are_octets (b ∷ c ∷ bs)) _ octets (and_true (nat_lt b 128 && (nat_lt 0 b || nat_lt 127 c)) (nat_lt n (max + 1)) (and_true (nat_lt b 128) (nat_lt 0 b || nat_lt 127 c) (lt-ltb b 128 below) (or_true b c least)) (lt-ltb n (max + 1) (omega arith)))))

number_lead : (b : ℕ) (bs : List ℕ) → number_on b bs ≡ number_on 0 (b ∷ bs)
number_lead b bs = ap (λ (n : ℕ). number_on n bs) (omega arith)

uint_is : (max : ℕ) (w : List ℕ) (n : ℕ) → uint_of max w ≡ Ok n → (n ≤ max) × (w ≡ shortest n)
unfolding uint_of
uint_is max [] n e = absurd cc
uint_is max (b ∷ []) n e =
    let w = where_holds (nat_lt b 128 && nat_lt b (max + 1)) b n e in
    let t = both (nat_lt b 128) (nat_lt b (max + 1)) w.0 in
    let small : b < max + 1 = ltb-true b (max + 1) t.1 in
    subst (λ (m : ℕ). (m ≤ max) × (b ∷ [] ≡ shortest m)) w.1 (omega (arith, small), sym (shortest_one b (ltb-true b 128 t.0)))
uint_is max (b ∷ c ∷ bs) n e =
    let m = number_on b (c ∷ bs) in
    let w = where_holds (are_octets (b ∷ c ∷ bs) && (nat_lt b 128 && (nat_lt 0 b || nat_lt 127 c) && nat_lt m (max + 1))) m n e in
    let o = both (are_octets (b ∷ c ∷ bs)) (nat_lt b 128 && (nat_lt 0 b || nat_lt 127 c) && nat_lt m (max + 1)) w.0 in
    let t = both (nat_lt b 128 && (nat_lt 0 b || nat_lt 127 c)) (nat_lt m (max + 1)) o.1 in
    let octets : IsOctets (b ∷ c ∷ bs) = is_octets (b ∷ c ∷ bs) o.0 in
    let s = both (nat_lt b 128) (nat_lt 0 b || nat_lt 127 c) t.0 in
    let below : b < 128 = ltb-true b 128 s.0 in
    let small : m < max + 1 = ltb-true m (max + 1) t.1 in
    let is : shortest m ≡ b ∷ c ∷ bs = lead_is b c bs below (or_lt b c s.1) octets in
    subst (λ (k : ℕ). (k ≤ max) × (b ∷ c ∷ bs ≡ shortest k)) w.1 (omega (arith, small), sym is)

uint_again_of : (max n : ℕ) → n ≤ max → uint_of max (shortest n) ≡ Ok n
uint_again_of max n h =
    elim (cases_lt n 128) [
      | inl lt ↦ rw (shortest_one n lt) (uint_small max n lt h)
      | inr le ↦
          let f = front_shortest n n (omega arith) le in
          let num : number_on f.first (f.second ∷ f.others) ≡ n = number_lead f.first (f.second ∷ f.others) ∙ ap (λ (x : List ℕ). number_on 0 x) (sym f.is) ∙ number_shortest n in
          rw f.is (uint_long max n f.first f.second f.others f.below f.least num h (subst (λ (x : List ℕ). IsTrue (are_octets x)) f.is (shortest_octets n)))
    ]

pub uint_of-exact : (max : ℕ) → ExactAll (UintOf max) (uint_of max)
uint_of-exact max = record { found = λ b v e. uint_is max b v e; again = λ b v r short. rw (r.1) (uint_again_of max v r.0) }

pub uint-exact : (max : ℕ) → Exact (Uint max) (uint_at max)
uint-exact max = within-exact 0x02 (UintOf max) (uint_of max) refl (uint_of-exact max)
