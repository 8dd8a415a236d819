-- Orders, and the chains that they begin with.
use Rattle.std.proofs.Common.{◌≡◌, ◌≤◌, ◌<◌, ℕ, Bool, true, false, cond, List, [], ◌∷◌, ◌++◌, get_or, length, take, suc, zero, refl, sym, ap, ◌∙◌, subst, arith, append_assoc, inl, inr}
use Rattle.std.specs.Prelude.{◌+◌, ◌-◌, Option, nat_lt}
use Rattle.std.specs.List.{AllZip, concat, range_with_len}
use Rattle.std.proofs.lemmas.Bool.{cases_lt}
use Rattle.std.proofs.lemmas.List.{length-append, map-append, take_more}
use Rattle.std.proofs.lemmas.Slice.Zip.{all_zipped_more}
use Rattle.asn1_core.specs.Texts.{seen_option}
use Rattle.inventory_core.specs.Certificate.{Certificate}
use Rattle.inventory_core.specs.Chains.{IsChain, has}
use Rattle.inventory_core.specs.View.{seen_all, seen_certificate}
use Rattle.inventory_core.specs.declared.certificate.CertificateView.{CertificateView}
use Rattle.pem_stores.specs.ChainOrder.{AreChains, IsOrder, IsRead, with_fresh, with_next}

append_none : {X : Type 0} (xs : List X) → xs ++ [] ≡ xs
append_none [] = refl
append_none (x ∷ xs) = ap (λ l. x ∷ l) (append_none xs)

-- ---- Chains

pub chains_more : (cs : List (Option Certificate)) (i : ℕ) (kss : List (List ℕ)) (ks : List ℕ) → AreChains cs i kss → IsChain cs (i + length kss) ks → AreChains cs i (kss ++ ks ∷ [])
chains_more cs i [] ks h r = (subst (λ (n : ℕ). IsChain cs n ks) (omega arith) r, tt)
chains_more cs i (ls ∷ kss) ks h r = (h.0, chains_more cs (i + 1) kss ks h.1 (subst (λ (n : ℕ). IsChain cs n ks) (omega arith) r))

pub concat_more : (kss : List (List ℕ)) (ks : List ℕ) → concat (kss ++ ks ∷ []) ≡ concat kss ++ ks
concat_more [] ks = append_none ks
concat_more (ls ∷ kss) ks = ap (λ l. ls ++ l) (concat_more kss ks) ∙ sym (append_assoc ls (concat kss) ks)

-- ---- Numbers that are added

pub fresh_append : (own : ℕ) (sofar ks ls : List ℕ) → with_fresh own sofar (ks ++ ls) ≡ with_fresh own (with_fresh own sofar ks) ls
fresh_append own sofar [] ls = refl
fresh_append own sofar (k ∷ ks) ls = fresh_append own (with_next own sofar k) ks ls

-- one more number comes after those that are there
next_by : (t u : Bool) (sofar : List ℕ) (k : ℕ) → (r : List ℕ) × (cond t sofar (cond u sofar (sofar ++ k ∷ [])) ≡ sofar ++ r)
next_by true u sofar k = ([], sym (append_none sofar))
next_by false true sofar k = ([], sym (append_none sofar))
next_by false false sofar k = (k ∷ [], refl)

fresh_after : (own : ℕ) (sofar ks : List ℕ) → (r : List ℕ) × (with_fresh own sofar ks ≡ sofar ++ r)
fresh_after own sofar [] = ([], sym (append_none sofar))
fresh_after own sofar (k ∷ ks) =
    let one : (r : List ℕ) × (with_next own sofar k ≡ sofar ++ r) = next_by (nat_lt k own) (has sofar k) sofar k in
    let more : (r : List ℕ) × (with_fresh own (with_next own sofar k) ks ≡ with_next own sofar k ++ r) = fresh_after own (with_next own sofar k) ks in
    (one.0 ++ more.0, more.1 ∙ ap (λ l. l ++ more.0) one.1 ∙ append_assoc sofar one.0 more.0)

take_front : (xs ys : List ℕ) → take (length xs) (xs ++ ys) ≡ xs
take_front [] ys = refl
take_front (x ∷ xs) ys = ap (λ l. x ∷ l) (take_front xs ys)

pub fresh_front : (own : ℕ) (sofar ks : List ℕ) → take (length sofar) (with_fresh own sofar ks) ≡ sofar
fresh_front own sofar ks =
    let more = fresh_after own sofar ks in
    ap (λ l. take (length sofar) l) more.1 ∙ take_front sofar more.0

-- one more number of a range
range_more : (a n : ℕ) → range_with_len a (suc n) ≡ range_with_len a n ++ (a + n) ∷ []
range_more a zero = ap (λ (k : ℕ). k ∷ []) (omega arith)
range_more a (suc n) = ap (λ l. a ∷ l) (range_more (a + 1) n ∙ ap (λ (k : ℕ). range_with_len (a + 1) n ++ k ∷ []) (omega arith))

pub range_step : (a p : ℕ) → a ≤ p → range_with_len a (p + 1 - a) ≡ range_with_len a (p - a) ++ p ∷ []
range_step a p h =
    let one_more : p + 1 - a ≡ suc (p - a) = omega arith in
    let last : a + (p - a) ≡ p = omega arith in
    ap (λ (n : ℕ). range_with_len a n) one_more ∙ range_more a (p - a) ∙ ap (λ (k : ℕ). range_with_len a (p - a) ++ k ∷ []) last

pub range_ends : (a b p : ℕ) → a ≤ p → b ≤ p → (a ≤ b → p ≤ b) → (b < a → p ≡ a) → p - a ≡ b - a
range_ends a b p low high within still = elim (cases_lt b a) [ inl h ↦ let e = still h in omega arith | inr h ↦ let e = within h in omega arith ]

-- ---- Steps of loops

pub views_step : (bs : List (List ℕ)) (i : ℕ) (b : List ℕ) (vs ws : List (Option CertificateView)) (v : Option CertificateView) → i < length bs → b ≡ get_or bs i b → AllZip IsRead (take i bs) (seen_all vs)
    → IsRead b (seen_option seen_certificate v) → ws ≡ vs ++ v ∷ [] → AllZip IsRead (take (i + 1) bs) (seen_all ws)
views_step bs i b vs ws v within at h r more =
    let taken : take (i + 1) bs ≡ take i bs ++ b ∷ [] = take_more bs i b within ∙ ap (λ x. take i bs ++ x ∷ []) (sym at) in
    let seen : seen_all ws ≡ seen_all vs ++ seen_option seen_certificate v ∷ [] = ap (λ l. seen_all l) more ∙ map-append (seen_option seen_certificate) vs (v ∷ []) in
    subst (λ l. AllZip IsRead l (seen_all ws)) (sym taken) (subst (λ l. AllZip IsRead (take i bs ++ b ∷ []) l) (sym seen) (all_zipped_more IsRead (take i bs) (seen_all vs) b (seen_option seen_certificate v) h r))

pub chain_step : (cs : List (Option Certificate)) (own start : ℕ) (kss : List (List ℕ)) (ks old new : List ℕ) → length kss ≡ start → AreChains cs 0 kss → old ≡ with_fresh own [] (concat kss) → IsChain cs start ks
    → new ≡ with_fresh own old ks → (x : List (List ℕ)) × (length x ≡ start + 1) × AreChains cs 0 x × (new ≡ with_fresh own [] (concat x))
chain_step cs own start kss ks old new count are was is more = (
  kss ++ ks ∷ [],
  omega (arith, length-append kss (ks ∷ [])),
  chains_more cs 0 kss ks are (subst (λ (n : ℕ). IsChain cs n ks) (omega arith) is),
  more ∙ ap (λ l. with_fresh own l ks) was ∙ sym (fresh_append own [] (concat kss) ks) ∙ ap (λ l. with_fresh own [] l) (sym (concat_more kss ks)),
)

pub order_made : (bs : List (List ℕ)) (read : List (Option Certificate)) (own : ℕ) (kss : List (List ℕ)) (first places rest : List ℕ) (chained : ℕ) → AllZip IsRead bs read → length kss ≡ own → AreChains read 0 kss
    → first ≡ with_fresh own [] (concat kss) → chained ≡ length first → places ≡ with_fresh own first rest → rest ≡ range_with_len own (length bs - own) → IsOrder bs own places chained
order_made bs read own kss first places rest chained are_read each are was count more is =
    let front : take chained places ≡ first = ap (λ (n : ℕ). take n places) count ∙ ap (λ l. take (length first) l) more ∙ fresh_front own first rest in
    record {
      read = read;
      are_read = are_read;
      chains = kss;
      each = each;
      are = are;
      first = front ∙ was;
      all = more ∙ ap (λ l. with_fresh own l rest) (sym front) ∙ ap (λ l. with_fresh own (take chained places) l) is;
    }
