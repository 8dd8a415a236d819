-- Changes, one after the other.
use Rattle.std.proofs.Common.{◌≡◌, ℕ, ◌+◌, ◌*◌, ◌<◌, ◌≤◌, List, [], ◌∷◌, ◌++◌, length, take, drop, get_or, Option, refl, sym, ap, subst, ◌∙◌, arith, mul-suc}
use Rattle.std.specs.Prelude.{All}
use Rattle.std.proofs.lemmas.List.{append_assoc, take_more, take-append-drop}
use Rattle.std.proofs.lemmas.List.Elements.{All-cons, All-get_or, All-head, All-tail, All-take}
use Rattle.transfer.specs.declared.store.error.TransferError.{TransferError}
use Rattle.transfer.specs.declared.store.error.TransferError.TheVariants.{Memory}
use Rattle.rekey_core.specs.Changes.{FirstRefusal, RefusesOne, RekeysAll, last_of}
use Rattle.rekey_core.specs.Rekeyed.{Rekeys}

pub all_more : (b p : List ℕ) (ps : List (List ℕ)) (limit : ℕ) (left mid after : Option (List ℕ)) (n k m : ℕ) (c q d : List ℕ) → RekeysAll b (p ∷ ps) limit left mid n k c
    → Rekeys c (last_of (p ∷ ps)) q limit mid after k m d → RekeysAll b (p ∷ (ps ++ q ∷ [])) limit left after n m d
all_more b p [] limit left mid after n k m c q d (is, same, steps) one =
    (d, after, m, subst (λ (x : List ℕ). Rekeys x p q limit left after n m d) is (subst (λ (x : Option (List ℕ)). Rekeys c p q limit x after n m d) same (subst (λ (x : ℕ). Rekeys c p q limit mid after x m d) steps one)), (refl, refl, refl))
all_more b p (r ∷ ps) limit left mid after n k m c q d (x, between, midway, first, all) one = (x, between, midway, first, all_more x r ps limit between mid after midway k m c q d all one)

last_more : (p : List ℕ) (ps : List (List ℕ)) (q : List ℕ) → last_of (p ∷ (ps ++ q ∷ [])) ≡ q
last_more p [] q = refl
last_more p (r ∷ ps) q = last_more r ps q

take_one : (xs : List (List ℕ)) (i : ℕ) (x : List ℕ) → i < length xs → x ≡ get_or xs i x → take (i + 1) xs ≡ take i xs ++ x ∷ []
take_one xs i x lt at = take_more xs i x lt ∙ ap (λ y. take i xs ++ y ∷ []) (sym at)

-- what was done before the password at i
pub record Done (b : List ℕ) (passwords others : List (List ℕ)) (i limit : ℕ) (left now : Option (List ℕ)) (faults faults_now n m : ℕ) (old c : List ℕ) : Type 0 where
  pub first : List ℕ
  pub are : passwords ≡ first ∷ others
  pub last : old ≡ last_of (first ∷ take i others)
  pub all : RekeysAll b (first ∷ take i others) limit left now n m c
  pub counts : faults ≤ faults_now
  pub steps : (n ≤ m) × (m ≤ n + limit * i)

pub done_more : (b : List ℕ) (passwords others : List (List ℕ)) (i limit : ℕ) (left now after : Option (List ℕ)) (faults faults_now faults_after n m k : ℕ) (old c q d : List ℕ)
    → Done b passwords others i limit left now faults faults_now n m old c → i < length others → q ≡ get_or others i q → faults_now ≤ faults_after → (m ≤ k) × (k ≤ m + limit)
    → Rekeys c old q limit now after m k d → Done b passwords others (i + 1) limit left after faults faults_after n k q d
done_more b passwords others i limit left now after faults faults_now faults_after n m k old c q d r lt at f s one =
    let t = take_one others i q lt at in
    let here = subst (λ (x : List ℕ). Rekeys c x q limit now after m k d) r.last one in
    record {
      first = r.first;
      are = r.are;
      last = sym (ap (λ x. last_of (r.first ∷ x)) t ∙ last_more r.first (take i others) q);
      all = subst (λ (x : List (List ℕ)). RekeysAll b (r.first ∷ x) limit left after n k d) (sym t) (all_more b r.first (take i others) limit left now after n m k c q d r.all here);
      counts = omega (arith, r.counts, f);
      steps = (omega (arith, r.steps.0, s.0), omega (arith, r.steps.1, s.1, mul-suc limit i));
    }

pub memory_first : (b : List ℕ) (passwords : List (List ℕ)) (limit : ℕ) (left after : Option (List ℕ)) (faults now n m : ℕ) → 2 ≤ length passwords → FirstRefusal b passwords limit left after faults now n m Memory
memory_first b [] limit left after faults now n m two = absurd (omega (arith, two))
memory_first b (p ∷ []) limit left after faults now n m two = absurd (omega (arith, two))
memory_first b (p ∷ q ∷ ps) limit left after faults now n m two = record {
  made_to = p ∷ [];
  new = q;
  unmade = ps;
  split = refl;
  store = b;
  between = left;
  midway = n;
  made = (refl, refl, refl);
  counted = faults;
  not_less = omega arith;
  refused = tt;
}

last_all : (P : List ℕ → Type 0) (p : List ℕ) (ps : List (List ℕ)) → All P (p ∷ ps) → P (last_of (p ∷ ps))
last_all P p [] h = All-head P p [] h
last_all P p (q ∷ ps) h = last_all P q ps (All-tail P p (q ∷ ps) h)

pub old_short : (P : List ℕ → Type 0) (b : List ℕ) (passwords others : List (List ℕ)) (i limit : ℕ) (left now : Option (List ℕ)) (faults faults_now n m : ℕ) (old c : List ℕ)
    → Done b passwords others i limit left now faults faults_now n m old c → All P passwords → P old
old_short P b passwords others i limit left now faults faults_now n m old c r h =
    let all = subst (All P) r.are h in
    subst P (sym r.last) (last_all P r.first (take i others) (All-cons P r.first (take i others) (All-head P r.first others all) (All-take P i others (All-tail P r.first others all))))

pub new_short : (P : List ℕ → Type 0) (b : List ℕ) (passwords others : List (List ℕ)) (i limit : ℕ) (left now : Option (List ℕ)) (faults faults_now n m : ℕ) (old c q : List ℕ)
    → Done b passwords others i limit left now faults faults_now n m old c → All P passwords → i < length others → q ≡ get_or others i q → P q
new_short P b passwords others i limit left now faults faults_now n m old c q r h lt at =
    subst P (sym at) (All-get_or P others i q lt (All-tail P r.first others (subst (All P) r.are h)))

parts_of : (xs : List (List ℕ)) (i : ℕ) (q : List ℕ) → i < length xs → q ≡ get_or xs i q → xs ≡ take i xs ++ q ∷ drop (i + 1) xs
parts_of xs i q lt at = sym (take-append-drop (i + 1) xs) ∙ ap (λ l. l ++ drop (i + 1) xs) (take_one xs i q lt at) ∙ append_assoc (take i xs) (q ∷ []) (drop (i + 1) xs)

pub first_refusal : (b : List ℕ) (passwords others : List (List ℕ)) (i limit : ℕ) (left now after : Option (List ℕ)) (faults faults_now faults_after n m k : ℕ) (old c q : List ℕ) (e : TransferError)
    → Done b passwords others i limit left now faults faults_now n m old c → i < length others → q ≡ get_or others i q → RefusesOne c old limit now after faults_now faults_after m k e
    → FirstRefusal b passwords limit left after faults faults_after n k e
first_refusal b passwords others i limit left now after faults faults_now faults_after n m k old c q e r lt at h = record {
  made_to = r.first ∷ take i others;
  new = q;
  unmade = drop (i + 1) others;
  split = r.are ∙ ap (λ l. r.first ∷ l) (parts_of others i q lt at);
  store = c;
  between = now;
  midway = m;
  made = r.all;
  counted = faults_now;
  not_less = r.counts;
  refused = subst (λ (x : List ℕ). RefusesOne c x limit now after faults_now faults_after m k e) r.last h;
}
