-- Each answer of changes one after the other comes where its cause holds.
use Rattle.std.proofs.Common.{◌≡◌, ◌⊎◌, inl, inr, ℕ, zero, suc, ◌+◌, ◌*◌, ◌<◌, ◌≤◌, List, [], ◌∷◌, length, take, Option, Some, None, refl, sym, ap, subst, ◌∙◌, arith, mul-suc}
use Rattle.std.specs.Prelude.{Ok, Err, IsOk, IfSome, ⊤}
use Rattle.std.specs.Io.KnownBytes.{Consumes}
use Rattle.std.proofs.lemmas.List.{length-append, length-take-le, take_all}
use Rattle.std.proofs.lemmas.Nat.{mul-le}
use Rattle.transfer.specs.Limits.{store_limit}
use Rattle.transfer.specs.Transferred.{IsRefusal}
use Rattle.transfer.specs.declared.store.error.TransferError.{TransferError}
use Rattle.transfer.specs.declared.store.error.TransferError.TheVariants.{Memory, Rng}
use Rattle.rekey_core.specs.Change.{Changes}
use Rattle.rekey_core.specs.Changes.{RekeysAll, SettledAll, changes, last_of}
use Rattle.rekey_core.specs.Rekeyed.{IsAllowed, IsSettled, IsUndrawn, Rekeys, draws, size}
use Rattle.rekey_core.proofs.Alike.{changes_alike}
use Rattle.rekey_core.proofs.Keeping.{change_keeps}
use Rattle.rekey_core.proofs.Listing.{Done}
use Rattle.rekey_core.proofs.Settling.{draws_once, err, if_told, no_refusal, ok_rng, size_once, told_all}
use Rattle.rekey_core.specs.declared.kinds.Kinds.TheVariants.{Kept}

-- ---- octets that were taken

-- so many octets were taken
abbrev Took : ℕ → Option (List ℕ) → Option (List ℕ) → Type 0
Took n None now = ⊤
Took n (Some d) None = ⊥
Took n (Some d) (Some e) = length d ≡ n + length e

took_none : (left : Option (List ℕ)) (n : ℕ) → Took (n * 0) left left
took_none None n = tt
took_none (Some d) n = omega arith

took_more : (left between now : Option (List ℕ)) (drawn : List ℕ) (n k : ℕ) → Consumes left between drawn → length drawn ≡ n → Took (n * k) between now → Took (n * suc k) left now
took_more None between now drawn n k c l t = tt
took_more (Some d) None now drawn n k c l t = absurd c
took_more (Some d) (Some e) None drawn n k c l t = absurd t
took_more (Some d) (Some e) (Some f) drawn n k c l t = omega (arith, ap length c, length-append drawn e, l, t, mul-suc n k)

le_times : (n k : ℕ) → 1 ≤ k → n ≤ n * k
le_times n zero h = absurd (omega (arith, h))
le_times n (suc k) h = omega (arith, mul-suc n k)

times_more : (n j k : ℕ) → j < k → n * j + n ≤ n * k
times_more n j k lt = omega (arith, mul-suc n j, mul-le n (suc j) n k (omega arith) (omega (arith, lt)))

took_at_least : (left now : Option (List ℕ)) (n m : ℕ) (P : Type 0) → Took n left now → m ≤ n → IfSome left (λ d. length d < m → P)
took_at_least None now n m P t le = tt
took_at_least (Some d) None n m P t le = absurd t
took_at_least (Some d) (Some e) n m P t le = λ lt. absurd (omega (arith, t, le, lt))

-- where enough octets are told for all changes, there are enough for the next one
enough_on : (left now : Option (List ℕ)) (n m j k : ℕ) (P : Type 0) → Took (n * j) left now → j < k → m ≡ n → IfSome now (λ x. m ≤ length x → P) → IfSome left (λ d. n * k ≤ length d → P)
enough_on None now n m j k P t lt e f = tt
enough_on (Some d) None n m j k P t lt e f = absurd t
enough_on (Some d) (Some x) n m j k P t lt e f = λ le. f (omega (arith, t, le, times_more n j k lt, e))

-- ---- where the changes stand

-- A store that no cause refuses is, after some changes, one that no cause refuses; its next change draws as many octets, and comes to
-- a text of the same size.
record Stands (b p : List ℕ) (limit : ℕ) (a : IsAllowed b p limit) (left now : Option (List ℕ)) (i : ℕ) (c q : List ℕ) : Type 0 where
  pub further : IsAllowed c q limit
  pub draws_are : draws c q limit further ≡ draws b p limit a
  pub size_is : size c q limit further ≡ size b p limit a
  pub took : Took (draws b p limit a * i) left now

allowed_after : (b p q c d : List ℕ) (limit : ℕ) → length c ≤ store_limit → Changes b p c q d → IsAllowed b p limit → IsAllowed c q limit
allowed_after b p q c d limit short ch a =
    let k = (change_keeps b p q c d short ch).keeps a.bags a.keys a.work a.opens in
    record { bags = k.0; keys = a.keys; work = k.1; opens = k.2; within = omega (arith, k.3, a.within) }

stands : (b p : List ℕ) (ps : List (List ℕ)) (limit : ℕ) (left now : Option (List ℕ)) (n m : ℕ) (c : List ℕ) → RekeysAll b (p ∷ ps) limit left now n m c → (a : IsAllowed b p limit)
    → Stands b p limit a left now (length ps) c (last_of (p ∷ ps))
stands b p [] limit left now n m c h a =
    subst (λ (x : List ℕ). Stands b p limit a left now 0 x p) (sym h.0) (subst (λ (x : Option (List ℕ)). Stands b p limit a left x 0 b p) (sym h.1)
    (record { further = a; draws_are = refl; size_is = refl; took = took_none left (draws b p limit a) }))
stands b p (q ∷ ps) limit left now n m c (x, between, midway, one, all) a =
    let after = allowed_after b p q x one.drawn limit one.short one.changes a in
    let same = changes_alike b p x q one.drawn limit a after one.changes in
    let s = stands x q ps limit between now midway m c all after in
    record {
      further = s.further;
      draws_are = s.draws_are ∙ same.0;
      size_is = s.size_is ∙ same.1;
      took = took_more left between now one.drawn (draws b p limit a) (length ps) one.took (one.exactly ∙ draws_once Kept b p limit one.allowed a) (subst (λ (k : ℕ). Took (k * length ps) between now) same.0 s.took);
    }

fits_first : (b p q : List ℕ) (limit : ℕ) (left now : Option (List ℕ)) (n m : ℕ) (c : List ℕ) → Rekeys b p q limit left now n m c → (a : IsAllowed b p limit) → size b p limit a ≤ store_limit
fits_first b p q limit left now n m c one a = omega (arith, one.sized, one.short, size_once Kept b p limit one.allowed a)

-- ---- answers

count_is : (p : List ℕ) (ps : List (List ℕ)) → changes (p ∷ ps) ≡ length ps
count_is p ps = omega arith

not_ok : (e : TransferError) → IsOk (err e) → ⊥
not_ok e h = cc

-- a refusal of the first change
first_settles : (b p : List ℕ) (others : List (List ℕ)) (limit : ℕ) (left : Option (List ℕ)) (e : TransferError) → 1 ≤ length others → IsSettled b p limit left (Err e) → SettledAll b (p ∷ others) limit left (Err e)
first_settles b p others limit left e some s = record {
  refuses = s.refuses;
  fits = s.fits;
  grows = s.grows;
  lacks = s.lacks;
  lacks_later = λ a h. told_all left _ (λ d lt. elim (s.fits a h) [
    | inl ok ↦ absurd (not_ok e ok)
    | inr is ↦ is
  ]);
  suffices = λ a. if_told left _ _ (λ d f enough is. f (omega (arith, enough, le_times (draws b p limit a) (changes (p ∷ others)) (omega (arith, some)))) is) (s.suffices a);
  grows_first = λ a h. if_told left _ _ (λ d f enough. elim (s.grows a h) [
    | inl is ↦ is
    | inr is ↦ absurd (f enough is)
  ]) (s.suffices a);
}

-- a refusal of a later one
later_settles : (b p q : List ℕ) (ps others : List (List ℕ)) (limit : ℕ) (left now : Option (List ℕ)) (n m : ℕ) (c : List ℕ) (e : TransferError) → RekeysAll b (p ∷ q ∷ ps) limit left now n m c
    → length (q ∷ ps) < length others → IsSettled c (last_of (p ∷ q ∷ ps)) limit now (Err e) → SettledAll b (p ∷ others) limit left (Err e)
later_settles b p q ps others limit left now n m c e h lt s =
    let one = h.3 in
    let at : (a : IsAllowed b p limit) → Stands b p limit a left now (length (q ∷ ps)) c (last_of (p ∷ q ∷ ps)) = λ a. stands b p (q ∷ ps) limit left now n m c h a in
    let small : (a : IsAllowed b p limit) → size b p limit a ≤ store_limit = λ a. fits_first b p q limit left h.1 n h.2 h.0 one a in
    let failed : (a : IsAllowed b p limit) → size b p limit a ≤ store_limit → IsRefusal (err e) Rng = λ a k. elim (s.fits (at a).further (omega (arith, (at a).size_is, k))) [
      | inl ok ↦ absurd (not_ok e ok)
      | inr is ↦ is
    ] in
    record {
      refuses = λ f k. absurd (no_refusal b p limit f one.allowed k);
      fits = λ a k. inr (failed a k);
      grows = λ a k. absurd (omega (arith, k, small a));
      lacks = λ a. told_all left _ (λ d k. failed a (small a));
      lacks_later = λ a k. told_all left _ (λ d lt. failed a k);
      suffices = λ a. enough_on left now (draws b p limit a) (draws c (last_of (p ∷ q ∷ ps)) limit (at a).further) (length (q ∷ ps)) (changes (p ∷ others)) _ (at a).took (omega (arith, lt)) (at a).draws_are (s.suffices (at a).further);
      grows_first = λ a k. absurd (omega (arith, k, small a));
    }

-- all changes were made
done_all : (b p q : List ℕ) (ps : List (List ℕ)) (limit : ℕ) (left now : Option (List ℕ)) (n m : ℕ) (c : List ℕ) → RekeysAll b (p ∷ q ∷ ps) limit left now n m c → SettledAll b (p ∷ q ∷ ps) limit left (Ok c)
done_all b p q ps limit left now n m c h =
    let one = h.3 in
    let at : (a : IsAllowed b p limit) → Stands b p limit a left now (length (q ∷ ps)) c (last_of (p ∷ q ∷ ps)) = λ a. stands b p (q ∷ ps) limit left now n m c h a in
    let small : (a : IsAllowed b p limit) → size b p limit a ≤ store_limit = λ a. fits_first b p q limit left h.1 n h.2 h.0 one a in
    record {
      refuses = λ f k. absurd (no_refusal b p limit f one.allowed k);
      fits = λ a k. inl refl;
      grows = λ a k. absurd (omega (arith, k, small a));
      lacks = λ a. took_at_least left now (draws b p limit a * length (q ∷ ps)) (draws b p limit a) _ (at a).took (le_times (draws b p limit a) (length (q ∷ ps)) (omega arith));
      lacks_later = λ a k. took_at_least left now (draws b p limit a * length (q ∷ ps)) (draws b p limit a * changes (p ∷ q ∷ ps)) _ (at a).took (omega (arith, ap (λ (k : ℕ). draws b p limit a * k) (count_is p (q ∷ ps))));
      suffices = λ a. told_all left _ (λ d k e. ok_rng c e);
      grows_first = λ a k. absurd (omega (arith, k, small a));
    }

-- ---- the loop

refused_at : (b p : List ℕ) (front others : List (List ℕ)) (limit : ℕ) (left now : Option (List ℕ)) (n m : ℕ) (c : List ℕ) (e : TransferError) → RekeysAll b (p ∷ front) limit left now n m c
    → length front < length others → IsSettled c (last_of (p ∷ front)) limit now (Err e) → SettledAll b (p ∷ others) limit left (Err e)
refused_at b p [] others limit left now n m c e h lt s =
    first_settles b p others limit left e (omega (arith, lt)) (subst (λ (x : List ℕ). IsSettled x p limit left (Err e)) h.0 (subst (λ (x : Option (List ℕ)). IsSettled c p limit x (Err e)) h.1 s))
refused_at b p (q ∷ ps) others limit left now n m c e h lt s = later_settles b p q ps others limit left now n m c e h lt s

pub settled_refusal : (b : List ℕ) (passwords others : List (List ℕ)) (i limit : ℕ) (left now : Option (List ℕ)) (faults faults_now n m : ℕ) (old c : List ℕ) (e : TransferError)
    → Done b passwords others i limit left now faults faults_now n m old c → i < length others → IsSettled c old limit now (Err e) → SettledAll b passwords limit left (Err e)
settled_refusal b passwords others i limit left now faults faults_now n m old c e d lt s =
    subst (λ (x : List (List ℕ)). SettledAll b x limit left (Err e)) (sym d.are)
    (refused_at b d.first (take i others) others limit left now n m c e d.all (omega (arith, lt, length-take-le i others (omega (arith, lt)))) (subst (λ (x : List ℕ). IsSettled c x limit now (Err e)) d.last s))

done_at : (b p : List ℕ) (others : List (List ℕ)) (limit : ℕ) (left now : Option (List ℕ)) (n m : ℕ) (c : List ℕ) → 1 ≤ length others → RekeysAll b (p ∷ others) limit left now n m c
    → SettledAll b (p ∷ others) limit left (Ok c)
done_at b p [] limit left now n m c some h = absurd (omega (arith, some))
done_at b p (q ∷ ps) limit left now n m c some h = done_all b p q ps limit left now n m c h

pub settled_made : (b : List ℕ) (passwords others : List (List ℕ)) (i limit : ℕ) (left now : Option (List ℕ)) (faults faults_now n m : ℕ) (old c : List ℕ)
    → Done b passwords others i limit left now faults faults_now n m old c → length others ≤ i → 2 ≤ length passwords → SettledAll b passwords limit left (Ok c)
settled_made b passwords others i limit left now faults faults_now n m old c d all two =
    let h : RekeysAll b (d.first ∷ others) limit left now n m c = subst (λ (x : List (List ℕ)). RekeysAll b (d.first ∷ x) limit left now n m c) (take_all i others all) d.all in
    let some : 1 ≤ length others = omega (arith, two, ap length d.are) in
    subst (λ (x : List (List ℕ)). SettledAll b x limit left (Ok c)) (sym d.are) (done_at b d.first others limit left now n m c some h)

-- ---- refusals on which nothing was drawn

not_undrawn : (e : TransferError) (P : Type 0) → IsUndrawn e → IsOk (err e) ⊎ IsRefusal (err e) Rng → P
not_undrawn e P u (inl ok) = absurd (not_ok e ok)
not_undrawn e P u (inr (inl is)) = let same : e ≡ Memory = cc in absurd (u.not_memory same)
not_undrawn e P u (inr (inr is)) = let same : e ≡ Rng = cc in absurd (u.not_rng same)

undrawn_in : (b p : List ℕ) (front : List (List ℕ)) (i limit : ℕ) (left now : Option (List ℕ)) (n m : ℕ) (c : List ℕ) (e : TransferError) (P : Type 0) → RekeysAll b (p ∷ front) limit left now n m c → i ≡ length front
    → IsSettled c (last_of (p ∷ front)) limit now (Err e) → (i ≡ 0 → P) → IsUndrawn e → P
undrawn_in b p [] i limit left now n m c e P h is s f u = f is
undrawn_in b p (q ∷ ps) i limit left now n m c e P h is s f u =
    let one = h.3 in
    let a = one.allowed in
    let at = stands b p (q ∷ ps) limit left now n m c h a in
    not_undrawn e P u (s.fits at.further (omega (arith, at.size_is, fits_first b p q limit left h.1 n h.2 h.0 one a)))

-- a refusal that is none of these is one of the first change
pub undrawn_at : (b : List ℕ) (passwords others : List (List ℕ)) (i limit : ℕ) (left now : Option (List ℕ)) (faults faults_now n m : ℕ) (old c : List ℕ) (e : TransferError) (P : Type 0)
    → Done b passwords others i limit left now faults faults_now n m old c → i < length others → IsSettled c old limit now (Err e) → (i ≡ 0 → P) → IsUndrawn e → P
undrawn_at b passwords others i limit left now faults faults_now n m old c e P d lt s f u =
    undrawn_in b d.first (take i others) i limit left now n m c e P d.all (sym (length-take-le i others (omega (arith, lt)))) (subst (λ (x : List ℕ). IsSettled c x limit now (Err e)) d.last s) f u
