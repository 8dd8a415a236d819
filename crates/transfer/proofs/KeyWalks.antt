-- Loops over bags that open the keys among them.
use Rattle.std.proofs.Common.{ℕ, ◌≡◌, ◌+◌, ◌≤◌, ◌<◌, ◌^◌, List, [], ◌∷◌, ◌++◌, length, length-drop, length-take, drop, refl, sym, ap, ◌∙◌, arith, subst, append_assoc, append-nil, Bor}
use Rattle.std.specs.Prelude.{All}
use Rattle.std.specs.List.{sum_by}
use Rattle.std.proofs.lemmas.Grind.{flat_map-append}
use Rattle.std.proofs.lemmas.List.Sums.{sum_by-append}
use Rattle.std.proofs.lemmas.List.Elements.{All-head, All-tail}
use Rattle.p12.specs.AlgorithmIdentifier.{salt_of}
use Rattle.p12.specs.AlgorithmView.{seen_algorithm}
use Rattle.p12.specs.BagView.{BagStands, NextBag, seen_bag}
use Rattle.p12.specs.SafeBag.{BagFits, KindFits}
use Rattle.p12.specs.Walk.{Walk}
use Rattle.p12.specs.declared.algorithm_identifier.AlgorithmView.{AlgorithmView}
use Rattle.p12.specs.declared.encrypted_private_key_info.EncryptedPrivateKeyInfo.{EncryptedPrivateKeyInfo}
use Rattle.p12.specs.declared.place.Place.{Place}
use Rattle.p12.specs.declared.safe_bag.BagView.{BagView}
use Rattle.p12.specs.declared.safe_bag.BagView.TheVariants as view
use Rattle.p12.specs.declared.safe_bag.SafeBag.{SafeBag}
use Rattle.transfer.specs.declared.store.error.TransferError.{TransferError}
use Rattle.transfer.specs.Limits.{store_limit}
use Rattle.transfer.specs.Opening.{KeyFault, KeyOpens, RefusedAfter, key_share, key_with, of_keys, shrouded_among, shrouded_in}
use Rattle.transfer.specs.Parts.{AreOpen, IsFirstFault, OpensMore}
use Rattle.transfer.proofs.Faults.{open_append, refused_later}

-- What a loop over bags has opened, whose walk stood at `start` and is at `now`.
pub record KeysOpened (p : List ℕ) (limit spent : ℕ) (start now : Walk SafeBag) (first keys : List (List ℕ)) (sum : ℕ) : Type 0 where
  pub before : List SafeBag
  pub split : start.left ≡ before ++ now.left
  pub bytes : now.bytes ≡ start.bytes
  pub opened : OpensMore (of_keys p limit) limit spent (shrouded_among before) first keys
  pub is : sum ≡ spent + sum_by key_share (shrouded_among before)
  pub fits : All BagFits now.left

pub keys_first : (p : List ℕ) (limit spent : ℕ) (start : Walk SafeBag) (first : List (List ℕ)) → All BagFits start.left → spent ≤ limit → KeysOpened p limit spent start start first first spent
keys_first p limit spent start first fits le = record {
  before = [];
  split = refl;
  bytes = refl;
  opened = record { made = []; grows = sym (append-nil first); opened = record { each = tt; within = omega (arith, le) } };
  is = omega arith;
  fits = fits;
}

shrouded_append : (gs hs : List SafeBag) → shrouded_among (gs ++ hs) ≡ shrouded_among gs ++ shrouded_among hs
shrouded_append gs hs = flat_map-append (λ (g : SafeBag). shrouded_in g.bag) gs hs

module _ (p : List ℕ) (limit spent : ℕ) (start now : Walk SafeBag) (first keys : List (List ℕ)) (sum : ℕ) (i : KeysOpened p limit spent start now first keys sum) where
  module _ (next : Walk SafeBag) (v : BagView) (n : NextBag now next v) where
    one_more : (ks : List EncryptedPrivateKeyInfo) → shrouded_in (seen_bag v) ≡ ks → shrouded_among (i.before ++ n.bag ∷ []) ≡ shrouded_among i.before ++ ks
    one_more ks is = shrouded_append i.before (n.bag ∷ []) ∙ ap (λ t. shrouded_among i.before ++ t) (append-nil (shrouded_in n.bag.bag) ∙ ap shrouded_in n.seen ∙ is)

    -- after a bag of these keys, which were opened to these texts
    opened_on : (ks : List EncryptedPrivateKeyInfo) (ms more : List (List ℕ)) (total : ℕ) → shrouded_in (seen_bag v) ≡ ks → AreOpen (of_keys p limit) limit sum ks ms → more ≡ keys ++ ms
        → total ≡ sum + sum_by key_share ks → KeysOpened p limit spent start next first more total
    opened_on ks ms more total is o e t =
        let them = one_more ks is in
        record {
          before = i.before ++ n.bag ∷ [];
          split = i.split ∙ ap (λ (t : List SafeBag). i.before ++ t) n.is ∙ sym (append_assoc i.before (n.bag ∷ []) next.left);
          bytes = n.same ∙ i.bytes;
          opened = record {
            made = i.opened.made ++ ms;
            grows = e ∙ ap (λ t. t ++ ms) i.opened.grows ∙ append_assoc first i.opened.made ms;
            opened = subst (λ (ks : List EncryptedPrivateKeyInfo). AreOpen (of_keys p limit) limit spent ks (i.opened.made ++ ms)) (sym them)
                (open_append (of_keys p limit) limit spent sum (shrouded_among i.before) i.opened.made ks ms i.opened.opened i.is o);
          };
          is = omega (arith, t, i.is, ap (sum_by key_share) them, sum_by-append key_share (shrouded_among i.before) ks);
          fits = All-tail BagFits n.bag next.left (subst (All BagFits) n.is i.fits);
        }

    pub other_on : shrouded_in (seen_bag v) ≡ [] → KeysOpened p limit spent start next first keys sum
    other_on none = opened_on [] [] keys sum none (record { each = tt; within = omega (arith, i.is, i.opened.opened.within) }) (sym (append-nil keys)) (omega arith)

    -- ---- a bag of an encrypted key

    module _ (a : AlgorithmView) (x : Bor (List ℕ)) (at : Place) (is : v ≡ view.Shrouded a x at) where
      key_in : shrouded_in (seen_bag v) ≡ key_with (seen_algorithm a) x.now ∷ []
      key_in = ap (λ v. shrouded_in (seen_bag v)) is

      pub key_short : length start.bytes ≤ store_limit → length x.now ≤ store_limit
      key_short short = omega (arith, short, ap length i.bytes, ap length (subst (BagStands now.bytes) is n.stands), length-take at.len (drop at.start now.bytes), length-drop at.start now.bytes)

      pub key_salt : length (salt_of (seen_algorithm a)) < 2 ^ 59
      key_salt = (subst KindFits (n.seen ∙ ap seen_bag is) (All-head BagFits n.bag next.left (subst (All BagFits) n.is i.fits))).1

      pub key_on : (m : List ℕ) (more : List (List ℕ)) (total : ℕ) → KeyOpens p (key_with (seen_algorithm a) x.now) m → more ≡ keys ++ m ∷ [] → total ≡ sum + key_share (key_with (seen_algorithm a) x.now) → total ≤ limit
          → KeysOpened p limit spent start next first more total
      key_on m more total o e t le =
          let k = key_with (seen_algorithm a) x.now in
          let share = sum_by-append key_share (k ∷ []) [] in
          opened_on (k ∷ []) (m ∷ []) more total key_in (record { each = (o, tt); within = omega (arith, t, le, share) }) e (omega (arith, t, share))

      pub key_fault : (old mid new : ℕ) (e : TransferError) → mid ≡ old + sum_by key_share (shrouded_among i.before) → RefusedAfter (KeyFault p limit sum (key_with (seen_algorithm a) x.now)) mid new e
          → RefusedAfter (IsFirstFault (of_keys p limit) limit spent (shrouded_among start.left)) old new e
      key_fault old mid new e steps h =
          let k = key_with (seen_algorithm a) x.now in
          refused_later (KeyFault p limit sum k) (IsFirstFault (of_keys p limit) limit spent (shrouded_among start.left)) old mid new (sum_by key_share (shrouded_among i.before)) steps
          (λ e own f. record {
            before = shrouded_among i.before;
            part = k;
            behind = shrouded_among next.left;
            split = ap shrouded_among (i.split ∙ ap (λ (t : List SafeBag). i.before ++ t) n.is) ∙ shrouded_append i.before (n.bag ∷ next.left)
                ∙ ap (λ (ks : List EncryptedPrivateKeyInfo). shrouded_among i.before ++ (ks ++ shrouded_among next.left)) (ap shrouded_in n.seen ∙ key_in);
            made = i.opened.made;
            open_before = i.opened.opened;
            own = own;
            fault = subst (λ s. KeyFault p limit s k e own) i.is f;
            steps = refl;
          }) e h

  -- After the last.
  pub all_before : now.left ≡ [] → i.before ≡ start.left
  all_before e = sym (i.split ∙ ap (λ (t : List SafeBag). i.before ++ t) e ∙ append-nil i.before)

  pub all_opened : now.left ≡ [] → OpensMore (of_keys p limit) limit spent (shrouded_among start.left) first keys
  all_opened e = subst (λ (gs : List SafeBag). OpensMore (of_keys p limit) limit spent (shrouded_among gs) first keys) (all_before e) i.opened

  pub all_shared : now.left ≡ [] → sum ≡ spent + sum_by key_share (shrouded_among start.left)
  all_shared e = i.is ∙ ap (λ (gs : List SafeBag). spent + sum_by key_share (shrouded_among gs)) (all_before e)
