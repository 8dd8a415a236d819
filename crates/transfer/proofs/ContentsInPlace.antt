-- Contents that are opened in place.
use Rattle.std.proofs.Common.{ℕ, ◌≡◌, ◌+◌, ◌≤◌, List, [], ◌∷◌, ◌++◌, length, drop, refl, sym, ap, ◌∙◌, arith, subst, Bor}
use Rattle.std.specs.Prelude.{All, Some}
use Rattle.p12.specs.AlgorithmIdentifier.{cost, unlock}
use Rattle.p12.specs.AlgorithmView.{seen_algorithm}
use Rattle.p12.specs.ContentInfo.{ContentFits}
use Rattle.p12.specs.ContentView.{ContentBetween, ContentStands, NextContent, seen_content}
use Rattle.p12.specs.Place.{at_place}
use Rattle.p12.specs.SafeBag.{IsBags, NoBags}
use Rattle.p12.specs.Walk.{Walk}
use Rattle.p12.specs.declared.algorithm_identifier.AlgorithmView.{AlgorithmView}
use Rattle.p12.specs.declared.content_info.ContentInfo.{ContentInfo}
use Rattle.p12.specs.declared.content_info.ContentView.{ContentView}
use Rattle.p12.specs.declared.content_info.ContentView.TheVariants as view
use Rattle.p12.specs.declared.encrypted_data.EncryptedData.{EncryptedData}
use Rattle.p12.specs.declared.place.Place.{Place}
use Rattle.p12.specs.declared.safe_bag.SafeBag.{SafeBag}
use Rattle.asn1_core.specs.Sets.{Each}
use Rattle.transfer.specs.declared.store.error.TransferError.{TransferError}
use Rattle.transfer.specs.declared.store.error.TransferError.TheVariants.{ContentMalformed}
use Rattle.transfer.specs.InPlace.{BagsAt, ContentOpensAt, InOrder, Kept, StandAt}
use Rattle.transfer.specs.Limits.{store_limit}
use Rattle.transfer.specs.Opening.{ContentCause, RefusedAfter, content_share}
use Rattle.transfer.proofs.ContentBags.{Holding, holds_first, holds_on}
use Rattle.transfer.proofs.Faults.{content_bad}
use Rattle.transfer.proofs.Lists.{each_append}
use Rattle.transfer.proofs.Overwriting.{drop_on, kept_wider, order_more, place_before, place_behind}

-- ---- One content

pub encrypted_opens : (p old new : List ℕ) (c : ContentView) (a : AlgorithmView) (v : Bor (List ℕ)) (at place : Place) (gs : List SafeBag) → c ≡ view.Encrypted a v at → ContentStands old c
    → unlock (seen_algorithm a) p (at_place at old) ≡ Some (at_place place new) → place.start ≡ at.start → place.len ≤ at.len → Kept at.start (at.start + at.len) old new → IsBags (at_place place new) gs → ContentOpensAt p c old new place
encrypted_opens p old new c a v at place gs is stands opens start len kept bags = subst (λ (c : ContentView). ContentOpensAt p c old new place) (sym is)
    (record {
      bags = gs;
      opens = (at_place place new, ap (unlock (seen_algorithm a) p) (sym (subst (ContentStands old) is stands)) ∙ opens, bags);
      are = bags;
      kept = λ from to b. kept_wider from at.start (at.start + at.len) to old new b.0 b.1 kept;
      within = λ from to b. (omega (arith, b.0, start), omega (arith, b.1, start, len));
    })

pub encrypted_bad : (p : List ℕ) (limit sum : ℕ) (old m : List ℕ) (c : ContentView) (a : AlgorithmView) (v : Bor (List ℕ)) (at : Place) (before after : ℕ) (e : TransferError) → c ≡ view.Encrypted a v at → ContentStands old c
    → unlock (seen_algorithm a) p (at_place at old) ≡ Some m → sum + cost (seen_algorithm a) ≤ limit → after ≡ before + cost (seen_algorithm a) → e ≡ ContentMalformed → NoBags m
    → RefusedAfter (ContentCause p limit sum (seen_content c)) before after e
encrypted_bad p limit sum old m c a v at before after e is stands opens le steps bad none =
    let d : EncryptedData = record { encrypted_content_info = record { content_encryption_algorithm = seen_algorithm a; encrypted_content = v.now } } in
    subst (λ (e : TransferError). RefusedAfter (ContentCause p limit sum (seen_content c)) before after e) (sym bad)
    (_, content_bad p limit sum (seen_content c) d m (ap seen_content is) (ap (unlock (seen_algorithm a) p) (sym (subst (ContentStands old) is stands)) ∙ opens) le none, steps)

-- ---- Contents

content_stands : (old bytes : List ℕ) (passed to : ℕ) (v : ContentView) → ContentBetween passed to v → ContentStands bytes v → drop passed old ≡ drop passed bytes → ContentStands old v
content_stands old bytes passed to (view.Plain v at) b s e = place_behind at passed bytes old b.0 e ∙ s
content_stands old bytes passed to (view.Encrypted a v at) b s e = place_behind at passed bytes old b.0 e ∙ s
content_stands old bytes passed to (view.Other k v) b s e = tt

between_all : (passed to n : ℕ) (v : ContentView) → ContentBetween passed to v → to ≤ n → ContentBetween 0 n v
between_all passed to n (view.Plain v at) b h = (omega arith, omega (arith, b.1, h))
between_all passed to n (view.Encrypted a v at) b h = (omega arith, omega (arith, b.1, h))
between_all passed to n (view.Other k v) b h = tt

bags_kept : (from mid to : ℕ) (ps : List Place) (gss : List (List SafeBag)) (old new : List ℕ) → InOrder from ps mid → Kept mid to old new → Each (BagsAt old) ps gss → Each (BagsAt new) ps gss
bags_kept from mid to [] [] old new o k e = tt
bags_kept from mid to [] (g ∷ gss) old new o k e = absurd e
bags_kept from mid to (p ∷ ps) [] old new o k e = absurd e
bags_kept from mid to (p ∷ ps) (g ∷ gss) old new o k e =
    (subst (λ (t : List ℕ). IsBags t g) (sym (place_before p mid old new o.1 k.0)) e.0, bags_kept (p.start + p.len) mid to ps gss old new o.2 k e.1)

-- What the loop over contents in place has done, whose walk stood at `start` and is at `now`: the text is a copy from there on.
pub record Opening (p : List ℕ) (limit spent : ℕ) (start now : Walk ContentInfo) (text : List ℕ) (places : List Place) (sum : ℕ) : Type 0 where
  pub bags : List (List SafeBag)
  pub held : Holding p limit spent start now bags sum
  pub same : now.bytes ≡ start.bytes
  pub are : Each (BagsAt text) places bags
  pub order : InOrder 0 places now.passed
  pub room : InOrder 0 places (length start.bytes)
  pub rest : drop now.passed text ≡ drop now.passed start.bytes

module _ (p : List ℕ) (limit spent : ℕ) (start now : Walk ContentInfo) (text : List ℕ) (places : List Place) (sum : ℕ) (i : Opening p limit spent start now text places sum) where
  module _ (next : Walk ContentInfo) (v : ContentView) (n : NextContent now next v) where
    pub stands_now : ContentStands text v
    stands_now = content_stands text start.bytes now.passed next.passed v n.between (subst (λ (b : List ℕ). ContentStands b v) i.same n.stands) i.rest

    pub room_now : length text ≡ length start.bytes → ContentBetween 0 (length text) v
    room_now size = between_all now.passed next.passed (length text) v n.between (omega (arith, n.forward.1, ap length i.same, size))

    pub opens_on : (after : List ℕ) (place : Place) (total : ℕ) → ContentOpensAt p v text after place → total ≡ sum + content_share (seen_content v) → total ≤ limit
        → Opening p limit spent start next after (places ++ place ∷ []) total
    opens_on after place total o t le =
        let kept = o.kept now.passed next.passed n.between in
        let lies = o.within now.passed next.passed n.between in
        record {
          bags = i.bags ++ o.bags ∷ [];
          held = holds_on p limit spent start now i.bags sum i.held next v n o.bags total o.opens t le;
          same = n.same ∙ i.same;
          are = each_append (BagsAt after) places i.bags (place ∷ []) (o.bags ∷ []) (bags_kept 0 now.passed next.passed places i.bags text after i.order kept i.are) (o.are, tt);
          order = order_more 0 now.passed next.passed places place (omega arith) i.order lies.0 lies.1;
          room = order_more 0 now.passed (length start.bytes) places place (omega arith) i.order lies.0 (omega (arith, lies.1, n.forward.1, ap length i.same));
          rest = kept.1 ∙ drop_on now.passed next.passed text start.bytes n.forward.0 i.rest;
        }

  -- After the last.
  pub all_stand : length text ≡ length start.bytes → StandAt text places i.bags
  all_stand size = record { each = i.are; order = subst (InOrder 0 places) (sym size) i.room }

pub opens_first : (p : List ℕ) (limit spent : ℕ) (start : Walk ContentInfo) (text : List ℕ) → text ≡ start.bytes → All (ContentFits store_limit) start.left → spent ≤ limit → Opening p limit spent start start text [] spent
opens_first p limit spent start text e f le = record {
  bags = [];
  held = holds_first p limit spent start f le;
  same = refl;
  are = tt;
  order = tt;
  room = tt;
  rest = ap (drop start.passed) e;
}
