-- Contents that are opened in their order, and their bags.
use Rattle.std.proofs.Common.{ℕ, ◌≡◌, ◌+◌, ◌≤◌, List, [], ◌∷◌, ◌++◌, refl, sym, ap, ◌∙◌, arith, subst, append_assoc, append-nil}
use Rattle.std.specs.Prelude.{All}
use Rattle.std.specs.List.{sum_by}
use Rattle.std.proofs.lemmas.List.Sums.{sum_by-append}
use Rattle.std.proofs.lemmas.List.Elements.{All-head, All-tail}
use Rattle.p12.specs.Collected.{HoldsBags}
use Rattle.p12.specs.ContentInfo.{ContentFits}
use Rattle.p12.specs.ContentView.{NextContent, seen_content}
use Rattle.p12.specs.Walk.{Walk}
use Rattle.p12.specs.declared.content_info.ContentInfo.{ContentInfo}
use Rattle.p12.specs.declared.content_info.ContentView.{ContentView}
use Rattle.p12.specs.declared.safe_bag.SafeBag.{SafeBag}
use Rattle.transfer.specs.declared.store.error.TransferError.{TransferError}
use Rattle.transfer.specs.Limits.{store_limit}
use Rattle.transfer.specs.Opening.{ContentCause, RefusedAfter, content_share, of_contents}
use Rattle.transfer.specs.Parts.{AreOpen, IsFirstFault}
use Rattle.transfer.proofs.Faults.{open_append, refused_later}

-- What a loop over contents has done, whose walk stood at `start` and is at `now`.
pub record Holding (p : List ℕ) (limit spent : ℕ) (start now : Walk ContentInfo) (bags : List (List SafeBag)) (sum : ℕ) : Type 0 where
  pub before : List ContentInfo
  pub split : start.left ≡ before ++ now.left
  pub opened : AreOpen (of_contents p limit) limit spent before bags
  pub fit : All (ContentFits store_limit) now.left
  pub is : sum ≡ spent + sum_by content_share before

pub holds_first : (p : List ℕ) (limit spent : ℕ) (start : Walk ContentInfo) → All (ContentFits store_limit) start.left → spent ≤ limit → Holding p limit spent start start [] spent
holds_first p limit spent start f le = record {
  before = [];
  split = refl;
  opened = record { each = tt; within = omega (arith, le) };
  fit = f;
  is = omega arith;
}

module _ (p : List ℕ) (limit spent : ℕ) (start now : Walk ContentInfo) (bags : List (List SafeBag)) (sum : ℕ) (i : Holding p limit spent start now bags sum) where
  module _ (next : Walk ContentInfo) (v : ContentView) (n : NextContent now next v) where
    pub fit_now : ContentFits store_limit (seen_content v)
    fit_now = All-head (ContentFits store_limit) (seen_content v) next.left (subst (All (ContentFits store_limit)) n.is i.fit)

    pub fault_now : (e : TransferError) (old mid new : ℕ) → mid ≡ old + sum_by content_share i.before → RefusedAfter (ContentCause p limit sum (seen_content v)) mid new e
        → RefusedAfter (IsFirstFault (of_contents p limit) limit spent start.left) old new e
    fault_now e old mid new steps h =
        refused_later (ContentCause p limit sum (seen_content v)) (IsFirstFault (of_contents p limit) limit spent start.left) old mid new (sum_by content_share i.before) steps
        (λ e k f. record {
          before = i.before;
          part = seen_content v;
          behind = next.left;
          split = i.split ∙ ap (λ (t : List ContentInfo). i.before ++ t) n.is;
          made = bags;
          open_before = i.opened;
          own = k;
          fault = subst (λ s. ContentCause p limit s (seen_content v) e k) i.is f;
          steps = refl;
        }) e h

    pub holds_on : (gs : List SafeBag) (total : ℕ) → HoldsBags p (seen_content v) gs → total ≡ sum + content_share (seen_content v) → total ≤ limit → Holding p limit spent start next (bags ++ gs ∷ []) total
    holds_on gs total o t le =
        let one : AreOpen (of_contents p limit) limit sum (seen_content v ∷ []) (gs ∷ []) = record { each = (o, tt); within = omega (arith, t, le, sum_by-append content_share (seen_content v ∷ []) []) } in
        record {
          before = i.before ++ seen_content v ∷ [];
          split = i.split ∙ ap (λ (t : List ContentInfo). i.before ++ t) n.is ∙ sym (append_assoc i.before (seen_content v ∷ []) next.left);
          opened = open_append (of_contents p limit) limit spent sum i.before bags (seen_content v ∷ []) (gs ∷ []) i.opened i.is one;
          fit = All-tail (ContentFits store_limit) (seen_content v) next.left (subst (All (ContentFits store_limit)) n.is i.fit);
          is = omega (arith, t, i.is, sum_by-append content_share i.before (seen_content v ∷ []));
        }

  -- After the last.
  pub all_before : now.left ≡ [] → i.before ≡ start.left
  all_before e = sym (i.split ∙ ap (λ (t : List ContentInfo). i.before ++ t) e ∙ append-nil i.before)

  pub all_opened : now.left ≡ [] → AreOpen (of_contents p limit) limit spent start.left bags
  all_opened e = subst (λ (cs : List ContentInfo). AreOpen (of_contents p limit) limit spent cs bags) (all_before e) i.opened

  pub all_shared : now.left ≡ [] → sum ≡ spent + sum_by content_share start.left
  all_shared e = i.is ∙ ap (λ (cs : List ContentInfo). spent + sum_by content_share cs) (all_before e)
