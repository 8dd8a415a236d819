-- Bags of contents, one content after the other.
use Rattle.std.proofs.Common.{◌≡◌, ◌∙◌, ℕ, ◌+◌, ◌<◌, ◌≤◌, ◌-◌, ◌^◌, List, [], ◌∷◌, ◌++◌, length, take, drop, get_or, inl, inr, refl, sym, ap, subst, arith}
use Rattle.std.specs.Prelude.{All, IfSome, Option, Some, None}
use Rattle.std.proofs.lemmas.List.{append_assoc, append-nil, take-append-drop, take_more}
use Rattle.std.proofs.lemmas.List.Elements.{All-append}
use Rattle.p12.specs.Collected.{ContentFault, FirstFault, HoldAll, HoldsBags, Refuses}
use Rattle.p12.specs.ContentInfo.{ContentFits, IsContents, SealFits, plain_of}
use Rattle.p12.specs.SafeBag.{BagFits}
use Rattle.p12.specs.declared.content_info.ContentInfo.{ContentInfo}
use Rattle.p12.specs.declared.content_info.ContentInfo.TheVariants as content
use Rattle.p12.specs.declared.error.Error.{Error}
use Rattle.p12.specs.declared.safe_bag.SafeBag.{SafeBag}
use Rattle.p12.specs.Pfx.{IsStore, OpeningFits, StoreFits}
use Rattle.p12.specs.declared.mac_data.MacData.{MacData}
use Rattle.p12.specs.declared.pfx.PFX.{PFX}
use Rattle.p12.proofs.Fits.{bags_fit, contents_fit, store_fits}

-- one content more
pub hold_more : (p : List ℕ) (cs : List ContentInfo) (c : ContentInfo) (gs more : List SafeBag) → HoldAll p cs gs → HoldsBags p c more → HoldAll p (cs ++ c ∷ []) (gs ++ more)
hold_more p [] c gs more none h = (more, [], h, refl, ap (λ (x : List SafeBag). x ++ more) none ∙ sym (append-nil more))
hold_more p (d ∷ cs) c gs more (first, rest, holds, all, e) h =
    (first, rest ++ more, holds, hold_more p cs c rest more all h, ap (λ (x : List SafeBag). x ++ more) e ∙ append_assoc first rest more)

-- the first fault comes after contents that have none
pub fault_behind : (p : List ℕ) (cs : List ContentInfo) (c : ContentInfo) (ds : List ContentInfo) (gs : List SafeBag) (e : Error) → HoldAll p cs gs → ContentFault p c e → FirstFault p (cs ++ c ∷ ds) e
fault_behind p [] c ds gs e none f = inl f
fault_behind p (d ∷ cs) c ds gs e (first, rest, holds, all, is) f = inr (first, holds, fault_behind p cs c ds rest e all f)

take_one : (cs : List ContentInfo) (i : ℕ) (c : ContentInfo) → i < length cs → c ≡ get_or cs i c → take (i + 1) cs ≡ take i cs ++ c ∷ []
take_one cs i c lt at = take_more cs i c lt ∙ ap (λ (x : ContentInfo). take i cs ++ x ∷ []) (sym at)

pub hold_next : (p : List ℕ) (cs : List ContentInfo) (i : ℕ) (c : ContentInfo) (gs more : List SafeBag) → i < length cs → c ≡ get_or cs i c
    → HoldAll p (take i cs) gs → HoldsBags p c more → HoldAll p (take (i + 1) cs) (gs ++ more)
hold_next p cs i c gs more lt at all h = subst (λ t. HoldAll p t (gs ++ more)) (sym (take_one cs i c lt at)) (hold_more p (take i cs) c gs more all h)

pub fault_at : (p : List ℕ) (cs : List ContentInfo) (i : ℕ) (c : ContentInfo) (gs : List SafeBag) (e : Error) → i < length cs → c ≡ get_or cs i c
    → HoldAll p (take i cs) gs → Refuses (ContentFault p c) e → Refuses (FirstFault p cs) e
fault_at p cs i c gs e lt at all (inl memory) = inl memory
fault_at p cs i c gs e lt at all (inr f) =
    inr (subst (λ t. FirstFault p t e)
    (sym (sym (take-append-drop (i + 1) cs) ∙ ap (λ t. t ++ drop (i + 1) cs) (take_one cs i c lt at) ∙ append_assoc (take i cs) (c ∷ []) (drop (i + 1) cs)))
    (fault_behind p (take i cs) c (drop (i + 1) cs) gs e all f))

-- bags that were held fit
pub held_fit : (p : List ℕ) (cs : List ContentInfo) (gs : List SafeBag) → HoldAll p cs gs → All BagFits gs
held_fit p [] gs none = subst (All BagFits) (sym none) (λ k d lt. absurd (omega (arith, lt)))
held_fit p (c ∷ cs) gs (first, rest, holds, all, is) =
    subst (All BagFits) (sym is) (All-append BagFits first rest (bags_fit holds.0 first holds.2) (held_fit p cs rest all))

narrower : (n : ℕ) (o : Option MacData) → n ≤ 2 ^ 32 - 1 → IfSome o (λ m. length m.salt ≤ n) → IfSome o (λ m. length m.salt ≤ 2 ^ 32 - 1)
narrower n None h f = tt
narrower n (Some m) h f = omega (arith, h, f)

-- of what holds fewer than 2 ^ 32 octets, what is encrypted and what is plain
seal_fits : (c : ContentInfo) → ContentFits (2 ^ 32 - 1) c → SealFits c
seal_fits (content.Data v) f = (omega arith, omega arith)
seal_fits (content.EncryptedData d) f = (omega (arith, f.0), omega (arith, f.1))
seal_fits (content.OtherContext o) f = (omega arith, omega arith)

plain_fits : (c : ContentInfo) → ContentFits (2 ^ 32 - 1) c → length (plain_of c) < 2 ^ 32
plain_fits (content.Data v) f = omega (arith, f.0)
plain_fits (content.EncryptedData d) f = omega arith
plain_fits (content.OtherContext o) f = omega arith

mac_opens : (c : ContentInfo) (o : Option MacData) → SealFits c → length (plain_of c) < 2 ^ 32 → IfSome o (λ m. length m.salt ≤ 2 ^ 32 - 1)
    → IfSome o (λ m. SealFits c × (length m.salt < 2 ^ 59) × (length (plain_of c) < 2 ^ 32))
mac_opens c None g h f = tt
mac_opens c (Some m) g h f = (g, omega (arith, f), h)

-- so a store that fits can be opened
narrow_opens : (s : PFX) → StoreFits (2 ^ 32 - 1) s → OpeningFits s
narrow_opens s f =
    let seal = seal_fits s.auth_safe f.0 in
    (seal, mac_opens s.auth_safe s.mac_data seal (plain_fits s.auth_safe f.0) f.1)

-- contents of a list fit: it has fewer than 2 ^ 32 octets
pub listed_fit : (b : List ℕ) (cs : List ContentInfo) → IsContents b cs → All SealFits cs
unfolding IsContents
listed_fit b cs is = λ k d lt. let f = contents_fit b cs is k d lt in seal_fits (get_or cs k d) (omega (arith, f.0, is.1), omega (arith, f.1, is.1))

-- parts of a store fit
pub short_fits : (b : List ℕ) (s : PFX) → IsStore b s → StoreFits (2 ^ 32 - 1) s
unfolding IsStore
short_fits b s is = let f = store_fits b s is in ((omega (arith, f.0.0, is.1), omega (arith, f.0.1, is.1)), narrower (length b) s.mac_data (omega (arith, is.1)) f.1)

pub opening_fits : (b : List ℕ) (s : PFX) → IsStore b s → OpeningFits s
opening_fits b s is = narrow_opens s (short_fits b s is)
