-- Bags that stay in a text, at one place or at several.
use Rattle.std.proofs.Common.{ℕ, zero, suc, ◌≡◌, ◌+◌, ◌≤◌, ◌<◌, List, [], ◌∷◌, ◌++◌, length, take, get_or, refl, sym, ap, ap₂, ◌∙◌, arith, append_assoc}
use Rattle.std.specs.Prelude.{All}
use Rattle.std.proofs.lemmas.List.{get_or-map, length-map, take_all}
use Rattle.std.proofs.lemmas.List.Elements.{All-cons, All-nil}
use Rattle.p12.specs.BagView.{NextBag, seen_bag}
use Rattle.p12.specs.Collected.{at_most_one, certificates_among}
use Rattle.p12.specs.Place.{at_place}
use Rattle.p12.specs.SafeBag.{x509_of}
use Rattle.p12.specs.Walk.{Walk}
use Rattle.p12.specs.declared.place.Place.{Place}
use Rattle.p12.specs.declared.safe_bag.BagView.{BagView}
use Rattle.p12.specs.declared.safe_bag.SafeBag.{SafeBag}
use Rattle.p12.proofs.DefinitionLaws.{bags_are, lists}
use Rattle.asn1_core.specs.Sets.{Each}
use Rattle.transfer.specs.InPlace.{BagsAt, InOrder}
use Rattle.transfer.specs.OpenedSafe.{ListsAt, bags_there, contents_at}

-- ---- The bags at one of several places

-- What is at a place of a list is there whatever stands for none.
same_at : {A : Type 0} (xs : List A) (i : ℕ) (d e : A) → i < length xs → get_or xs i d ≡ get_or xs i e
same_at [] i d e lt = absurd (omega (arith, lt))
same_at (x ∷ xs) zero d e lt = refl
same_at (x ∷ xs) (suc i) d e lt = same_at xs i d e (omega (arith, lt))

-- the place at an index
abbrev pub nth : List Place → ℕ → Place
nth ps i = get_or ps i (record { start = 0; len = 0 })

nth_at : (ps : List Place) (i : ℕ) → i < length ps → nth ps i ≡ get_or ps i (nth ps i)
nth_at ps i lt = same_at ps i (record { start = 0; len = 0 }) (nth ps i) lt

pub lists_nth : (text : List ℕ) (ps : List Place) (i : ℕ) → All (ListsAt text) ps → i < length ps → ListsAt text (nth ps i)
lists_nth text ps i all lt = all i (record { start = 0; len = 0 }) lt

pub as_many : (text : List ℕ) (ps : List Place) → length (contents_at text ps) ≡ length ps
as_many text ps = length-map ps (bags_there text)

pub bags_nth : (text : List ℕ) (ps : List Place) (i : ℕ) → i < length ps → bags_there text (nth ps i) ≡ get_or (contents_at text ps) i (bags_there text (nth ps i))
bags_nth text ps i lt = ap (bags_there text) (nth_at ps i lt) ∙ sym (get_or-map (bags_there text) ps i (nth ps i) (bags_there text (nth ps i)) lt)

-- After the last place.
pub take_each : (text : List ℕ) (ps : List Place) (i : ℕ) → length ps ≤ i → take i (contents_at text ps) ≡ contents_at text ps
take_each text ps i le = take_all i (contents_at text ps) (omega (arith, le, as_many text ps))

-- ---- Bags that were found are listed

pub stand_lists : (text : List ℕ) (from : ℕ) (ps : List Place) (gss : List (List SafeBag)) → Each (BagsAt text) ps gss → InOrder from ps (length text) → All (ListsAt text) ps
stand_lists text from [] gss e o = All-nil (ListsAt text)
stand_lists text from (p ∷ ps) [] e o = absurd e
stand_lists text from (p ∷ ps) (g ∷ gss) e o = All-cons (ListsAt text) p ps (o.1, lists (at_place p text) g e.0) (stand_lists text (p.start + p.len) ps gss e.1 o.2)

pub stand_are : (text : List ℕ) (ps : List Place) (gss : List (List SafeBag)) → Each (BagsAt text) ps gss → contents_at text ps ≡ gss
stand_are text [] [] e = refl
stand_are text [] (g ∷ gss) e = absurd e
stand_are text (p ∷ ps) [] e = absurd e
stand_are text (p ∷ ps) (g ∷ gss) e = ap₂ (λ (x : List SafeBag) (xs : List (List SafeBag)). x ∷ xs) (bags_are (at_place p text) g e.0) (stand_are text ps gss e.1)

-- ---- Certificates

pub certificates_on : (now next : Walk SafeBag) (v : BagView) (n : NextBag now next v) (c d whole : List (List ℕ)) → c ++ certificates_among now.left ≡ whole → d ≡ c ++ at_most_one (x509_of (seen_bag v))
    → d ++ certificates_among next.left ≡ whole
certificates_on now next v n c d whole i e =
    ap (λ t. t ++ certificates_among next.left) e ∙ append_assoc c (at_most_one (x509_of (seen_bag v))) (certificates_among next.left)
    ∙ ap (λ t. c ++ t) (sym (ap certificates_among n.is ∙ ap (λ b. at_most_one (x509_of b) ++ certificates_among next.left) n.seen)) ∙ i
