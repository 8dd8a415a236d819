-- What opens under a password opens by what p12 does under it.
use Rattle.std.proofs.Common.{ℕ, List, [], ◌∷◌, refl}
use Rattle.asn1_core.specs.Sets.{Each}
use Rattle.p12.specs.Collected.{HoldsBags}
use Rattle.p12.specs.declared.content_info.ContentInfo.{ContentInfo}
use Rattle.p12.specs.declared.content_info.ContentInfo.TheVariants as content
use Rattle.p12.specs.declared.safe_bag.SafeBag.{SafeBag}
use Rattle.p12.proofs.DefinitionLaws.{unlock_opened}
use Rattle.rekey_core.specs.Sealing.{CanSeal}
use Rattle.rekey_core.specs.Unlocking.{HoldsBy, Unlocking, under}
use Rattle.rekey_core.specs.declared.kinds.Kinds.{Kinds}
use Rattle.rekey_core.specs.declared.kinds.Kinds.TheVariants.{Renewed}
use Rattle.rekey_core.specs.declared.kinds.Rounds.{Rounds}
use Rattle.rekey_core.proofs.KindFacts.{kind_counts, kind_opens}

pub held : (p : List ℕ) (c : ContentInfo) (gs : List SafeBag) → HoldsBags p c gs → HoldsBy (under p) c gs
held p (content.Data v) gs h = h
held p (content.EncryptedData d) gs h = h
held p (content.OtherContext o) gs h = h

pub all_held : (p : List ℕ) (cs : List ContentInfo) (gss : List (List SafeBag)) → Each (HoldsBags p) cs gss → Each (HoldsBy (under p)) cs gss
all_held p [] [] h = h
all_held p [] (gs ∷ gss) h = absurd h
all_held p (c ∷ cs) [] h = absurd h
all_held p (c ∷ cs) (gs ∷ gss) h = (held p c gs h.0, all_held p cs gss h.1)

-- What opens under a password can be sealed as a part of any kinds, and whatever opens as one of renewed kinds.
pub can_seal : (to : Kinds) (p : List ℕ) → CanSeal to (under p)
can_seal to p a c m e = let o = unlock_opened a p c m e in (kind_opens to a o.openable, kind_counts to a o.some_rounds)

pub can_renew : (rounds : Rounds) (u : Unlocking) → CanSeal (Renewed rounds) u
can_renew rounds u a c m e = (refl, rounds.some)
