-- What a listing has of bags.
use Rattle.std.specs.Prelude.{◌≡◌, ◌+◌, List, [], ◌∷◌, length}
use Rattle.std.specs.List.{flat_map}
use Rattle.p12.specs.Collected.{certificates_among}
use Rattle.p12.specs.declared.safe_bag.SafeBag.{SafeBag}
use Rattle.p12.specs.declared.safe_bag.SafeBagKind.{SafeBagKind}
use Rattle.p12.specs.declared.safe_bag.SafeBagKind.TheVariants.{CertBag, Pkcs8ShroudedKeyBag, OtherBagKind}
use Rattle.p12.specs.declared.cert_bag.CertBag.TheVariants.{X509, SDSI}
use Rattle.pkcs12_inspection.specs.declared.listing.Listing.{Listing}

-- what a bag holds, where that is neither an X.509 certificate nor an encrypted private key
abbrev pub other_in : SafeBagKind → List SafeBagKind
other_in (CertBag (X509 c)) = []
other_in (CertBag (SDSI c)) = CertBag (SDSI c) ∷ []
other_in (Pkcs8ShroudedKeyBag k) = []
other_in (OtherBagKind o) = OtherBagKind o ∷ []

-- those of bags
abbrev pub others_among : List SafeBag → List SafeBagKind
others_among gs = flat_map (λ (g : SafeBag). other_in g.bag) gs

-- those of all contents: what is not exported
abbrev pub others_in : List (List SafeBag) → List SafeBagKind
others_in contents = flat_map others_among contents

-- The listing has these bags more: as many certificates and others as are among them.
pub record Adds (old new : Listing) (gs : List SafeBag) : Type 0 where
  pub certificates : length new.certificates
      ≡ length old.certificates + length (certificates_among gs)
  pub others : length new.others ≡ length old.others + length (others_among gs)
