-- The certificates of blocks.
use Rattle.std.proofs.Common.{◌≡◌, ◌<◌, ℕ, Bool, true, false, cond, List, [], ◌∷◌, ◌++◌, length, get_or, take, map, sym, ap, ◌∙◌, subst, inl, inr}
use Rattle.std.specs.Prelude.{◌+◌, ◌⊎◌, filter}
use Rattle.std.proofs.lemmas.List.{append-nil, map-append, take_more}
use Rattle.std.proofs.lemmas.List.Elements.{filter-append}
use Rattle.asn1_core.specs.Gives.{IsNone}
use Rattle.inventory_core.specs.Certificate.{IsCertificate}
use Rattle.pem_text.specs.declared.block.Block.{Block}
use Rattle.std.specs.List.{list_any}
use Rattle.pem_stores.specs.Certificates.{LacksCertificates, certificates_of, is_certificate_block, is_trusted_block}
use Rattle.pem_stores.specs.declared.certificates.CertificateRefusal.{CertificateRefusal}
use Rattle.pem_stores.specs.declared.certificates.CertificateRefusal.TheVariants.{Malformed, Memory}

certificates_append : (bs : List Block) (b : Block) (t : Bool) → is_certificate_block b ≡ t → certificates_of (bs ++ b ∷ []) ≡ certificates_of bs ++ map (λ (x : Block). x.octets) (cond t (b ∷ []) [])
certificates_append bs b t h =
    ap (λ l. map (λ (x : Block). x.octets) l) (filter-append is_certificate_block bs (b ∷ []))
    ∙ map-append (λ (x : Block). x.octets) (filter is_certificate_block bs) (filter is_certificate_block (b ∷ []))
    ∙ ap (λ u. certificates_of bs ++ map (λ (x : Block). x.octets) (cond u (b ∷ []) [])) h

-- one more block
pub certificates_more : (bs : List Block) (i : ℕ) (b : Block) (old new : List (List ℕ)) → i < length bs → b ≡ get_or bs i b → is_certificate_block b ≡ true → old ≡ certificates_of (take i bs) → new ≡ old ++ b.octets ∷ []
    → new ≡ certificates_of (take (i + 1) bs)
certificates_more bs i b old new within at h was more =
    more ∙ ap (λ l. l ++ b.octets ∷ []) was ∙ sym (certificates_append (take i bs) b true h) ∙ ap (λ (x : Block). certificates_of (take i bs ++ x ∷ [])) at ∙ ap certificates_of (sym (take_more bs i b within))

pub certificates_same : (bs : List Block) (i : ℕ) (b : Block) (old : List (List ℕ)) → i < length bs → b ≡ get_or bs i b → is_certificate_block b ≡ false → old ≡ certificates_of (take i bs) → old ≡ certificates_of (take (i + 1) bs)
certificates_same bs i b old within at h was =
    was ∙ sym (append-nil (certificates_of (take i bs))) ∙ sym (certificates_append (take i bs) b false h) ∙ ap (λ (x : Block). certificates_of (take i bs ++ x ∷ [])) at ∙ ap certificates_of (sym (take_more bs i b within))

pub one_refused : (bs : List Block) (i : ℕ) (b : Block) (e : CertificateRefusal) → list_any is_trusted_block bs ≡ false → i < length bs → b ≡ get_or bs i b → is_certificate_block b ≡ true
    → (e ≡ Memory) ⊎ ((e ≡ Malformed) × IsNone IsCertificate b.octets) → LacksCertificates bs e
one_refused bs i b e plain within at labelled (inl m) = subst (LacksCertificates bs) (sym m) tt
one_refused bs i b e plain within at labelled (inr h) = subst (LacksCertificates bs) (sym h.0) (plain, (i, b, within, sym at, (labelled, h.1)))
