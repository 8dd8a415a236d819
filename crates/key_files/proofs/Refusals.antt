-- What refusals of calls below say of keys.
use Rattle.std.proofs.Common.{◌≡◌, ℕ, List, length, Option, Some, None, refl, sym, ◌∙◌, subst, inl, inr, arith}
use Rattle.asn1_core.specs.Gives.{Fails, IsNone}
use Rattle.asn1_core.specs.Oid.{oid_octets}
use Rattle.asn1_core.specs.Writing.{Cause, IsOverlong}
use Rattle.asn1_core.specs.declared.error.Error.{Error as Asn1Error}
use Rattle.asn1_core.specs.declared.error.Error.TheVariants as asn1
use Rattle.asn1_core.specs.declared.identifier.ObjectIdentifier.{ObjectIdentifier}
use Rattle.der_core.specs.Optional.{writable_option}
use Rattle.pkcs5.specs.SchemeOpening.{SchemeOpens}
use Rattle.pkcs5.specs.declared.encryption_scheme.EncryptionScheme.{EncryptionScheme}
use Rattle.pkcs8.specs.Error.{of_asn1}
use Rattle.pkcs8.specs.Seen.{AnyPrivateKey, IsPrivateKey}
use Rattle.pkcs8.specs.declared.error.Error.{Error}
use Rattle.key_files.specs.Keys.{IsKey, OpensToNone, RefusesDocument, RefusesToWrap, read_document, unread, unwritten, wrapped_text}

-- a document that is not read
fault_said : (octets : List ℕ) (limit : ℕ) (f : Asn1Error) → Fails ⊥ f (read_document octets) → RefusesDocument octets limit (unread (of_asn1 f))
fault_said octets limit asn1.Malformed h = h
fault_said octets limit (asn1.OidUnknown o) h = inl (o, h)
fault_said octets limit asn1.Overlength h = absurd h
fault_said octets limit asn1.NoRoom h = absurd h
fault_said octets limit asn1.File h = absurd h
fault_said octets limit asn1.Memory h = absurd h

pub document_refused : (octets : List ℕ) (limit : ℕ) (e : Error) → (f : Asn1Error) × (e ≡ of_asn1 f) × Fails ⊥ f (read_document octets) → RefusesDocument octets limit (unread e)
document_refused octets limit e (f, is, h) = subst (λ x. RefusesDocument octets limit (unread x)) (sym is) (fault_said octets limit f h)

-- a document that is decrypted
pub opened_key : (s : EncryptionScheme) (p q c m b k : List ℕ) (x : AnyPrivateKey) → p ≡ q → SchemeOpens s p c m → b ≡ m → IsPrivateKey b x → k ≡ m → SchemeOpens s q c k × IsKey k
opened_key s p q c m b k x same o is key more =
    (subst (λ l. SchemeOpens s q c l) (sym more) (subst (λ l. SchemeOpens s l c m) same o), (x, subst (λ l. IsPrivateKey l x) (is ∙ sym more) key))

pub opened_none : (s : EncryptionScheme) (p q c m b : List ℕ) → p ≡ q → SchemeOpens s p c m → b ≡ m → IsNone IsPrivateKey b → OpensToNone s q c
opened_none s p q c m b same o is none = inr (m, subst (λ l. SchemeOpens s l c m) same o, subst (λ l. IsNone IsPrivateKey l) is none)

-- a text that is not written
pub any_writable : {A : Type 0} (p : Option A) → writable_option (λ (a : A). Unit {0}) p
any_writable None = tt
any_writable (Some a) = tt

pub wrapping_refused : (o : ObjectIdentifier) (p : ℕ × List ℕ) (octets text : List ℕ) (writable : Type 0) (e : Asn1Error) → Cause (¬ writable) (IsOverlong (length text)) (Unit {0}) None 0 0 0 e
    → writable → text ≡ wrapped_text o p octets → RefusesToWrap (oid_octets o) p octets (unwritten e)
wrapping_refused o p octets text writable asn1.Malformed h w is = absurd (h w)
wrapping_refused o p octets text writable (asn1.OidUnknown i) h w is = absurd h
wrapping_refused o p octets text writable asn1.Overlength h w is = inr (o, refl, subst (λ l. IsOverlong (length l)) is h)
wrapping_refused o p octets text writable asn1.NoRoom h w is = absurd h
wrapping_refused o p octets text writable asn1.File h w is = absurd (omega arith)
wrapping_refused o p octets text writable asn1.Memory h w is = tt
