-- lemmas only: nothing to believe here
-- The test of documents says what they are.
use Rattle.std.proofs.Common.{◌≡◌, ℕ, List, Result, Ok, Err, refl, IsTrue}
use Rattle.asn1_core.specs.Reading.{Fault, Bad, UnknownOid, whole, inside_at}
use Rattle.asn1_core.specs.Gives.{Fails}
use Rattle.asn1_core.specs.declared.error.Error.{Error}
use Rattle.asn1_core.specs.declared.error.Error.TheVariants as errors
use Rattle.asn1_core.specs.Texts.{Within, Left}
use Rattle.asn1_core.specs.ElementLaws.{inside-exact}
use Rattle.asn1_core.specs.StandLaws.{whole_found, whole_none}
use Rattle.der_core.specs.Document.{IsSequence, is_sequence, was_read}

found : (b v : List ℕ) → whole (inside_at 48) b ≡ Ok v → IsSequence b
found b v e =
    let f = whole_found (Within 48 Left) (inside_at 48) (inside-exact 48 refl) b v e in
    (f.0.0, f.0.2, f.1)

none : (b : List ℕ) (f : Fault) → whole (inside_at 48) b ≡ Err f → IsSequence b → ⊥
none b f e (v, is, short) = whole_none (Within 48 Left) (inside_at 48) (inside-exact 48 refl) b f e v ((v, refl, is), short)

found_in : (b : List ℕ) (r : Result (List ℕ) Fault) → whole (inside_at 48) b ≡ r → IsTrue (was_read r) → IsSequence b
found_in b (Ok v) e h = found b v e
found_in b (Err f) e h = absurd cc

again_in : (b : List ℕ) (r : Result (List ℕ) Fault) → whole (inside_at 48) b ≡ r → IsSequence b → IsTrue (was_read r)
again_in b (Ok v) e h = refl
again_in b (Err f) e h = absurd (none b f e h)

pub sequence_found : (b : List ℕ) → IsTrue (is_sequence b) → IsSequence b
sequence_found b = found_in b (whole (inside_at 48) b) refl

pub sequence_again : (b : List ℕ) → IsSequence b → IsTrue (is_sequence b)
sequence_again b = again_in b (whole (inside_at 48) b) refl

pub sequence_refused : (b : List ℕ) (e : Error) → Fails ⊥ e (whole (inside_at 48) b) → IsSequence b → ⊥
sequence_refused b errors.Malformed h = none b Bad h
sequence_refused b (errors.OidUnknown o) h = none b (UnknownOid o) h
sequence_refused b errors.Overlength h = absurd h
sequence_refused b errors.NoRoom h = absurd h
sequence_refused b errors.File h = absurd h
sequence_refused b errors.Memory h = absurd h
