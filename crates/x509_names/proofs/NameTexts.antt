-- Names are read exactly, and written from their last part to the first.
use Rattle.std.proofs.Common.{◌≡◌, ◌≢◌, ℕ, zero, suc, ◌<◌, true, false, List, [], ◌∷◌, ◌++◌, Some, None, ◌≤◌, Ok, Err, Result, add-one, drop, get_or, length, map, ◌+◌, refl, sym, ap, ◌∙◌, arith, inl, inr}
use Rattle.std.proofs.lemmas.List.{map-append}
use Rattle.std.specs.Str.{bytes_eq}
use Rattle.asn1_core.specs.Reading.{Bad, Fault, Front, UnknownOid, ◌>>=◌, inside_at, many, many_in, raw_at, whole}
use Rattle.asn1_core.specs.Gives.{GivesIn, ParsesIn}
use Rattle.asn1_core.specs.declared.error.Error.{Error}
use Rattle.asn1_core.specs.declared.error.Error.TheVariants as errors
use Rattle.asn1_core.specs.declared.identifier.ObjectIdentifier.{ObjectIdentifier}
use Rattle.asn1_core.specs.Texts.{Exact, Inside, Many, Raw}
use Rattle.asn1_core.specs.Fields.{Sequence}
use Rattle.asn1_core.specs.FieldLaws.{checked-exact, el_some}
use Rattle.asn1_core.specs.ExactLaws.{ended-exact, many-exact, on-exact}
use Rattle.asn1_core.specs.ElementLaws.{inside-exact, raw-exact, within-exact}
use Rattle.asn1_core.specs.FaultLaws.{OnlyBad, ended_bad, on_bad, where_bad, whole_bad, within_bad}
use Rattle.asn1_core.specs.StandLaws.{whole_found, whole_none}
use Rattle.x509_names.specs.Names.{AttributeText, IsName, NameAttribute, RelativeText, has_some, name_attribute, name_in}
use Rattle.x509_names.specs.NamesReading.{attribute_all, attribute_at, name_at, relative_at}
use Rattle.x509_names.proofs.CertificateFronts.{inside_bad, raw_bad}

-- ---- Rows

attribute_read : Exact AttributeText attribute_at
unfolding attribute_at attribute_all
attribute_read = within-exact 0x30 _ _ refl (on-exact (Inside 0x06) _ (inside_at 0x06) _ (inside-exact 0x06 refl) (λ kind.
    on-exact Raw _ raw_at _ raw-exact (λ value. ended-exact (name_attribute kind value))))

attribute_some : (v : NameAttribute) → AttributeText [] v → ⊥
attribute_some v r = el_some 0x30 r.0 r.2

relative_read : Exact RelativeText relative_at
unfolding relative_at
relative_read = within-exact 0x31 _ _ refl (checked-exact has_some (many-exact AttributeText attribute_at attribute_read attribute_some))

relative_some : (v : List NameAttribute) → RelativeText [] v → ⊥
relative_some v r = el_some 0x31 r.0 r.2

name_read : Exact (Sequence (Many RelativeText)) name_at
unfolding name_at
name_read = within-exact 0x30 _ _ refl (many-exact RelativeText relative_at relative_read relative_some)

-- ---- Faults

bind_bad : {A B : Type 0} (r : Result A Fault) (f : A → Result B Fault) (o : ObjectIdentifier) → (r ≢ Err (UnknownOid o)) → ((x : A) → f x ≢ Err (UnknownOid o)) → (r >>= f) ≢ Err (UnknownOid o)
bind_bad (Ok x) f o h k e = k x e
bind_bad (Err Bad) f o h k e = absurd cc
bind_bad (Err (UnknownOid p)) f o h k e = let same : UnknownOid p ≡ UnknownOid o = cc in absurd (h (ap (λ (q : Fault). Err q) same))

many_in_bad : {A : Type 0} (p : Front A) → OnlyBad p → (k : ℕ) → OnlyBad (many_in p k)
many_in_bad p h zero [] o e = absurd cc
many_in_bad p h zero (b ∷ bs) o e = absurd cc
many_in_bad p h (suc k) [] o e = absurd cc
many_in_bad p h (suc k) (b ∷ bs) o e = bind_bad (p (b ∷ bs)) _ o (h (b ∷ bs) o) (λ x. bind_bad (many_in p k x.1) _ o (many_in_bad p h k x.1 o) (λ vs f. absurd cc)) e

many_bad : {A : Type 0} (p : Front A) → OnlyBad p → OnlyBad (many p)
many_bad p h b = many_in_bad p h (length b) b

attribute_bad : OnlyBad attribute_at
unfolding attribute_at attribute_all
attribute_bad = within_bad 0x30 _ (on_bad _ _ (inside_bad 0x06) (λ kind. on_bad _ _ raw_bad (λ value. ended_bad (name_attribute kind value))))

relative_bad : OnlyBad relative_at
unfolding relative_at
relative_bad = within_bad 0x31 _ (λ b o. bind_bad (many attribute_at b) _ o (many_bad attribute_at attribute_bad b o) (λ v. where_bad (has_some v) v o))

name_bad : OnlyBad name_at
unfolding name_at
name_bad = within_bad 0x30 _ (many_bad relative_at relative_bad)

pub parses_name : {X : Type 0} (view : X → List (List NameAttribute)) (b : List ℕ) (r : Result X Error) → GivesIn view r (whole name_at b)
    → ParsesIn errors.Memory errors.Malformed IsName view b r
parses_name view b (Ok x) e = whole_found (Sequence (Many RelativeText)) name_at name_read b (view x) e
parses_name view b (Err errors.Malformed) h = inr (refl, whole_none (Sequence (Many RelativeText)) name_at name_read b Bad h)
parses_name view b (Err (errors.OidUnknown o)) h = absurd (whole_bad name_at name_bad b o h)
parses_name view b (Err errors.Overlength) h = absurd h
parses_name view b (Err errors.NoRoom) h = absurd h
parses_name view b (Err errors.File) h = absurd h
parses_name view b (Err errors.Memory) h = inl refl

-- ---- Lists

row_first : {A B : Type 0} (g : A → B) (rows : List A) (d : A) (i : ℕ) → i < length rows → drop i (map g rows) ≡ g (get_or rows i d) ∷ drop (suc i) (map g rows)
row_first g [] d i h = absurd (omega arith)
row_first g (x ∷ xs) d zero h = refl
row_first g (x ∷ xs) d (suc i) h = row_first g xs d i (omega arith)

nothing_left : {A B : Type 0} (g : A → B) (rows : List A) (i : ℕ) → length rows ≤ i → drop i (map g rows) ≡ []
nothing_left g [] zero h = refl
nothing_left g [] (suc i) h = refl
nothing_left g (x ∷ xs) zero h = absurd (omega arith)
nothing_left g (x ∷ xs) (suc i) h = nothing_left g xs i (omega arith)

-- ---- Writing

pub map_more : {A B : Type 0} (f : A → B) (xs : List A) (x : A) → map f (xs ++ x ∷ []) ≡ map f xs ++ f x ∷ []
map_more f xs x = map-append f xs (x ∷ [])

-- ---- The table of names

-- the row at place i names the kind
pub row_found : {A : Type 0} (g : A → List ℕ × List ℕ) (rows : List A) (d : A) (i : ℕ) (kind : List ℕ) → i < length rows
    → name_in (drop i (map g rows)) kind ≡ name_in (map g rows) kind → bytes_eq kind (g (get_or rows i d)).0 ≡ true → name_in (map g rows) kind ≡ Some (g (get_or rows i d)).1
row_found g rows d i kind h so_far same = sym so_far ∙ ap (λ l. name_in l kind) (row_first g rows d i h) ∙ rw same refl

-- the row at place i does not
pub row_passed : {A : Type 0} (g : A → List ℕ × List ℕ) (rows : List A) (d : A) (i : ℕ) (kind : List ℕ) → i < length rows
    → name_in (drop i (map g rows)) kind ≡ name_in (map g rows) kind → bytes_eq kind (g (get_or rows i d)).0 ≡ false
    → name_in (drop (i + 1) (map g rows)) kind ≡ name_in (map g rows) kind
row_passed g rows d i kind h so_far other = rw add-one (sym (ap (λ l. name_in l kind) (row_first g rows d i h) ∙ rw other refl) ∙ so_far)

-- no row does
pub rows_passed : {A : Type 0} (g : A → List ℕ × List ℕ) (rows : List A) (i : ℕ) (kind : List ℕ) → length rows ≤ i
    → name_in (drop i (map g rows)) kind ≡ name_in (map g rows) kind → name_in (map g rows) kind ≡ None
rows_passed g rows i kind h so_far = sym so_far ∙ ap (λ l. name_in l kind) (nothing_left g rows i h)
