-- Lists of contents are read, and written with the encrypted octets in one, exactly.
use Rattle.std.proofs.Common.{◌≡◌, ℕ, ◌^◌, List, [], ◌∷◌, ◌++◌, length, Ok, Err, refl, sym, ap, subst, ◌∙◌, inl, inr, IsTrue, nat_lt, nat_eq}
use Rattle.std.specs.Prelude.{Result}
use Rattle.std.specs.Str.{bytes_eq}
use Rattle.std.proofs.lemmas.Slice.Eq.{bytes_eq-Decides}
use Rattle.std.proofs.lemmas.Bool.{eqb-true, lt-ltb, ltb-true}
use Rattle.asn1_core.specs.Der.{IsElement, IsShort, ctx, el, joined, oid, pctx, seq, uint}
use Rattle.asn1_core.specs.ElementLaws.{inside-exact, oid-exact, raw-exact, within-exact}
use Rattle.asn1_core.specs.ExactLaws.{IsShort-inside, IsShort-left, IsShort-right, bind_ok, made-exact, many-exact, ok_is, where_holds, where_true}
use Rattle.asn1_core.specs.FieldLaws.{all_of, el_some, end, explicit, field, inside, sequence, the-exact, variant, within_some}
use Rattle.asn1_core.specs.Gives.{IsNone}
use Rattle.asn1_core.specs.NumberLaws.{uint-exact}
use Rattle.asn1_core.specs.Oid.{octets-oid_of, oid_octets, same_oid}
use Rattle.asn1_core.specs.Reading.{All, Fault, ◌>>=◌, inside_at, many, raw_at, whole, within}
use Rattle.asn1_core.specs.StandLaws.{whole_found}
use Rattle.asn1_core.specs.Texts.{Exact, ExactAll, Inside, Made, Many, Within}
use Rattle.asn1_core.specs.declared.identifier.ObjectIdentifier.{ObjectIdentifier}
use Rattle.p12.specs.Identifiers.{data_identifier, data_oid, encrypted_data_oid}
use Rattle.legacy_store.specs.Joined.{JoinedContent, JoinedSafe, PartedContent, PartedDataText, PartedInfoText, PartedText, Strings, encrypted_data_identifier, encrypted_text}
use Rattle.legacy_store.specs.JoinedReading.{content_text, info_text, joined_all, joined_at, joined_content, joined_safe, parted_at, parted_data_at, parted_info_at, sealed, short_el, text_or}

-- ---- Contents in parts

module _ (o : List ℕ) (k : ObjectIdentifier) (is : oid_octets k ≡ o) where
  is_known : (j : ObjectIdentifier) → IsTrue (bytes_eq (oid_octets j) o) → j ≡ k
  is_known j t = same_oid j k ((bytes_eq-Decides (oid_octets j) o).0 t ∙ sym is)

  known_is : IsTrue (bytes_eq (oid_octets k) o)
  known_is = (bytes_eq-Decides (oid_octets k) o).1 is

strings-exact : ExactAll Strings (joined_all (inside_at 0x04))
strings-exact = variant joined (many-exact (Inside 0x04) (inside_at 0x04) (inside-exact 0x04 refl) (within_some 0x04 _))

abbrev made_parted : List ℕ → List ℕ → PartedContent
made_parted a v = record { algorithm = a; octets = v }

parted_info-exact : Exact PartedInfoText parted_info_at
unfolding parted_info_at
parted_info-exact =
    let same = octets-oid_of data_oid refl in
    sequence 0x30 refl (field (λ p. tt) (the-exact (λ o. bytes_eq (oid_octets o) data_oid) data_identifier (is_known data_oid data_identifier same) (known_is data_oid data_identifier same) oid-exact) (λ u. field (λ p. p.algorithm) raw-exact (λ a. field (λ p. p.octets) (inside 0xa0 refl strings-exact) (λ v.
    end (made_parted a v) (((tt, refl), refl), refl) (λ w c i. made_parted (c.0.1 i) (c.1 i))))))

parted_data-exact : Exact PartedDataText parted_data_at
unfolding parted_data_at
parted_data-exact =
    sequence 0x30 refl (field (λ p. tt) (the-exact (λ n. nat_eq n 0) 0 (λ n t. eqb-true n 0 t) refl (uint-exact 0xff)) (λ u. field (λ p. p) parted_info-exact (λ p. end p ((tt, refl), refl) (λ w c. c.1))))

parted-exact : Exact PartedText parted_at
unfolding parted_at
parted-exact =
    let encrypted = octets-oid_of encrypted_data_oid refl in
    sequence 0x30 refl (field (λ p. tt) (the-exact (λ o. bytes_eq (oid_octets o) encrypted_data_oid) encrypted_data_identifier (is_known encrypted_data_oid encrypted_data_identifier encrypted) (known_is encrypted_data_oid encrypted_data_identifier encrypted) oid-exact)
    (λ u. field (λ p. p) (explicit 0xa0 refl parted_data-exact) (λ p. end p ((tt, refl), refl) (λ w c. c.1))))

-- ---- Their text

short_is : (tag : ℕ) (v e : List ℕ) → short_el tag v ≡ Ok e → (e ≡ el tag v) × IsShort e
short_is tag v e h =
    let w = where_holds (nat_lt (length (el tag v)) (2 ^ 32)) (el tag v) e h in
    (sym w.1, subst IsShort w.1 (ltb-true (length (el tag v)) (2 ^ 32) w.0))

is_short : (tag : ℕ) (v : List ℕ) → IsShort (el tag v) → short_el tag v ≡ Ok (el tag v)
is_short tag v h = where_true _ (el tag v) (lt-ltb (length (el tag v)) (2 ^ 32) h)

info_is : (p : PartedContent) (e : List ℕ) → info_text p ≡ Ok e → e ≡ seq (oid data_oid ++ p.algorithm ++ pctx 0 p.octets)
unfolding info_text
info_is p e h =
    let x = bind_ok (short_el 0x80 p.octets) (λ x. short_el 0x30 (oid data_oid ++ p.algorithm ++ x)) e h in
    (short_is 0x30 _ e x.2).0 ∙ ap (λ (l : List ℕ). seq (oid data_oid ++ p.algorithm ++ l)) (short_is 0x80 p.octets x.0 x.1).0

content_is : (p : PartedContent) (e : List ℕ) → content_text p ≡ Ok e → (e ≡ encrypted_text p) × IsShort e
unfolding content_text
content_is p e h =
    let x = bind_ok (info_text p) (λ x. short_el 0x30 (uint 0 ++ x) >>= λ x. short_el 0xa0 x >>= λ x. short_el 0x30 (oid encrypted_data_oid ++ x)) e h in
    let y = bind_ok (short_el 0x30 (uint 0 ++ x.0)) (λ x. short_el 0xa0 x >>= λ x. short_el 0x30 (oid encrypted_data_oid ++ x)) e x.2 in
    let z = bind_ok (short_el 0xa0 y.0) (λ x. short_el 0x30 (oid encrypted_data_oid ++ x)) e y.2 in
    let last = short_is 0x30 _ e z.2 in (
      last.0 ∙ ap (λ (l : List ℕ). seq (oid encrypted_data_oid ++ l)) ((short_is 0xa0 _ z.0 z.1).0 ∙ ap (λ (l : List ℕ). ctx 0 l) ((short_is 0x30 _ y.0 y.1).0 ∙ ap (λ (l : List ℕ). seq (uint 0 ++ l)) (info_is p x.0 x.1))),
      last.1,
    )

is_content : (p : PartedContent) → IsShort (encrypted_text p) → content_text p ≡ Ok (encrypted_text p)
unfolding content_text info_text
is_content p h =
    let four = IsShort-right (oid encrypted_data_oid) _ (IsShort-inside 0x30 _ h) in
    let three = IsShort-inside 0xa0 _ four in
    let two = IsShort-right (uint 0) _ (IsShort-inside 0x30 _ three) in
    let one = IsShort-right (oid data_oid ++ p.algorithm) _ (IsShort-inside 0x30 _ two) in
    rw (is_short 0x80 p.octets one, is_short 0x30 (oid data_oid ++ p.algorithm ++ pctx 0 p.octets) two) (rw (is_short 0x30 _ three, is_short 0xa0 _ four) (is_short 0x30 _ h))

-- ---- Joining

abbrev Short : (List ℕ → List ℕ → Type 0) → List ℕ → List ℕ → Type 0
Short R q e = R q e × IsShort e

joined_found : (q e : List ℕ) (r : Result PartedContent Fault) → IsElement q → IsShort q → r ≡ whole parted_at q → text_or q r ≡ Ok e → Short JoinedContent q e
joined_found q e (Ok p) is short same h =
    let c = content_is p e h in
    (inl (p, (all_of parted-exact).found q p (sym same), c.0), c.1)
joined_found q e (Err f) is short same h =
    let k : q ≡ e = ok_is q e h in
    (inr (is, (λ p r. absurd (let both : Err f ≡ Ok p = same ∙ (all_of parted-exact).again q p r short in cc)), sym k), subst IsShort k short)

is_parted : (q : List ℕ) (p : PartedContent) → PartedText q p → IsElement q
is_parted q p r = (0x30, r.0, refl, r.2)

is_element : (q e : List ℕ) → JoinedContent q e → IsElement q
is_element q e (inl (p, r, h)) = is_parted q p r
is_element q e (inr (is, none, h)) = is

not_parted : (q e : List ℕ) (r : Result PartedContent Fault) → IsNone PartedText q → e ≡ q → r ≡ whole parted_at q → text_or q r ≡ Ok e
not_parted q e (Ok p) none h same = absurd (none p ((all_of parted-exact).found q p (sym same)))
not_parted q e (Err f) none h same = ap (λ (l : List ℕ). Ok l) (sym h)

joined_again : (q e : List ℕ) → IsShort q → IsShort e → JoinedContent q e → joined_content q ≡ Ok e
unfolding joined_content
joined_again q e short so (inl (p, r, h)) = rw ((all_of parted-exact).again q p r short) (is_content p (subst IsShort h so) ∙ ap (λ (l : List ℕ). Ok l) (sym h))
joined_again q e short so (inr (is, none, h)) = not_parted q e (whole parted_at q) none h refl

joined_at-exact : Exact (Short JoinedContent) joined_at
unfolding joined_at joined_content
joined_at-exact = record {
  found = λ b e rest h.
      let x = bind_ok (raw_at b) (λ x. joined_content x.0 >>= λ e. Ok (e, x.1)) (e, rest) h in
      let y = bind_ok (joined_content x.0.0) (λ e. Ok (e, x.0.1)) (e, rest) x.2 in
      let t = raw-exact.found b x.0.0 x.0.1 x.1 in
      let pair = ok_is (y.0, x.0.1) (e, rest) y.2 in
      let is : x.0.0 ≡ t.text = t.holds.0 in
      let j = joined_found x.0.0 y.0 (whole parted_at x.0.0) (subst IsElement (sym is) t.holds.1) (subst IsShort (sym is) t.short) refl y.1 in
      record {
        text = x.0.0;
        holds = subst (λ (l : List ℕ). Short JoinedContent x.0.0 l) (ap (λ (z : List ℕ × List ℕ). z.0) pair) j;
        short = subst IsShort (sym is) t.short;
        is = t.is ∙ ap (λ (l : List ℕ). l ++ x.0.1) (sym is) ∙ ap (λ (l : List ℕ). x.0.0 ++ l) (ap (λ (z : List ℕ × List ℕ). z.1) pair);
      };
  again = λ t e rest r short. rw (raw-exact.again t t rest (refl, is_element t e r.0) short) (rw (joined_again t e short r.1 r.0) refl);
}

-- ---- Lists of contents

abbrev Sealed : (List ℕ → List ℕ → Type 0) → List ℕ → List ℕ → Type 0
Sealed R b e = (v : List ℕ) × R b v × (e ≡ seq v) × IsShort e

sealed-exact : (R : List ℕ → List ℕ → Type 0) (p : All (List ℕ)) → ExactAll R p → ExactAll (Sealed R) (sealed p)
sealed-exact R p exact = record {
  found = λ b e h.
      let x = bind_ok (p b) (λ x. short_el 0x30 x) e h in
      let s = short_is 0x30 x.0 e x.2 in
      (x.0, exact.found b x.0 x.1, s.0, s.1);
  again = λ b e r short. rw (exact.again b r.0 r.1 short) (is_short 0x30 r.0 (subst IsShort r.2 r.3) ∙ ap (λ (l : List ℕ). Ok l) (sym r.2));
}

no_text : (e : List ℕ) → Short JoinedContent [] e → ⊥
no_text e r = el_some _ _ (is_element [] e r.0).3

list-exact : Exact (Within 0x30 (Sealed (Made joined (Many (Short JoinedContent))))) (within 0x30 (sealed (joined_all joined_at)))
list-exact = within-exact 0x30 _ _ refl (sealed-exact _ _ (made-exact joined (Many (Short JoinedContent)) (many joined_at) (many-exact (Short JoinedContent) joined_at joined_at-exact no_text)))

each_joined : (b : List ℕ) (es : List (List ℕ)) → Many (Short JoinedContent) b es → Many JoinedContent b es
each_joined b [] m = m
each_joined b (e ∷ es) (p, q, r, m, is) = (p, q, r.0, each_joined q es m, is)

each_short : (b : List ℕ) (es : List (List ℕ)) → IsShort (joined es) → Many JoinedContent b es → Many (Short JoinedContent) b es
each_short b [] short m = m
each_short b (e ∷ es) short (p, q, r, m, is) = (p, q, (r, IsShort-left e (joined es) short), each_short q es (IsShort-right e (joined es) short) m, is)

pub safe_joined : (d e : List ℕ) → joined_safe d ≡ Ok e → JoinedSafe d e × IsShort e
unfolding JoinedSafe joined_safe
safe_joined d e h =
    let f = whole_found _ _ list-exact d e h in
    let s = f.0.1 in
    ((s.1.0, (f.0.0, each_joined f.0.0 s.1.0 s.1.1, f.0.2), s.2 ∙ ap seq s.1.2, f.1), s.3)

pub joined_is_read : (d e : List ℕ) → JoinedSafe d e → IsShort e → joined_safe d ≡ Ok e
unfolding JoinedSafe joined_safe
joined_is_read d e (es, (b, m, el), is, short) so =
    let inner = IsShort-inside 0x30 (joined es) (subst IsShort is so) in
    (all_of list-exact).again d e (b, (joined es, (es, each_short b es inner m, refl), is, so), el) short

-- A list of contents has one text.
pub one_joined : (d e f : List ℕ) → JoinedSafe d e → IsShort e → JoinedSafe d f → IsShort f → e ≡ f
one_joined d e f is short also so = ok_is e f (sym (joined_is_read d e is short) ∙ joined_is_read d f also so)
