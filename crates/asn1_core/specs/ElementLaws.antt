-- lemmas only: nothing to believe here
-- The readers of elements are exact.
use Rattle.std.proofs.Common.{◌≡◌, ℕ, ◌+◌, ◌-◌, ◌<◌, ◌≤◌, ◌^◌, Bool, true, false, List, [], ◌∷◌, ◌++◌, length, take, drop, get_or, Result, Ok, Err, Option, Some, None, refl, sym, ap, subst, ◌∙◌, append_assoc, arith, length-append, inl, inr, IsTrue, nat_lt, nat_eq, ◌&&◌}
use Rattle.std.proofs.lemmas.Bool.{cases_lt, ltb-true, le-ltb, lt-ltb, eqb-true, eq-eqb}
use Rattle.std.proofs.lemmas.List.{take_at, drop_at, take-append-drop, length-take, get_or-take}
use Rattle.asn1_core.specs.Der.{el, len, digits, IsShort, is_tag}
use Rattle.asn1_core.specs.Reading.{Fault, Bad, All, Head, ◌>>=◌, where_ok, are_octets, long_at, len_at, header_at, slice_at, valued, by_tag, within, number_on, oid_of, oid_at, left, known_in, raw_of, raw_at, any_tag}
use Rattle.asn1_core.specs.Texts.{Exact, ExactAll, ByTag, Whole, Within, OidOf, Oid, Raw, Left}
use Rattle.asn1_core.specs.Oid.{oid_octets, as_oid, as_oid_at, as_oid_none, as_oid_found}
use Rattle.asn1_core.specs.Identifier.{is_identifier}
use Rattle.asn1_core.specs.declared.identifier.ObjectIdentifier.{ObjectIdentifier}
use Rattle.asn1_core.specs.OctetLaws.{IsOctets, is_octets, both, and_true, digits_octets}
use Rattle.asn1_core.specs.DigitLaws.{Front as Led, digits_one, digits_along, number_digits, front, digits_short}
use Rattle.asn1_core.specs.ExactLaws.{bind_ok, ok_is, where_holds, where_true, IsShort-inside}

pub len_small : (n : ℕ) → n < 128 → len n ≡ n ∷ []
unfolding len
len_small n h = rw (lt-ltb n 128 h, len) refl

pub len_large : (n : ℕ) → 128 ≤ n → len n ≡ (128 + length (digits n)) ∷ digits n
unfolding len
len_large n h = rw (le-ltb n 128 h, len) refl

-- digits that do not begin with 0 are those of their number
digits_of : (bs : List ℕ) → 0 < get_or bs 0 0 → IsOctets bs → digits (number_on 0 bs) ≡ bs
digits_of [] h fits = absurd (omega arith)
digits_of (b ∷ bs) h fits =
    let e : number_on 0 (b ∷ bs) ≡ number_on b bs = ap (λ (n : ℕ). number_on n bs) (omega arith) in
    ap digits e ∙ digits_along b bs h fits.1 ∙ rw (digits_one b fits.0) refl

five : (a b c d e : Bool) → IsTrue (a && b && c && d && e) → IsTrue a × IsTrue b × IsTrue c × IsTrue d × IsTrue e
five true true true true true h = (refl, refl, refl, refl, refl)
five true true true true false h = absurd cc
five true true true false e h = absurd cc
five true true false d e h = absurd cc
five true false c d e h = absurd cc
five false b c d e h = absurd cc

five_true : (a b c d e : Bool) → IsTrue a → IsTrue b → IsTrue c → IsTrue d → IsTrue e → IsTrue (a && b && c && d && e)
five_true a b c d e f g h i j = rw (f, g, h, i, j) refl

long_takes : (k : ℕ) (bytes : List ℕ) (n : ℕ) (rest : List ℕ) → long_at k bytes ≡ Ok (n, rest) → (128 + k) ∷ bytes ≡ len n ++ rest
long_takes k bytes n rest e =
    let m = number_on 0 (take k bytes) in
    let five_of = nat_lt 0 k && nat_lt k 5 && nat_lt k (length bytes + 1) && nat_lt 127 m && nat_lt 0 (get_or bytes 0 0) in
    let w = where_holds (are_octets (take k bytes) && five_of) (m, drop k bytes) (n, rest) e in
    let o = both (are_octets (take k bytes)) five_of w.0 in
    let t = five (nat_lt 0 k) (nat_lt k 5) (nat_lt k (length bytes + 1)) (nat_lt 127 m) (nat_lt 0 (get_or bytes 0 0)) o.1 in
    let t0 : 0 < k = ltb-true 0 k t.0 in
    let t2 : k < length bytes + 1 = ltb-true k (length bytes + 1) t.2 in
    let t3 : 127 < m = ltb-true 127 m t.3 in
    let t4 : 0 < get_or (take k bytes) 0 0 = rw (get_or-take k bytes 0 0 t0) (ltb-true 0 (get_or bytes 0 0) t.4) in
    let size : length (take k bytes) ≡ k = omega (arith, length-take k bytes) in
    let fits' : IsOctets (take k bytes) = is_octets (take k bytes) o.0 in
    let d : digits m ≡ take k bytes = digits_of (take k bytes) t4 fits' in
    let l : len m ≡ (128 + k) ∷ take k bytes = len_large m (omega arith) ∙ rw (d, size) refl in
    subst (λ (x : ℕ × List ℕ). (128 + k) ∷ bytes ≡ len x.0 ++ x.1) w.1 (rw (l) (ap (λ (x : List ℕ). (128 + k) ∷ x) (sym (take-append-drop k bytes))))

pub len_takes : (bytes : List ℕ) (n : ℕ) (rest : List ℕ) → len_at bytes ≡ Ok (n, rest) → bytes ≡ len n ++ rest
unfolding len_at
len_takes [] n rest e = absurd cc
len_takes (b ∷ bs) n rest e =
    elim (cases_lt b 128) [
      | inl lt ↦
          let f = rw (lt-ltb b 128 lt, len_at) at e in
          subst (λ (x : ℕ × List ℕ). b ∷ bs ≡ len x.0 ++ x.1) (ok_is (b, bs) (n, rest) f) (rw (len_small b lt) refl)
      | inr le ↦
          let f : long_at (b - 128) bs ≡ Ok (n, rest) = rw (le-ltb b 128 le, len_at) at e in
          let k : 128 + (b - 128) ≡ b = omega arith in
          subst (λ (c : ℕ). c ∷ bs ≡ len n ++ rest) k (long_takes (b - 128) bs n rest f)
    ]

long_again : (k n : ℕ) (ds rest : List ℕ) → 0 < k → k < 5 → 128 ≤ n → Led ds → length ds ≡ k → number_on 0 ds ≡ n → IsTrue (are_octets ds) → long_at k (ds ++ rest) ≡ Ok (n, rest)
long_again k n ds rest h i le f size num octets =
    let a = take_at ds rest k size in
    let b = drop_at ds rest k size in
    let front : 0 < get_or (ds ++ rest) 0 0 = rw f.is f.positive in
    let long : k < length (ds ++ rest) + 1 = omega (arith, length-append ds rest) in
    rw (a, b, num) (where_true _ (n, rest) (and_true (are_octets ds) _ octets (five_true (nat_lt 0 k) (nat_lt k 5) (nat_lt k (length (ds ++ rest) + 1)) (nat_lt 127 n) (nat_lt 0 (get_or (ds ++ rest) 0 0)) (lt-ltb 0 k h) (lt-ltb k 5 i) (lt-ltb k (length (ds ++ rest) + 1) long) (lt-ltb 127 n (omega arith)) (lt-ltb 0 (get_or (ds ++ rest) 0 0) front))))

pub len_again : (n : ℕ) (rest : List ℕ) → n < 2 ^ 32 → len_at (len n ++ rest) ≡ Ok (n, rest)
unfolding len_at
len_again n rest h =
    elim (cases_lt n 128) [
      | inl lt ↦ rw (len_small n lt) (rw (lt-ltb n 128 lt, len_at) refl)
      | inr le ↦
          let f = front n (omega arith) in
          let k = length (digits n) in
          let some : 0 < k = rw f.is (omega arith) in
          let large : nat_lt (128 + k) 128 ≡ false = le-ltb (128 + k) 128 (omega arith) in
          let same : 128 + k - 128 ≡ k = omega arith in
          rw (len_large n le) (rw (large, len_at) (rw same (long_again k n (digits n) rest some (digits_short n h) le f refl (number_digits n) (digits_octets n))))
    ]

el_text : (tag n : ℕ) (value rest : List ℕ) → length value ≡ n → tag ∷ (len n ++ (value ++ rest)) ≡ el tag value ++ rest
unfolding el
el_text tag n value rest size = rw (size) (ap (λ (y : List ℕ). tag ∷ y) (sym (append_assoc (len n) value rest)))

pub el_length : (tag n : ℕ) (value : List ℕ) → length value ≡ n → length (el tag value) ≡ 1 + length (len n) + n
unfolding el
el_length tag n value size = rw size (omega (arith, length-append (len n) value, size))

-- a header of a tag octet and a length, and what follows it
pub record Headed (b : List ℕ) (tag n : ℕ) (rest : List ℕ) : Type 0 where
  pub ok : IsTrue (is_tag tag)
  pub small : 1 + length (len n) + n < 2 ^ 32
  pub is : b ≡ tag ∷ (len n ++ rest)

pub header_found : (b : List ℕ) (h : Head) (rest : List ℕ) → header_at b ≡ Ok (h, rest) → Headed b h.tag h.size rest
unfolding header_at
header_found [] h rest e = absurd cc
header_found (tag ∷ bytes) h rest e =
    let x = bind_ok (len_at bytes) (λ n. where_ok (is_tag tag && nat_lt (1 + (length bytes - length n.1) + n.0) (2 ^ 32)) (record { tag = tag; size = n.0 }, n.1)) (h, rest) e in
    let n = x.0.0 in
    let r = x.0.1 in
    let made : Head × List ℕ = (record { tag = tag; size = n }, r) in
    let w = where_holds (is_tag tag && nat_lt (1 + (length bytes - length r) + n) (2 ^ 32)) made (h, rest) x.2 in
    let t = both (is_tag tag) (nat_lt (1 + (length bytes - length r) + n) (2 ^ 32)) w.0 in
    let is : bytes ≡ len n ++ r = len_takes bytes n r x.1 in
    let small : 1 + length (len n) + n < 2 ^ 32 = omega (arith, ltb-true (1 + (length bytes - length r) + n) (2 ^ 32) t.1, ap length is, length-append (len n) r) in
    subst (λ (y : Head × List ℕ). Headed (tag ∷ bytes) y.0.tag y.0.size y.1) w.1 (record { ok = t.0; small = small; is = ap (λ (y : List ℕ). tag ∷ y) is })

pub header_again : (tag n : ℕ) (rest : List ℕ) → IsTrue (is_tag tag) → 1 + length (len n) + n < 2 ^ 32 → header_at (tag ∷ (len n ++ rest)) ≡ Ok (record { tag = tag; size = n }, rest)
unfolding header_at
header_again tag n rest ok short =
    let e : len_at (len n ++ rest) ≡ Ok (n, rest) = len_again n rest (omega arith) in
    let small : 1 + (length (len n ++ rest) - length rest) + n < 2 ^ 32 = omega (arith, length-append (len n) rest) in
    rw e (where_true _ (record { tag = tag; size = n }, rest) (and_true (is_tag tag) _ ok (lt-ltb _ _ small)))

pub header_shorter : (b : List ℕ) (h : Head) (rest : List ℕ) → header_at b ≡ Ok (h, rest) → length rest < length b
header_shorter b h rest e = let f = header_found b h rest e in omega (arith, ap length f.is, length-append (len h.size) rest)

pub slice_found : (n : ℕ) (b w rest : List ℕ) → slice_at n b ≡ Ok (w, rest) → (b ≡ w ++ rest) × (length w ≡ n)
slice_found n b w rest e =
    let h = where_holds (nat_lt n (length b + 1)) (take n b, drop n b) (w, rest) e in
    let le = ltb-true n (length b + 1) h.0 in
    subst (λ (y : List ℕ × List ℕ). (b ≡ y.0 ++ y.1) × (length y.0 ≡ n)) h.1 (sym (take-append-drop n b), omega (arith, length-take n b, le))

pub slice_shorter : (n : ℕ) (b w rest : List ℕ) → slice_at n b ≡ Ok (w, rest) → length rest ≤ length b
slice_shorter n b w rest e = let f = slice_found n b w rest e in omega (arith, ap length f.0, length-append w rest)

pub slice_again : (n : ℕ) (w rest : List ℕ) → length w ≡ n → slice_at n (w ++ rest) ≡ Ok (w, rest)
slice_again n w rest size =
    let room : n < length (w ++ rest) + 1 = omega (arith, length-append w rest, size) in
    rw (take_at w rest n size, drop_at w rest n size) (where_true (nat_lt n (length (w ++ rest) + 1)) (w, rest) (lt-ltb _ _ room))

-- a value of n octets that is read
pub valued_found : {A : Type 0} (q : All A) (n : ℕ) (b : List ℕ) (v : A) (rest : List ℕ) → valued q n b ≡ Ok (v, rest) → (w : List ℕ) × (q w ≡ Ok v) × (b ≡ w ++ rest) × (length w ≡ n)
valued_found {A = A} q n b v rest e =
    let x = bind_ok (slice_at n b) (λ w. q w.0 >>= λ v. Ok (v, w.1)) (v, rest) e in
    let y = bind_ok (q x.0.0) (λ v. Ok (v, x.0.1)) (v, rest) x.2 in
    let s = slice_found n b x.0.0 x.0.1 x.1 in
    let o = ok_is (y.0, x.0.1) (v, rest) y.2 in
    subst (λ (u : A × List ℕ). (w : List ℕ) × (q w ≡ Ok u.0) × (b ≡ w ++ u.1) × (length w ≡ n)) o (x.0.0, y.1, s.0, s.1)

pub valued_again : {A : Type 0} (q : All A) (n : ℕ) (w : List ℕ) (v : A) (rest : List ℕ) → q w ≡ Ok v → length w ≡ n → valued q n (w ++ rest) ≡ Ok (v, rest)
valued_again q n w v rest e size = rw (slice_again n w rest size, e) refl

pub by_tag-exact : {A : Type 0} (can : ℕ → Bool) (R : ℕ → List ℕ → A → Type 0) (q : ℕ → All A) → ((t : ℕ) → IsTrue (can t) → ExactAll (R t) (q t)) → Exact (ByTag can R) (by_tag can q)
by_tag-exact {A = A} can R q exact = record {
  found = λ b v rest e.
      let x = bind_ok (header_at b) (λ h. where_ok (can h.0.tag) h >>= λ h. valued (q h.0.tag) h.0.size h.1) (v, rest) e in
      let y = bind_ok (where_ok (can x.0.0.tag) x.0) (λ h. valued (q h.0.tag) h.0.size h.1) (v, rest) x.2 in
      let w = where_holds (can x.0.0.tag) x.0 y.0 y.1 in
      let t = x.0.0.tag in
      let n = x.0.0.size in
      let z : valued (q t) n x.0.1 ≡ Ok (v, rest) = subst (λ (h : Head × List ℕ). valued (q h.0.tag) h.0.size h.1 ≡ Ok (v, rest)) (sym w.1) y.2 in
      let u = valued_found (q t) n x.0.1 v rest z in
      let h = header_found b x.0.0 x.0.1 x.1 in
      let is : b ≡ el t u.0 ++ rest = h.is ∙ ap (λ (l : List ℕ). t ∷ (len n ++ l)) u.2 ∙ el_text t n u.0 rest u.3 in
      record { text = el t u.0; holds = (t, u.0, h.ok, w.0, (exact t w.0).found u.0 v u.1, refl); short = omega (arith, el_length t n u.0 u.3, h.small); is = is };
  again = λ b v rest r short.
      let t = r.0 in
      let w = r.1 in
      let s : IsShort (el t w) = subst IsShort r.5 short in
      let is : b ++ rest ≡ t ∷ (len (length w) ++ (w ++ rest)) = ap (λ (l : List ℕ). l ++ rest) r.5 ∙ sym (el_text t (length w) w rest refl) in
      let h = header_again t (length w) (w ++ rest) r.2 (omega (arith, el_length t (length w) w refl, s)) in
      let e = (exact t r.3).again w v r.4 (IsShort-inside t w s) in
      ap (by_tag can q) is ∙ rw h (rw r.3 (valued_again (q t) (length w) w v rest e refl));
}

pub within-exact : {A : Type 0} (tag : ℕ) (R : List ℕ → A → Type 0) (q : All A) → IsTrue (is_tag tag) → ExactAll R q → Exact (Within tag R) (within tag q)
within-exact {A = A} tag R q ok exact =
    let e = by_tag-exact (λ t. nat_eq t tag) (λ t. R) (λ t. q) (λ t h. exact) in
    record {
      found = λ b v rest is.
          let f = e.found b v rest is in
          let r = f.holds in
          record { text = f.text; holds = (r.1, r.4, r.5 ∙ ap (λ (t : ℕ). el t r.1) (eqb-true r.0 tag r.3)); short = f.short; is = f.is };
      again = λ b v rest r short. e.again b v rest (tag, r.0, ok, eq-eqb tag tag refl, r.1, r.2) short;
    }

abbrev done : List ℕ → Result (List ℕ) Fault
done w = Ok w

pub left-exact : ExactAll Left left
left-exact = record { found = λ b v e. sym (ok_is b v e); again = λ b v r short. ap done (sym r) }

known_ok : (x : Option ObjectIdentifier) (o : ObjectIdentifier) → known_in Bad x ≡ Ok o → x ≡ Some o
known_ok None o e = absurd cc
known_ok (Some p) o e = let f : p ≡ o = cc in ap (λ (q : ObjectIdentifier). Some q) f

pub oid_reads : (b : List ℕ) (o : ObjectIdentifier) → oid_octets o ≡ b → oid_of b ≡ Ok o
oid_reads b o e = ap (known_in Bad) (as_oid_at b o e)

pub oid_reads_none : (b : List ℕ) → is_identifier b ≡ false → oid_of b ≡ Err Bad
oid_reads_none b e = ap (known_in Bad) (as_oid_none b e)

pub oid_of-exact : ExactAll OidOf oid_of
oid_of-exact = record {
  found = λ b o e. sym (as_oid_found b o (known_ok (as_oid b) o e));
  again = λ b o r short. oid_reads b o (sym r);
}

pub by_tag-whole : {A : Type 0} (can : ℕ → Bool) (R : ℕ → List ℕ → A → Type 0) → Whole can (ByTag can R)
by_tag-whole can R b v r = (r.0, r.1, r.2, r.3, r.5)

pub within-whole : {A : Type 0} (tag : ℕ) (R : List ℕ → A → Type 0) → IsTrue (is_tag tag) → Whole (λ t. nat_eq t tag) (Within tag R)
within-whole tag R ok b v r = (tag, r.0, ok, eq-eqb tag tag refl, r.2)

pub oid-exact : Exact Oid oid_at
oid-exact = within-exact 0x06 OidOf oid_of refl oid_of-exact

pub inside-exact : (tag : ℕ) → IsTrue (is_tag tag) → Exact (Within tag Left) (within tag left)
inside-exact tag ok = within-exact tag Left left ok left-exact

raw_of-exact : (t : ℕ) → ExactAll (λ w v. v ≡ el t w) (raw_of t)
raw_of-exact t = record { found = λ w v e. sym (ok_is (el t w) v e); again = λ w v r short. ap done (sym r) }

pub raw-exact : Exact Raw raw_at
unfolding raw_at
raw-exact =
    let e = by_tag-exact any_tag (λ t w v. v ≡ el t w) raw_of (λ t h. raw_of-exact t) in
    record {
      found = λ b v rest is.
          let f = e.found b v rest is in
          let r = f.holds in
          record { text = f.text; holds = (r.4 ∙ sym r.5, (r.0, r.1, r.2, r.5)); short = f.short; is = f.is };
      again = λ b v rest r short. e.again b v rest (r.1.0, r.1.1, r.1.2, refl, r.0 ∙ r.1.3, r.1.3) short;
    }

-- the element in front is what is before the rest
pub raw_reads : (b : List ℕ) (h : Head) (behind w rest : List ℕ) → header_at b ≡ Ok (h, behind) → slice_at h.size behind ≡ Ok (w, rest) → raw_at b ≡ Ok (take (length b - length rest) b, rest)
unfolding raw_at
raw_reads b h behind w rest e f =
    let g = header_found b h behind e in
    let s = slice_found h.size behind w rest f in
    let is : b ≡ el h.tag w ++ rest = g.is ∙ ap (λ (l : List ℕ). h.tag ∷ (len h.size ++ l)) s.0 ∙ el_text h.tag h.size w rest s.1 in
    let size : length b - length rest ≡ length (el h.tag w) = omega (arith, ap length is, length-append (el h.tag w) rest) in
    let front : take (length b - length rest) b ≡ el h.tag w = rw size (ap (take (length (el h.tag w))) is ∙ take_at (el h.tag w) rest (length (el h.tag w)) refl) in
    rw (e, f, front) refl
