-- An identifier's octets from its arcs.
use Rattle.std.specs.Prelude.{◌↔◌, Result, Ok, Err, IfOk, IfErr, IsOk, IsTrue}
use Rattle.std.proofs.Common.{◌≡◌, ℕ, zero, suc, ◌+◌, ◌*◌, ◌-◌, ◌/◌, ◌%◌, ◌^◌, ◌<◌, ◌≤◌, List, [], ◌∷◌, ◌++◌, length, drop, set, get_or, refl, sym, ap, ◌∙◌, arith, append_assoc, length-append, pow-suc, drop-cons, add-one}
use Rattle.std.proofs.lemmas.List.{drop-set}
use Rattle.asn1_core.specs.Identifier.{high, sub, subs, AllUnder, is_identifier}
use Rattle.asn1_core.specs.Arcs.{HasArcs, NoneHas}
use Rattle.asn1_core.specs.Oid.{oid_octets}
use Rattle.asn1_core.specs.declared.identifier.ObjectIdentifier.{ObjectIdentifier}
use Rattle.asn1_core.specs.declared.error.Error.{Error}
use Rattle.asn1_core.specs.declared.error.Error.TheVariants.{Malformed}
use Rattle.asn1_core.proofs.Identifiers.{high_split, high_zero}
use Rattle.asn1_core.proofs.ArcsRead.{arcs_again}

pub base_fits : (from m : ℕ) → 0 < m → m < 128 ^ from → (0 < from) × (m / 128 < 128 ^ (from - 1))
base_fits zero m h lt = absurd (omega arith)
base_fits (suc k) m h lt =
    let p = pow-suc 128 k in
    let r : m / 128 < 128 ^ k = omega (arith, lt, p) in
    let q : suc k - 1 ≡ k = omega arith in
    (omega arith, rw q r)

pub base_step : (n m from : ℕ) (octets : List ℕ) → 0 < m → 0 < from → from < length octets
    → sub n ≡ high m ++ drop from octets → sub n ≡ high (m / 128) ++ drop (from - 1) (set octets (from - 1) (128 + m % 128))
base_step n m from octets h pos lt is =
    let k : from - 1 + 1 ≡ from = omega arith in
    let d : drop (from - 1) (set octets (from - 1) (128 + m % 128)) ≡ (128 + m % 128) ∷ drop from octets = drop-set octets (from - 1) (128 + m % 128) (omega arith) ∙ ap (λ (i : ℕ). (128 + m % 128) ∷ drop i octets) k in
    is ∙ ap (λ (x : List ℕ). x ++ drop from octets) (high_split m h) ∙ append_assoc (high (m / 128)) ((128 + m % 128) ∷ []) (drop from octets) ∙ ap (λ (x : List ℕ). high (m / 128) ++ x) (sym d)

pub base_done : (n m from : ℕ) (octets : List ℕ) → m ≤ 0 → sub n ≡ high m ++ drop from octets → drop from octets ≡ sub n
base_done n m from octets h is = let z : m ≡ 0 = omega (arith, h) in sym (is ∙ ap (λ (x : ℕ). high x ++ drop from octets) z ∙ ap (λ (x : List ℕ). x ++ drop from octets) high_zero)

-- one number more
subs_cons : (i : ℕ) (rest : List ℕ) → i < length rest → subs (drop i rest) ≡ sub (get_or rest i 0) ++ subs (drop (i + 1) rest)
subs_cons i rest h = ap subs (drop-cons rest i 0 h) ∙ ap (λ (k : ℕ). sub (get_or rest i 0) ++ subs (drop k rest)) (sym (add-one i))

pub put_long : (all old rest : List ℕ) (n i : ℕ) → i < length rest → n ≡ get_or rest i 0 → all ≡ old ++ subs (drop i rest) → 39 < length old + length (sub n) → 39 < length all
put_long all old rest n i h e is lt =
    let l = ap length (is ∙ ap (λ (x : List ℕ). old ++ x) (subs_cons i rest h) ∙ ap (λ (m : ℕ). old ++ (sub m ++ subs (drop (i + 1) rest))) (sym e)) in
    omega (arith, l, lt, length-append old (sub n ++ subs (drop (i + 1) rest)), length-append (sub n) (subs (drop (i + 1) rest)))

-- ---- arcs that an identifier has

pub all_under : (xs : List ℕ) → ((i : ℕ) → get_or xs i 0 < 2 ^ 32) → AllUnder (2 ^ 32) xs
all_under [] h = tt
all_under (n ∷ ns) h = (h 0, all_under ns (λ i. h (suc i)))

opened : (list : List ℕ) → 2 ≤ length list → list ≡ get_or list 0 0 ∷ get_or list 1 0 ∷ drop 2 list
opened [] h = absurd (omega (arith, h))
opened (a ∷ []) h = absurd (omega (arith, h))
opened (a ∷ b ∷ ns) h = refl

under_drop : (k : ℕ) (xs : List ℕ) → ((i : ℕ) → get_or xs i 0 < 2 ^ 32) → AllUnder (2 ^ 32) (drop k xs)
under_drop zero xs h = all_under xs h
under_drop (suc k) [] h = tt
under_drop (suc k) (n ∷ ns) h = under_drop k ns (λ i. h (suc i))

pub has_arcs : (list o : List ℕ) (first : ℕ) → 2 ≤ length list → get_or list 0 0 ≤ 2 → (get_or list 0 0 < 2 → get_or list 1 0 ≤ 39) → first ≡ 40 * get_or list 0 0 + get_or list 1 0 → first < 2 ^ 32
    → ((i : ℕ) → get_or list i 0 < 2 ^ 32) → o ≡ subs (first ∷ drop 2 list) → length o ≤ 39 → HasArcs o list
has_arcs list o first two a b is lt all made le =
    let same : 40 * get_or list 0 0 + get_or list 1 0 < 2 ^ 32 = omega (arith, is, lt) in
    (get_or list 0 0, get_or list 1 0, drop 2 list, opened list two, a, b, (same, under_drop 2 list all), made ∙ ap (λ (n : ℕ). subs (n ∷ drop 2 list)) is, le)

pub made_ok : (r : Result ObjectIdentifier Error) (bytes list : List ℕ) → IfOk r (λ o. oid_octets o ≡ bytes) → HasArcs bytes list → IfOk r (λ o. HasArcs (oid_octets o) list)
made_ok (Ok o) bytes list e h = rw e h
made_ok (Err e) bytes list i h = tt

pub made_err : (r : Result ObjectIdentifier Error) (bytes list : List ℕ) → (IsOk r ↔ IsTrue (is_identifier bytes)) → HasArcs bytes list → IfErr r (λ e. (e ≡ Malformed) × NoneHas list)
made_err (Ok o) bytes list i h = tt
made_err (Err e) bytes list i h = let k : IsOk {T = ObjectIdentifier} {E = Error} (Err e) = i.1 (arcs_again bytes list h).0 in absurd cc
