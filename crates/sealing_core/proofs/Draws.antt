-- Octets that are drawn one after the other.
use Rattle.std.proofs.Common.{ℕ, ◌≡◌, ◌+◌, ◌*◌, ◌≤◌, ◌<◌, List, [], ◌∷◌, ◌++◌, length, refl, sym, ap, ◌∙◌, arith, subst, take, get_or}
use Rattle.std.specs.Prelude.{All, Option, Some, None, IfSome}
use Rattle.std.specs.List.{slice_get}
use Rattle.std.specs.Io.KnownBytes.{Consumes}
use Rattle.std.proofs.lemmas.Grind.{flat_map-append}
use Rattle.std.proofs.lemmas.List.{append_assoc, append-nil, length-append, take_all, take_more}
use Rattle.std.proofs.lemmas.List.Elements.{All-head, All-tail, All-take}
use Rattle.std.proofs.lemmas.Option.{get_or_from_slice_get}
use Rattle.octet_core.specs.Draw.{Lacks}
use Rattle.octet_core.specs.Faults.{Rose}
use Rattle.sealing_core.specs.Drawn.{AreOf16, octets_of}
use Rattle.sealing_core.specs.declared.drawn.IvAndSalt.{IvAndSalt}

pub consumes_more : (a b c : Option (List ℕ)) (xs ys : List ℕ) → Consumes a b xs → Consumes b c ys → Consumes a c (xs ++ ys)
consumes_more None b c xs ys p q = tt
consumes_more (Some a) None c xs ys p q = absurd p
consumes_more (Some a) (Some b) None xs ys p q = absurd q
consumes_more (Some a) (Some b) (Some c) xs ys p q = p ∙ ap (λ z. xs ++ z) q ∙ sym (append_assoc xs ys c)

-- What a draw lacks for a part it lacks for all.
pub lacks_all : (before mid now : ℕ) (old left : Option (List ℕ)) (drawn : List ℕ) (n all : ℕ) → mid ≡ before → Consumes old left drawn
    → length drawn + n ≤ all → Lacks mid now left n → Lacks before now old all
lacks_all before mid now None left drawn n all same took most h = (subst (λ m. Rose m now) same h.0, tt)
lacks_all before mid now (Some o) None drawn n all same took most h = absurd took
lacks_all before mid now (Some o) (Some l) drawn n all same took most h =
    (subst (λ m. Rose m now) same h.0, omega (arith, ap length took, length-append drawn l, most, h.1))

-- What a draw lacks for fewer octets it lacks for more.
pub lacks_more : (before now : ℕ) (left : Option (List ℕ)) (n all : ℕ) → n ≤ all → Lacks before now left n → Lacks before now left all
lacks_more before now None n all le h = (h.0, tt)
lacks_more before now (Some o) n all le h = (h.0, omega (arith, le, h.1))

-- The octets of one more IV and salt come after the others.
pub octets_more : (ds : List IvAndSalt) (d : IvAndSalt) → octets_of (ds ++ d ∷ []) ≡ octets_of ds ++ (d.iv ++ d.salt)
octets_more ds d = flat_map-append (λ (d : IvAndSalt). d.iv ++ d.salt) ds (d ∷ []) ∙ ap (λ t. octets_of ds ++ t) (append-nil (d.iv ++ d.salt))

pub drawn_more : (first old new : Option (List ℕ)) (ds : List IvAndSalt) (d : IvAndSalt) → Consumes first old (octets_of ds) → Consumes old new (d.iv ++ d.salt)
    → Consumes first new (octets_of (ds ++ d ∷ []))
drawn_more first old new ds d a b = subst (Consumes first new) (sym (octets_more ds d)) (consumes_more first old new (octets_of ds) (d.iv ++ d.salt) a b)

-- 32 octets of each
pub length-octets_of : (ds : List IvAndSalt) → All AreOf16 ds → length (octets_of ds) ≡ 32 * length ds
length-octets_of [] h = refl
length-octets_of (d ∷ ds) h =
    let of = All-head AreOf16 d ds h in
    omega (arith, length-append (d.iv ++ d.salt) (octets_of ds), length-append d.iv d.salt, of.0, of.1, length-octets_of ds (All-tail AreOf16 d ds h))

-- What was drawn is no more than was left.
pub took_least : (old new : Option (List ℕ)) (drawn : List ℕ) (n : ℕ) → Consumes old new drawn → length drawn ≡ n → IfSome old (λ d. n ≤ length d)
took_least None new drawn n t is = tt
took_least (Some x) None drawn n t is = absurd t
took_least (Some x) (Some y) drawn n t is = omega (arith, is, ap length t ∙ length-append drawn y)

-- ---- the last part comes after the others

-- One place more is one part more.
pub record Parted (ds : List IvAndSalt) (n : ℕ) (d : IvAndSalt) : Type 0 where
  pub octets : octets_of ds ≡ octets_of (take n ds) ++ (d.iv ++ d.salt)
  pub front : All AreOf16 (take n ds)
  pub last : AreOf16 d

pub parted : (ds : List IvAndSalt) (n : ℕ) (d : IvAndSalt) → slice_get ds n ≡ Some d → length ds ≡ n + 1 → All AreOf16 ds → Parted ds n d
parted ds n d at long all =
    let lt : n < length ds = omega (arith, long) in
    let is : get_or ds n d ≡ d = get_or_from_slice_get ds n d d at in
    let whole : ds ≡ take n ds ++ d ∷ [] = sym (take_all (n + 1) ds (omega (arith, long))) ∙ take_more ds n d lt ∙ ap (λ y. take n ds ++ y ∷ []) is in
    record {
      octets = ap octets_of whole ∙ octets_more (take n ds) d;
      front = All-take AreOf16 n ds all;
      last = subst AreOf16 is (all n d lt);
    }
