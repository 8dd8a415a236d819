-- The encrypted octets of a bag stand where its view says.
use Rattle.std.proofs.Common.{◌≡◌, ℕ, ◌+◌, ◌-◌, ◌≤◌, List, [], ◌++◌, length, take, drop, Ok, refl, sym, ap, ◌∙◌, append_assoc, append-nil, arith, length-append}
use Rattle.asn1_core.specs.Texts.{Taken, Inside, Oid}
use Rattle.asn1_core.specs.FieldLaws.{within_some}
use Rattle.asn1_core.specs.declared.identifier.ObjectIdentifier.{ObjectIdentifier}
use Rattle.p12.specs.EncryptedPrivateKeyInfo.{EncryptedKeyText}
use Rattle.p12.specs.SafeBag.{BagText}
use Rattle.p12.specs.Place.{Part}
use Rattle.p12.specs.BagView.{BagBetween, BagEndsAt, BagLies, BagStands, GoesBy, NextBag, seen_bag, seen_parts}
use Rattle.p12.specs.Reading.{bag_at, encrypted_key_at, kind_all}
use Rattle.p12.specs.Walk.{IsWalk, walk_over}
use Rattle.p12.specs.declared.encrypted_private_key_info.EncryptedPrivateKeyInfo.{EncryptedPrivateKeyInfo}
use Rattle.p12.specs.declared.safe_bag.SafeBag.{SafeBag}
use Rattle.p12.specs.declared.safe_bag.BagParts.{BagParts}
use Rattle.p12.specs.declared.safe_bag.BagView.{BagView}
use Rattle.p12.specs.declared.safe_bag.BagView.TheVariants as view
use Rattle.p12.proofs.BagRows.{bag-exact, encrypted_key-exact, kind-exact}
use Rattle.p12.proofs.ContentWalks.{place_is}
use Rattle.p12.proofs.Walks.{Tail, Shrinks, deeper, taken_part, rest_part, over, value_tail, inside_tail, end_tail, front_of, shrinks, goes, lends}

key_tail : (b : List ℕ) (e : EncryptedPrivateKeyInfo) → EncryptedKeyText b e → Tail e.encrypted_data b
key_tail b e r =
    let algorithm = r.1 in
    let text = algorithm.3 in
    let v = e.encrypted_data in
    let a = over v text.0 algorithm.1 (inside_tail 0x04 text.0 v text.2) (end_tail text.0 text.1 algorithm.1 text.3 text.4) in
    over v r.0 b (over v algorithm.1 r.0 a (algorithm.0, algorithm.4)) (value_tail 0x30 r.0 b r.2)

tail_part : (v b : List ℕ) → Tail v b → Part v b []
tail_part v b (f, e) = (f, e ∙ ap (λ x. f ++ x) (sym (append-nil v)))

pub key_within : (b rest : List ℕ) (e : EncryptedPrivateKeyInfo) → encrypted_key_at b ≡ Ok (e, rest) → length e.encrypted_data ≤ length b
key_within b rest e h =
    let f = encrypted_key-exact.found b e rest h in
    let t = key_tail f.text e f.holds in
    omega (arith, ap length f.is, length-append f.text rest, ap length t.1, length-append t.0 e.encrypted_data)

pub bag_lies : (total : ℕ) (b body rest body2 value attributes : List ℕ) (k : ObjectIdentifier) (v : BagView) → length b ≤ total → Taken (Inside 0x30) b body rest → Taken Oid body k body2 → Taken (Inside 0xa0) body2 value attributes
    → kind_all k value ≡ Ok (seen_bag v) → BagEndsAt (total - length rest - length attributes) v → BagLies total b rest v
bag_lies total b body rest body2 value attributes k (view.X509 v) h t s u e p = tt
bag_lies total b body rest body2 value attributes k (view.Sdsi v) h t s u e p = tt
bag_lies total b body rest body2 value attributes k (view.Other o v) h t s u e p = tt
bag_lies total b body rest body2 value attributes k (view.Shrouded a v at) h t s u e p =
    let key = ((kind-exact k).found value (seen_bag (view.Shrouded a v at)) e).1 in
    let p1 = deeper b body body2 rest [] (taken_part 0x30 b body rest t) (rest_part Oid body k body2 s) in
    let p2 = deeper b body2 value rest attributes p1 (taken_part 0xa0 body2 value attributes u) in
    let p3 = deeper b value v.now (attributes ++ rest) [] p2 (tail_part v.now value (key_tail value _ key)) in
    (attributes ++ rest, p3, (p.0, omega (arith, p.1, length-append attributes rest)), omega (arith, length-append attributes rest))

view_stands : (bytes rest new : List ℕ) (v : BagView) → drop (length bytes - length rest) bytes ≡ rest → BagLies (length bytes) rest new v → BagStands bytes v
view_stands bytes rest new (view.X509 v) w l = tt
view_stands bytes rest new (view.Sdsi v) w l = tt
view_stands bytes rest new (view.Other k v) w l = tt
view_stands bytes rest new (view.Shrouded a v at) w l =
    let g = take (length bytes - length rest) bytes in
    let p = l.1 in
    let all : bytes ≡ (g ++ p.0) ++ (v.now ++ l.0) = front_of rest bytes w ∙ ap (λ (x : List ℕ). g ++ x) p.1 ∙ sym (append_assoc g p.0 (v.now ++ l.0)) in
    place_is (g ++ p.0) v.now l.0 bytes at all l.2

view_between : (bytes rest new : List ℕ) (v : BagView) → drop (length bytes - length rest) bytes ≡ rest → BagLies (length bytes) rest new v → BagBetween (length bytes - length rest) (length bytes - length new) v
view_between bytes rest new (view.X509 v) w l = tt
view_between bytes rest new (view.Sdsi v) w l = tt
view_between bytes rest new (view.Other k v) w l = tt
view_between bytes rest new (view.Shrouded a v at) w l =
    let g = take (length bytes - length rest) bytes in
    let p = l.1 in
    let size : length rest ≡ length p.0 + (length v.now + length l.0) = ap length p.1 ∙ length-append p.0 (v.now ++ l.0) ∙ ap (λ (n : ℕ). length p.0 + n) (length-append v.now l.0) in
    let whole : length bytes ≡ length g + length rest = ap length (front_of rest bytes w) ∙ length-append g rest in
    (omega (arith, size, whole, l.2.1), omega (arith, l.2.0, l.2.1, l.3, size, whole))

bag_shrinks : Shrinks bag_at
bag_shrinks = shrinks BagText bag_at bag-exact (within_some 0x30 _)

pub bag_goes : (bytes rest after : List ℕ) (g : SafeBag) → IsWalk bag_at bytes rest → bag_at rest ≡ Ok (g, after) → IsWalk bag_at bytes after
bag_goes bytes rest after g w e = goes BagText bag_at bag-exact bag_shrinks bytes rest after g w e

pub next_bag : (bytes rest after : List ℕ) (p : BagParts) → IsWalk bag_at bytes rest → bag_at rest ≡ Ok (seen_parts p, after) → BagLies (length bytes) rest after p.bag
    → NextBag (walk_over bag_at bytes rest) (walk_over bag_at bytes after) p.bag
next_bag bytes rest after p w e l =
    record {
      same = refl;
      bag = seen_parts p;
      is = lends bag_at bag_shrinks bytes rest after (seen_parts p) w e;
      seen = refl;
      stands = view_stands bytes rest after p.bag w.0 l;
      between = view_between bytes rest after p.bag w.0 l;
      forward = (omega (arith, bag_shrinks rest (seen_parts p) after e), omega arith);
    }

pub goes_by : (bytes rest after : List ℕ) (g : SafeBag) → IsWalk bag_at bytes rest → bag_at rest ≡ Ok (g, after) → GoesBy (walk_over bag_at bytes rest) (walk_over bag_at bytes after) g
goes_by bytes rest after g w e = (lends bag_at bag_shrinks bytes rest after g w e, refl)
