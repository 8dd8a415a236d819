-- A content stands where its view says.
use Rattle.std.proofs.Common.{◌≡◌, ℕ, ◌+◌, ◌-◌, ◌≤◌, List, [], ◌++◌, length, take, drop, Ok, refl, sym, ap, ◌∙◌, append_assoc, arith, length-append}
use Rattle.std.proofs.Math.Seq.{drop-append_seam, take-append_seam}
use Rattle.asn1_core.specs.Texts.{Taken, Inside, Uint}
use Rattle.asn1_core.specs.FieldLaws.{within_some}
use Rattle.asn1_core.specs.declared.identifier.ObjectIdentifier.{ObjectIdentifier}
use Rattle.p12.specs.EncryptedData.{EncryptedDataText}
use Rattle.p12.specs.ContentInfo.{ContentCase, ContentText, held}
use Rattle.p12.specs.ContentView.{seen_content, ContentBetween, ContentStands, EndsAt, NextContent}
use Rattle.p12.specs.Place.{Part, UpTo, at_place}
use Rattle.p12.specs.Reading.{content_at}
use Rattle.p12.specs.Walk.{IsWalk, walk_over}
use Rattle.p12.specs.declared.encrypted_data.EncryptedData.{EncryptedData}
use Rattle.p12.specs.declared.content_info.ContentInfo.{ContentInfo}
use Rattle.p12.specs.declared.content_info.ContentInfo.TheVariants as content
use Rattle.p12.specs.declared.place.Place.{Place}
use Rattle.p12.specs.declared.content_info.ContentView.{ContentView}
use Rattle.p12.specs.declared.content_info.ContentView.TheVariants as view
use Rattle.p12.proofs.ContentRows.{content-exact}
use Rattle.p12.proofs.Walks.{deeper, taken_part, rest_part, Tail, Shrinks, over, value_tail, inside_tail, end_tail, front_of, shrinks, goes, lends}

encrypted_tail : (b : List ℕ) (d : EncryptedData) → EncryptedDataText b d → Tail d.encrypted_content_info.encrypted_content b
encrypted_tail b d r =
    let version = r.1 in
    let info = version.3 in
    let e = info.2 in
    let kind = e.1 in
    let algorithm = kind.3 in
    let text = algorithm.3 in
    let v = d.encrypted_content_info.encrypted_content in
    let a = over v text.0 algorithm.1 (inside_tail 0x80 text.0 v text.2) (end_tail text.0 text.1 algorithm.1 text.3 text.4) in
    let b1 = over v algorithm.1 kind.1 a (algorithm.0, algorithm.4) in
    let b2 = over v kind.1 e.0 b1 (kind.0, kind.4) in
    let b3 = over v e.0 info.0 b2 (value_tail 0x30 e.0 info.0 e.2) in
    let b4 = over v info.0 version.1 b3 (end_tail info.0 info.1 version.1 info.3 info.4) in
    let b5 = over v version.1 r.0 b4 (version.0, version.4) in
    over v r.0 b b5 (value_tail 0x30 r.0 b r.2)

case_tail : (k : ObjectIdentifier) (q : List ℕ) (c : ContentInfo) → ContentCase k q c → Tail (held c) q
case_tail k q (content.Data v) r = let w = r.1 in over _ _ _ (inside_tail 0x04 w.0 v w.1) (value_tail 0xa0 w.0 q w.2)
case_tail k q (content.EncryptedData d) r = let w = r.1 in over _ _ _ (encrypted_tail w.0 d w.1) (value_tail 0xa0 w.0 q w.2)
case_tail k q (content.OtherContext o) r = let w = r.3 in over _ _ _ ([], sym w.1.0) (value_tail 0xa0 w.0 q w.2)

content_tail : (b : List ℕ) (c : ContentInfo) → ContentText b c → Tail (held c) b
content_tail b c r = let f = r.1 in over _ _ _ (case_tail f.2 f.1 c f.4) (over _ _ _ (f.0, f.5) (value_tail 0x30 r.0 b r.2))

pub place_is : (f v after bytes : List ℕ) (at : Place) → bytes ≡ f ++ (v ++ after) → UpTo (length bytes - length after) v at → at_place at bytes ≡ v
place_is f v after bytes at e (l, s) =
    let n : at.start ≡ length f = omega (arith, s, ap length e, length-append f (v ++ after), length-append v after) in
    rw (l, n) (ap (λ (t : List ℕ). take (length v) t) (ap (drop (length f)) e ∙ drop-append_seam f (v ++ after)) ∙ take-append_seam v after)

pub place_in : (f v after rest bytes : List ℕ) (at : Place) → bytes ≡ f ++ (v ++ after) → (length bytes - length rest) ≤ length f → UpTo (length bytes - length after) v at
    → (length bytes - length rest ≤ at.start) × (at.start + at.len ≤ length bytes - length after)
place_in f v after rest bytes at e h (l, s) = (omega (arith, s, h, ap length e, length-append f (v ++ after), length-append v after), omega (arith, l, s))

abbrev Stands : List ℕ → List ℕ → List ℕ → List ℕ → Type 0
Stands bytes rest v after = (f : List ℕ) × (bytes ≡ f ++ (v ++ after)) × (length bytes - length rest ≤ length f)

stands : (bytes rest after : List ℕ) (c : ContentInfo) → IsWalk content_at bytes rest → content_at rest ≡ Ok (c, after) → Stands bytes rest (held c) after
stands bytes rest after c w e =
    let f = content-exact.found rest c after e in
    let t = content_tail f.text c f.holds in
    let g = take (length bytes - length rest) bytes in
    let whole : bytes ≡ g ++ rest = front_of rest bytes w.0 in
    let all : bytes ≡ (g ++ t.0) ++ (held c ++ after) =
    whole ∙ ap (λ (x : List ℕ). g ++ x) (f.is ∙ ap (λ (x : List ℕ). x ++ after) t.1 ∙ append_assoc t.0 (held c) after) ∙ sym (append_assoc g t.0 (held c ++ after)) in
    (g ++ t.0, all, omega (arith, ap length whole, length-append g rest, length-append g t.0))

view_stands : (bytes rest after : List ℕ) (v : ContentView) → Stands bytes rest (held (seen_content v)) after → EndsAt (length bytes - length after) v → ContentStands bytes v
view_stands bytes rest after (view.Plain v at) s u = place_is s.0 v.now after bytes at s.1 u
view_stands bytes rest after (view.Encrypted a v at) s u = place_is s.0 v.now after bytes at s.1 u
view_stands bytes rest after (view.Other k v) s u = tt

view_between : (bytes rest after : List ℕ) (v : ContentView) → Stands bytes rest (held (seen_content v)) after → EndsAt (length bytes - length after) v → ContentBetween (length bytes - length rest) (length bytes - length after) v
view_between bytes rest after (view.Plain v at) s u = place_in s.0 v.now after rest bytes at s.1 s.2 u
view_between bytes rest after (view.Encrypted a v at) s u = place_in s.0 v.now after rest bytes at s.1 s.2 u
view_between bytes rest after (view.Other k v) s u = tt

content_shrinks : Shrinks content_at
content_shrinks = shrinks ContentText content_at content-exact (within_some 0x30 _)

pub content_goes : (bytes rest after : List ℕ) (c : ContentInfo) → IsWalk content_at bytes rest → content_at rest ≡ Ok (c, after) → IsWalk content_at bytes after
content_goes bytes rest after c w e = goes ContentText content_at content-exact content_shrinks bytes rest after c w e

pub next_content : (bytes rest after : List ℕ) (v : ContentView) → IsWalk content_at bytes rest → content_at rest ≡ Ok (seen_content v, after) → EndsAt (length bytes - length after) v
    → NextContent (walk_over content_at bytes rest) (walk_over content_at bytes after) v
next_content bytes rest after v w e u =
    let s = stands bytes rest after (seen_content v) w e in
    record {
      same = refl;
      is = lends content_at content_shrinks bytes rest after (seen_content v) w e;
      stands = view_stands bytes rest after v s u;
      between = view_between bytes rest after v s u;
      forward = (omega (arith, content_shrinks rest (seen_content v) after e), omega arith);
    }

-- ---- the content of a store

content_part : (rest after : List ℕ) (c : ContentInfo) → content_at rest ≡ Ok (c, after) → Part (held c) rest after
content_part rest after c e =
    let f = content-exact.found rest c after e in
    let t = content_tail f.text c f.holds in
    (t.0, f.is ∙ ap (λ (x : List ℕ). x ++ after) t.1 ∙ append_assoc t.0 (held c) after)

part_place : (bytes after : List ℕ) (end : ℕ) (v : ContentView) → Part (held (seen_content v)) bytes after → end + length after ≡ length bytes → EndsAt end v → ContentStands bytes v
part_place bytes after end (view.Plain v at) p h u = place_is p.0 v.now after bytes at p.1 (u.0, omega (arith, u.1, h))
part_place bytes after end (view.Encrypted a v at) p h u = place_is p.0 v.now after bytes at p.1 (u.0, omega (arith, u.1, h))
part_place bytes after end (view.Other k v) p h u = tt

-- what ends within so many octets lies among them
pub ends_within : (end n : ℕ) (v : ContentView) → EndsAt end v → end ≤ n → ContentBetween 0 n v
ends_within end n (view.Plain w at) u h = (omega arith, omega (arith, u.0, u.1, h))
ends_within end n (view.Encrypted a w at) u h = (omega arith, omega (arith, u.0, u.1, h))
ends_within end n (view.Other k w) u h = tt

pub store_place : (bytes body rest body2 body3 : List ℕ) (n : ℕ) (v : ContentView) → Taken (Inside 0x30) bytes body rest → Taken (Uint 0xff) body n body2 → content_at body2 ≡ Ok (seen_content v, body3)
    → EndsAt (length bytes - length rest - length body3) v → ContentStands bytes v
store_place bytes body rest body2 body3 n v t s e u =
    let c = held (seen_content v) in
    let p = deeper bytes body body2 rest [] (taken_part 0x30 bytes body rest t) (rest_part (Uint 0xff) body n body2 s) in
    let q = deeper bytes body2 c rest body3 p (content_part body2 body3 (seen_content v) e) in
    let l : length bytes ≡ length q.0 + (length c + (length body3 + length rest)) = ap length q.1 ∙ length-append q.0 (c ++ (body3 ++ rest)) ∙ ap (λ (n : ℕ). length q.0 + n) (length-append c (body3 ++ rest) ∙ ap (λ (n : ℕ). length c + n) (length-append body3 rest)) in
    part_place bytes (body3 ++ rest) (length bytes - length rest - length body3) v q (omega (arith, l, length-append body3 rest)) u
