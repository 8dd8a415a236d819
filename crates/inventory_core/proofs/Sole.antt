-- A store has one table.
use Rattle.std.proofs.Common.{◌≡◌, inl, inr, ◌+◌, ℕ, List, [], ◌∷◌, ◌++◌, Option, Some, None, Bool, true, false, refl, sym, ap, ◌∙◌, subst, arith}
use Rattle.std.specs.Prelude.{codes, decimal}
use Rattle.std.specs.Bool.{MatchBool}
use Rattle.std.specs.List.{slice_get}
use Rattle.std.specs.Str.{bytes_eq}
use Rattle.std.proofs.lemmas.Bool.{cases_lt}
use Rattle.asn1_core.specs.Sets.{Each}
use Rattle.frame.specs.DueText.{joined}
use Rattle.hex.specs.Hex.{encode_lower}
use Rattle.p12.specs.declared.safe_bag.SafeBag.{SafeBag}
use Rattle.transfer.specs.Opening.{all_certificates}
use Rattle.inventory_core.specs.Certificate.{Certificate}
use Rattle.inventory_core.specs.Chains.{Continues, FollowsOne, IsChain, IsLeast, IsParent}
use Rattle.inventory_core.specs.Gathering.{certificate_of}
use Rattle.inventory_core.specs.Parents.{parent_text}
use Rattle.inventory_core.specs.Lines.{AreLines, CertificateLine, ChainLine, IsStart, KeyLine, fingerprint, numbers}
use Rattle.inventory_core.specs.Table.{IsKept, IsTable, certificate_ids, key_ids}
use Rattle.inventory_core.specs.declared.parent.Parent.{Parent}
use Rattle.inventory_core.specs.declared.parent.Parent.TheVariants as parent
use Rattle.inventory_core.proofs.Gatherings.{read_none, read_some}

some_same : (k m : ℕ) → Some k ≡ Some m → k ≡ m
some_same k m e = cc

least_sole : (P : ℕ → Type 0) (o q : Option ℕ) → IsLeast P o → IsLeast P q → o ≡ q
least_sole P None None h g = refl
least_sole P None (Some m) h g = absurd (h m g.0)
least_sole P (Some k) None h g = absurd (g k h.0)
least_sole P (Some k) (Some m) h g = elim (cases_lt k m) [
  | inl lt ↦ absurd (g.1 k lt h.0)
  | inr le ↦ elim (cases_lt m k) [
    | inl lt ↦ absurd (h.1 m lt g.0)
    | inr other ↦ let same : k ≡ m = omega (arith, le, other) in ap (λ n. Some n) same
  ]
]

-- ---- Parents

above_sole : (k m : ℕ) (P : ℕ → Type 0) → IsLeast P (Some k) → IsLeast P (Some m) → k ≡ m
above_sole k m P h g = some_same k m (least_sole P (Some k) (Some m) h g)

none_some : (P : ℕ → Type 0) (k : ℕ) → IsLeast P (Some k) → IsLeast P None → ⊥
none_some P k h g = g k h.0

parent_sole : (cs : List (Option Certificate)) (j : ℕ) (c : Certificate) (p q : Parent) → IsParent cs j c p → IsParent cs j c q → p ≡ q
parent_sole cs j c parent.Itself parent.Itself h g = refl
parent_sole cs j c parent.Itself (parent.Of m) h g = absurd (g.0 h)
parent_sole cs j c parent.Itself parent.Unknown h g = absurd (g.0 h)
parent_sole cs j c (parent.Of k) parent.Itself h g = absurd (h.0 g)
parent_sole cs j c (parent.Of k) (parent.Of m) h g = ap parent.Of (above_sole k m _ h.1 g.1)
parent_sole cs j c (parent.Of k) parent.Unknown h g = absurd (none_some _ k h.1 g.1)
parent_sole cs j c parent.Unknown parent.Itself h g = absurd (h.0 g)
parent_sole cs j c parent.Unknown (parent.Of m) h g = absurd (none_some _ m g.1 h.1)
parent_sole cs j c parent.Unknown parent.Unknown h g = refl

-- ---- Chains

by_test : (b : Bool) (P : ℕ → Type 0) (o q : Option ℕ) → MatchBool b (o ≡ None) (IsLeast P o) → MatchBool b (q ≡ None) (IsLeast P q) → o ≡ q
by_test true P o q h g = h ∙ sym g
by_test false P o q h g = least_sole P o q h g

next_sole : (cs : List (Option Certificate)) (sofar : List ℕ) (x : Option (Option Certificate)) (o q : Option ℕ) → FollowsOne cs sofar x o → FollowsOne cs sofar x q → o ≡ q
next_sole cs sofar (Some (Some c)) o q h g = by_test (bytes_eq c.issuer c.subject) _ o q h g
next_sole cs sofar (Some None) o q h g = h ∙ sym g
next_sole cs sofar None o q h g = h ∙ sym g

none_is : (k : ℕ) → None ≡ Some k → ⊥
none_is k e = absurd cc

follows_sole : (cs : List (Option Certificate)) (sofar : List ℕ) (j : ℕ) (ks ms : List ℕ) → Continues cs sofar j ks → Continues cs sofar j ms → ks ≡ ms
follows_sole cs sofar j [] [] h g = refl
follows_sole cs sofar j [] (m ∷ ms) h g = absurd (none_is m (next_sole cs sofar (slice_get cs j) None (Some m) h g.0))
follows_sole cs sofar j (k ∷ ks) [] h g = absurd (none_is k (sym (next_sole cs sofar (slice_get cs j) (Some k) None h.0 g)))
follows_sole cs sofar j (k ∷ ks) (m ∷ ms) h g =
    let same : m ≡ k = some_same m k (next_sole cs sofar (slice_get cs j) (Some m) (Some k) g.0 h.0) in
    let P : ℕ → Type 0 = λ n. Continues cs (sofar ++ n ∷ []) n ms in
    let more : ks ≡ ms = follows_sole cs (sofar ++ k ∷ []) k ks ms h.1 (subst P same g.1) in
    ap (λ n. n ∷ ks) (sym same) ∙ ap (λ l. m ∷ l) more

chain_sole : (cs : List (Option Certificate)) (start : ℕ) (ks ms : List ℕ) → IsChain cs start ks → IsChain cs start ms → ks ≡ ms
chain_sole cs start ks ms (r, is, h) (q, same, g) = is ∙ ap (λ l. start ∷ l) (follows_sole cs (start ∷ []) start r q h g) ∙ sym same

start_sole : (ids : List (Option (List ℕ))) (id : Option (List ℕ)) (o q : Option ℕ) → IsStart ids id o → IsStart ids id q → o ≡ q
start_sole ids None o q h g = h ∙ sym g
start_sole ids (Some v) o q h g = least_sole _ o q h g

-- ---- Lines

certificate_sole : (cs : List (Option Certificate)) (j : ℕ) (c : Option Certificate) (a b : List ℕ) → CertificateLine cs j c a → CertificateLine cs j c b → a ≡ b
certificate_sole cs j None a b h g = h ∙ sym g
certificate_sole cs j (Some c) a b (p, above, is) (q, other, same) =
    is ∙ ap (λ (t : Parent). codes "cert " ++ decimal j ++ codes " " ++ encode_lower (fingerprint c) ++ codes " " ++ parent_text t ++ codes "\n") (parent_sole cs j c p q above other) ∙ sym same

chain_line_sole : (cs : List (Option Certificate)) (i : ℕ) (start : Option ℕ) (a b : List ℕ) → ChainLine cs i start a → ChainLine cs i start b → a ≡ b
chain_line_sole cs i None a b h g = h ∙ sym g
chain_line_sole cs i (Some s) a b (ks, h, is) (ms, g, same) = is ∙ ap (λ (t : List ℕ). codes "key " ++ decimal i ++ numbers t ++ codes "\n") (chain_sole cs s ks ms h g) ∙ sym same

key_sole : (cs : List (Option Certificate)) (ids : List (Option (List ℕ))) (i : ℕ) (id : Option (List ℕ)) (a b : List ℕ) → KeyLine cs ids i id a → KeyLine cs ids i id b → a ≡ b
key_sole cs ids i id a b (o, s, h) (q, t, g) =
    let same : q ≡ o = start_sole ids id q o t s in
    let P : Option ℕ → Type 0 = λ x. ChainLine cs i x b in
    chain_line_sole cs i o a b h (subst P same g)

lines_sole : {A : Type 0} (L : ℕ → A → List ℕ → Type 0) → ((n : ℕ) (x : A) (a b : List ℕ) → L n x a → L n x b → a ≡ b)
    → (n : ℕ) (xs : List A) (ls ms : List (List ℕ)) → AreLines L n xs ls → AreLines L n xs ms → ls ≡ ms
lines_sole L one n [] ls ms h g = h ∙ sym g
lines_sole L one n (x ∷ xs) ls ms (a, ps, h, more, is) (b, qs, g, others, same) =
    is ∙ ap (λ l. l ∷ ps) (one n x a b h g) ∙ ap (λ t. b ∷ t) (lines_sole L one (n + 1) xs ps qs more others) ∙ sym same

-- ---- Certificates

read_sole : (b : List ℕ) (o : Option Certificate) → IsKept b o → o ≡ certificate_of b
read_sole b None h = read_none b h
read_sole b (Some c) h = read_some b c h

each_sole : (bs : List (List ℕ)) (cs ds : List (Option Certificate)) → Each IsKept bs cs → Each IsKept bs ds → cs ≡ ds
each_sole [] [] [] h g = refl
each_sole [] [] (d ∷ ds) h g = absurd g
each_sole [] (c ∷ cs) ds h g = absurd h
each_sole (b ∷ bs) [] ds h g = absurd h
each_sole (b ∷ bs) (c ∷ cs) [] h g = absurd g
each_sole (b ∷ bs) (c ∷ cs) (d ∷ ds) h g =
    ap (λ x. x ∷ cs) (read_sole b c h.0 ∙ sym (read_sole b d g.0)) ∙ ap (λ x. d ∷ x) (each_sole bs cs ds h.1 g.1)

pub table_sole : (bags : List (List SafeBag)) (t u : List ℕ) → IsTable bags t → IsTable bags u → t ≡ u
table_sole bags t u h g =
    let same : g.certificates ≡ h.certificates = each_sole (all_certificates bags) g.certificates h.certificates g.read h.read in
    let P : List (Option Certificate) → Type 0 = λ cs. AreLines (CertificateLine cs) 0 cs g.certificate_lines in
    let Q : List (Option Certificate) → Type 0 = λ cs. AreLines (KeyLine cs (certificate_ids bags)) 0 (key_ids bags) g.key_lines in
    let first : h.certificate_lines ≡ g.certificate_lines =
    lines_sole (CertificateLine h.certificates) (certificate_sole h.certificates) 0 h.certificates h.certificate_lines g.certificate_lines h.for_certificates (subst P same g.for_certificates) in
    let second : h.key_lines ≡ g.key_lines =
    lines_sole (KeyLine h.certificates (certificate_ids bags)) (key_sole h.certificates (certificate_ids bags)) 0 (key_ids bags) h.key_lines g.key_lines h.for_keys (subst Q same g.for_keys) in
    h.is ∙ ap (λ l. joined (l ++ h.key_lines)) first ∙ ap (λ l. joined (g.certificate_lines ++ l)) second ∙ sym g.is
