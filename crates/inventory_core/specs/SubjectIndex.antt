-- What an index of subjects has. Nothing to believe here: what public calls promise does not name
-- it.
use Rattle.std.specs.Prelude.{ℕ, suc, zero, ◌≡◌, ◌≢◌, ◌<◌, ◌≤◌, ◌+◌, ◌-◌, List, Option, Some, None, Bool, true, false, cond, ◌==◌, length, get_or, ⊤}
use Rattle.std.specs.List.{slice_get}
use Rattle.std.specs.Option.{unwrap_or}
use Rattle.std.specs.Str.{bytes_eq}
use Rattle.inventory_core.specs.Certificate.{Certificate}
use Rattle.inventory_core.specs.Chains.{IsLeast, Subject, has, has_subject}

-- the least of the m numbers from i on that passes
abbrev pub least_from : (ℕ → Bool) → ℕ → ℕ → Option ℕ
least_from passes i zero = None
least_from passes i (suc m) = cond (passes i) (Some i) (least_from passes (suc i) m)

-- the first certificate with this subject, from the i-th on
abbrev pub named_from : List (Option Certificate) → ℕ → List ℕ → Option ℕ
named_from cs i name = least_from (λ k. has_subject (slice_get cs k) name) i (length cs - i)

-- what there is at the issuer of a certificate, which is not its own issuer
abbrev pub at_issuer : (List ℕ → Option ℕ) → Option (Option Certificate) → Option ℕ
at_issuer find (Some (Some c)) = cond (bytes_eq c.issuer c.subject) None (find c.issuer)
at_issuer find (Some None) = None
at_issuer find None = None

-- what there is at the subject of a certificate
abbrev pub at_subject : (List ℕ → Option ℕ) → Option (Option Certificate) → Option ℕ
at_subject find (Some (Some c)) = find c.subject
at_subject find (Some None) = None
at_subject find None = None

-- the first certificate that may have issued the j-th, which is not its own issuer
abbrev pub issuer_of : List (Option Certificate) → ℕ → Option ℕ
issuer_of cs j = at_issuer (named_from cs 0) (slice_get cs j)

-- the next certificate after the k-th with the same subject
abbrev pub namesake_of : List (Option Certificate) → ℕ → Option ℕ
namesake_of cs k = at_subject (named_from cs (k + 1)) (slice_get cs k)

-- ---- The cursors of a chain

-- A number is before the cursor; each is where there is none.
abbrev pub IsBefore : ℕ → Option ℕ → Type 0
IsBefore i None = ⊤
IsBefore i (Some k) = i < k

-- The certificates with this subject before the cursor are in the chain. Those from the cursor on
-- are not, the start apart.
pub record IsRest (cs : List (Option Certificate)) (start : ℕ) (chain name : List ℕ)
    (cursor : Option ℕ) : Type 0 where
  pub passed : (i : ℕ) → Subject cs name i → IsBefore i cursor → has chain i ≡ true
  pub left : (k i : ℕ) → cursor ≡ Some k → k ≤ i → Subject cs name i → i ≢ start
      → has chain i ≡ false
  pub among : (k : ℕ) → cursor ≡ Some k → Subject cs name k

-- the cursor of those with the subject of the r-th: at itself where it was not moved
abbrev pub cursor_of : (ℕ → Option (Option ℕ)) → ℕ → Option ℕ
cursor_of cursors r = unwrap_or (cursors r) (Some r)

-- These are the cursors of a chain with this start, each at the first certificate of its subject.
pub record AreCursors (cs : List (Option Certificate)) (start : ℕ) (chain : List ℕ)
    (cursor : ℕ → Option ℕ) : Type 0 where
  pub started : has chain start ≡ true
  pub rests : (name : List ℕ) (r : ℕ) → IsLeast (Subject cs name) (Some r)
      → IsRest cs start chain name (cursor r)

-- the certificate at a cursor, or the next one with its subject where that is the start
abbrev pub skipped : List (Option ℕ) → ℕ → Option ℕ → Option ℕ
skipped namesakes start None = None
skipped namesakes start (Some k) = cond (k == start) (get_or namesakes k None) (Some k)

-- the cursors after this certificate was taken from those with the subject of the first
abbrev pub moved : List (Option ℕ) → ℕ → Option ℕ → (ℕ → Option ℕ) → ℕ → Option ℕ
moved namesakes first None cursor r = cursor r
moved namesakes first (Some k) cursor r = cond (r == first) (get_or namesakes k None) (cursor r)
