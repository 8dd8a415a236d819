-- Reading a password file.
use Rattle.std.proofs.Common.{◌≡◌, ◌≢◌, ℕ, ◌<◌, List, [], ◌∷◌, ◌++◌, map, refl, sym, ap, ◌∙◌, subst, arith, append_assoc, append-nil}
use Rattle.std.specs.Prelude.{Result, Ok, Err, IfErr, OnOk}
use Rattle.std.proofs.lemmas.List.Elements.{All-append, All-cons, All-from_recursion, All-head, All-tail, All-weaker}
use Rattle.std.proofs.lemmas.List.{flat_map_more, map-append}
use Rattle.std.specs.List.{All, AllByRecursion, flat_map}
use Rattle.std.specs.List.Sorted.{IsStrictlySortedBy}
use Rattle.std.specs.Map.{keys_of}
use Rattle.std.specs.Ordering.{nat_cmp}
use Rattle.std.specs.declared.cmp.Ordering.TheVariants.{Less}
use Rattle.std.specs.Cmp.Lexicographic.{slice_cmp}
use Rattle.frame.specs.DueText.{joined}
use Rattle.phc_core.specs.Ident.{IsIdent, IsNameOctet}
use Rattle.phc_core.proofs.OneLine.{ident_one_line}
use Rattle.passdb_core.specs.declared.error.DbError.{DbError}
use Rattle.passdb_core.specs.declared.error.DbError.TheVariants.{Malformed, Rng, Memory}
use Rattle.passdb_core.specs.Calls.{MalformedOnly}
use Rattle.passdb_core.specs.Entry.{Entry, IsEntry, entry_text}
use Rattle.passdb_core.specs.Entries.{Above, AreEntries, Entries, IsBelow, IsFile, IsNamed, IsNoFile, line, text_of}
use Rattle.passdb_core.specs.Reading.{HasNoFront, IsCut, IsFront, IsNext, IsPair, Stops}
use Rattle.passdb_core.proofs.Cuts.{Lacks, cut_is, ident_no_colon, no_cut, one_cut}
use Rattle.passdb_core.proofs.EntryTexts.{entry_no_feed, one_entry}

-- ---- Lines

pub line_parts : (name : List ℕ) (e : Entry) (s : List ℕ) → line (name, e) ++ s ≡ name ++ 58 ∷ (entry_text e ++ 10 ∷ s)
line_parts name e s = append_assoc name (58 ∷ (entry_text e ++ 10 ∷ [])) s ∙ ap (λ t. name ++ 58 ∷ t) (append_assoc (entry_text e) (10 ∷ []) s)

pub line_cut : (name : List ℕ) (e : Entry) (s : List ℕ) → line (name, e) ++ s ≡ (name ++ 58 ∷ entry_text e) ++ 10 ∷ s
line_cut name e s = line_parts name e s ∙ sym (append_assoc name (58 ∷ entry_text e) (10 ∷ s))

pub pair_no_feed : (name : List ℕ) (e : Entry) → IsIdent name → IsEntry e → Lacks 10 (name ++ 58 ∷ entry_text e)
pair_no_feed name e named is =
    All-append (λ b. b ≢ 10) name (58 ∷ entry_text e) (All-weaker (λ b. (b ≢ 10) × (b < 128)) (λ b. b ≢ 10) (λ b h. h.0) name (ident_one_line name named))
    (All-cons (λ b. b ≢ 10) 58 (entry_text e) (λ k. omega (arith, k)) (entry_no_feed e is))

pair_from : (p q : List ℕ × Entry) → p.0 ≡ q.0 → p.1 ≡ q.1 → p ≡ q
pair_from p q a b = λ i. (a i, b i)

pub one_line : (m n : List ℕ) (e f : Entry) (s t : List ℕ) → IsIdent m → IsEntry e → IsIdent n → IsEntry f → line (m, e) ++ s ≡ line (n, f) ++ t
    → (m ≡ n) × (e ≡ f) × (s ≡ t)
one_line m n e f s t named is named_too too same =
    let names = one_cut 58 m n (entry_text e ++ 10 ∷ s) (entry_text f ++ 10 ∷ t) (ident_no_colon m named) (ident_no_colon n named_too) (sym (line_parts m e s) ∙ same ∙ line_parts n f t) in
    let texts = one_cut 10 (entry_text e) (entry_text f) s t (entry_no_feed e is) (entry_no_feed f too) names.1 in
    (names.0, one_entry e f is too texts.0, texts.1)

-- A line that is no pair, or whose name is not above.
pub no_pair : (t : List ℕ) → Lacks 58 t → (name : List ℕ) (e : Entry) → IsPair t name e → ⊥
no_pair t plain name e is = no_cut 58 t name (entry_text e) plain is.spelled

pub pair_parts : (t front back name : List ℕ) (e : Entry) → IsCut 58 t front back → IsPair t name e → (front ≡ name) × (back ≡ entry_text e)
pair_parts t front back name e cut is = cut_is 58 t front back name (entry_text e) cut (ident_no_colon name is.named) is.spelled

pub pair_at : (t front back name : List ℕ) (e : Entry) → IsCut 58 t front back → name ≡ front → IsIdent front → IsEntry e → back ≡ entry_text e → IsPair t name e
pair_at t front back name e cut same named is spelled = record {
  named = subst IsIdent (sym same) named;
  entry = is;
  spelled = cut.parts ∙ ap (λ f. f ++ 58 ∷ back) (sym same) ∙ ap (λ b. name ++ 58 ∷ b) spelled;
}

pub on_ok_both : {A E : Type 0} (r : Result A E) (P Q R : Type 0) → (P → Q → R) → OnOk r P → OnOk r Q → OnOk r R
on_ok_both (Ok a) P Q R f p q = f p q
on_ok_both (Err e) P Q R f p q = tt

pub err_as : {A : Type 0} (r : Result A DbError) (P Q : Type 0) → (P → Q) → IfErr r (MalformedOnly P) → IfErr r (MalformedOnly Q)
err_as (Ok a) P Q f h = tt
err_as (Err Malformed) P Q f h = f h
err_as (Err Memory) P Q f h = tt
err_as (Err Rng) P Q f h = h

-- The pair of the first line, where an entry's line comes next.
pub pair_here : (text front rest : List ℕ) (es : Entries) (name : List ℕ) (e : Entry) (more : List ℕ) → IsCut 10 text front rest → IsNext text es name e more → IsPair front name e
pair_here text front rest es name e more cut is = record {
  named = is.named;
  entry = is.entry;
  spelled = (cut_is 10 text front rest (name ++ 58 ∷ entry_text e) more cut (pair_no_feed name e is.named is.entry) (is.spelled ∙ line_cut name e more)).0;
}

pub next_from : (text front rest : List ℕ) (es : Entries) (name : List ℕ) (e : Entry) → IsCut 10 text front rest → IsPair front name e → Above es name → IsNext text es name e rest
next_from text front rest es name e cut is above = record {
  named = is.named;
  entry = is.entry;
  above = above;
  spelled = cut.parts ∙ ap (λ t. t ++ 10 ∷ rest) is.spelled ∙ sym (line_cut name e rest);
}

pub malformed_as : (P Q : Type 0) (e : DbError) → (P → Q) → MalformedOnly P e → MalformedOnly Q e
malformed_as P Q Malformed f p = f p
malformed_as P Q Memory f p = tt
malformed_as P Q Rng f p = p

-- ---- One entry more

below_more : (name : List ℕ) (es : Entries) (p : List ℕ × Entry) → IsBelow name es → slice_cmp nat_cmp name p.0 ≡ Less → IsBelow name (es ++ p ∷ [])
below_more name [] p h k = (k, tt)
below_more name (e ∷ es) p h k = (h.0, below_more name es p h.1 k)

pub entries_more : (es : Entries) (name : List ℕ) (e : Entry) → AreEntries es → IsIdent name → IsEntry e → Above es name → AreEntries (es ++ (name, e) ∷ [])
entries_more [] name e h named is above = (named, is, tt, tt)
entries_more (x ∷ es) name e h named is above = (h.0, h.1, below_more x.0 es (name, e) h.2 above.0, entries_more es name e h.3 named is above.1)

pub text_more : (text : List ℕ) (es : Entries) (rest name : List ℕ) (e : Entry) (more : List ℕ) → text ≡ text_of es ++ rest → rest ≡ line (name, e) ++ more
    → text ≡ text_of (es ++ (name, e) ∷ []) ++ more
text_more text es rest name e more is next =
    is ∙ ap (λ t. text_of es ++ t) next ∙ sym (append_assoc (text_of es) (line (name, e)) more) ∙ ap (λ t. t ++ more) (flat_map_more line [] es (name, e))

-- ---- What is after a file

feed_name : (b : ℕ) → IsNameOctet b → b ≡ 10 → ⊥
feed_name b h e = omega (arith, h, e)

name_stands : (name t : List ℕ) → IsIdent name → Stops (name ++ t) → ⊥
name_stands [] t is stops = omega (arith, is.0)
name_stands (b ∷ name) t is stops = feed_name b (All-head IsNameOctet b name is.2) stops

line_stands : (name : List ℕ) (e : Entry) (s : List ℕ) → IsIdent name → Stops (line (name, e) ++ s) → ⊥
line_stands name e s is stops = name_stands name (58 ∷ (entry_text e ++ 10 ∷ s)) is (subst Stops (line_parts name e s) stops)

record Next (es : Entries) (fs : Entries) (rest : List ℕ) : Type 0 where
  name : List ℕ
  entry : Entry
  more : List ℕ
  is : IsNext rest es name entry more
  over : (k : List ℕ) → IsBelow k fs → slice_cmp nat_cmp k name ≡ Less

next_in : (es fs : Entries) (rest last : List ℕ) → AreEntries es → AreEntries fs → text_of es ++ rest ≡ text_of fs ++ last → Stops last → (Stops rest → ⊥) → Next es fs rest
next_in [] [] rest last a b e stops stands = absurd (stands (subst Stops (sym e) stops))
next_in [] ((n, f) ∷ fs) rest last a b e stops stands = record {
  name = n;
  entry = f;
  more = text_of fs ++ last;
  is = record { named = b.0; entry = b.1; above = tt; spelled = e ∙ append_assoc (line (n, f)) (text_of fs) last };
  over = λ k h. h.0;
}
next_in ((m, x) ∷ es) [] rest last a b e stops stands =
    absurd (line_stands m x (text_of es ++ rest) a.0 (subst Stops (sym e ∙ append_assoc (line (m, x)) (text_of es) rest) stops))
next_in ((m, x) ∷ es) ((n, f) ∷ fs) rest last a b e stops stands =
    let tails : line (m, x) ++ (text_of es ++ rest) ≡ line (n, f) ++ (text_of fs ++ last) = sym (append_assoc (line (m, x)) (text_of es) rest) ∙ e ∙ append_assoc (line (n, f)) (text_of fs) last in
    let same = one_line m n x f (text_of es ++ rest) (text_of fs ++ last) a.0 a.1 b.0 b.1 tails in
    let k = next_in es fs rest last a.3 b.3 same.2 stops stands in
    record {
      name = k.name;
      entry = k.entry;
      more = k.more;
      is = record { named = k.is.named; entry = k.is.entry; above = (k.over m (subst (λ z. IsBelow z fs) (sym same.0) b.2), k.is.above); spelled = k.is.spelled };
      over = λ q h. k.over q h.1;
    }

pub no_front : (text : List ℕ) (es : Entries) (rest : List ℕ) → AreEntries es → text ≡ text_of es ++ rest → (Stops rest → ⊥)
    → ((name : List ℕ) (e : Entry) (more : List ℕ) → IsNext rest es name e more → ⊥) → HasNoFront text
no_front text es rest a e stands none fs last f =
    let k = next_in es fs rest last a f.entries (sym e ∙ f.spelled) f.stops stands in
    none k.name k.entry k.more k.is

-- One front of a text.
pub fronts_same : (es fs : Entries) (s t : List ℕ) → AreEntries es → AreEntries fs → text_of es ++ s ≡ text_of fs ++ t → Stops s → Stops t → (es ≡ fs) × (s ≡ t)
fronts_same [] [] s t a b e p q = (refl, e)
fronts_same [] ((n, f) ∷ fs) s t a b e p q = absurd (line_stands n f (text_of fs ++ t) b.0 (subst Stops (e ∙ append_assoc (line (n, f)) (text_of fs) t) p))
fronts_same ((m, x) ∷ es) [] s t a b e p q = absurd (line_stands m x (text_of es ++ s) a.0 (subst Stops (sym e ∙ append_assoc (line (m, x)) (text_of es) s) q))
fronts_same ((m, x) ∷ es) ((n, f) ∷ fs) s t a b e p q =
    let tails : line (m, x) ++ (text_of es ++ s) ≡ line (n, f) ++ (text_of fs ++ t) = sym (append_assoc (line (m, x)) (text_of es) s) ∙ e ∙ append_assoc (line (n, f)) (text_of fs) t in
    let same = one_line m n x f (text_of es ++ s) (text_of fs ++ t) a.0 a.1 b.0 b.1 tails in
    let k = fronts_same es fs s t a.3 b.3 same.2 p q in
    let heads : (m, x) ≡ (n, f) = pair_from (m, x) (n, f) same.0 same.1 in
    let rests : es ≡ fs = k.0 in
    (ap (λ h. h ∷ es) heads ∙ ap (λ h. (n, f) ∷ h) rests, k.1)

pub front_one : (text : List ℕ) (es fs : Entries) (s t : List ℕ) → IsFront text es s → IsFront text fs t → (es ≡ fs) × (s ≡ t)
front_one text es fs s t f g = fronts_same es fs s t f.entries g.entries (sym f.spelled ∙ g.spelled) f.stops g.stops

-- A whole file is a front with nothing after it.
pub file_front : (text : List ℕ) (es : Entries) → IsFile text es → IsFront text es []
file_front text es f = record { entries = f.entries; spelled = f.spelled ∙ sym (append-nil (text_of es)); stops = tt }

pub not_all : (text : List ℕ) (es : Entries) (rest : List ℕ) → IsFront text es rest → rest ≢ [] → IsNoFile text
not_all text es rest f some fs g = some (front_one text es fs rest [] f (file_front text fs g)).1

pub file_none : (text : List ℕ) → HasNoFront text → IsNoFile text
file_none text none es f = none es [] (file_front text es f)

-- ---- Entries of an ordered map

below_from : (name : List ℕ) (es : Entries) → AllByRecursion (λ (k : List ℕ). slice_cmp nat_cmp name k ≡ Less) (keys_of es) → IsBelow name es
below_from name [] h = tt
below_from name (e ∷ es) h = (h.0, below_from name es h.1)

pub entries_from : (es : Entries) → IsStrictlySortedBy (slice_cmp nat_cmp) (keys_of es) → All IsNamed es → AreEntries es
unfolding IsStrictlySortedBy
entries_from [] h named = tt
entries_from (e ∷ es) h named =
    let first = All-head IsNamed e es named in
    (first.0, first.1, below_from e.0 es h.0, entries_from es h.1 (All-tail IsNamed e es named))

pub file_from : (es : Entries) (t : List ℕ) → IsStrictlySortedBy (slice_cmp nat_cmp) (keys_of es) → All IsNamed es → t ≡ text_of es → IsFile t es
file_from es t sorted named is = record { entries = entries_from es sorted named; spelled = is }

-- A loop over the entries has one more.
pub named_more : {A : Type 0} (shows : A → List ℕ × Entry) (xs : List A) (x : A) → All IsNamed (map shows xs) → IsNamed (shows x) → All IsNamed (map shows (xs ++ x ∷ []))
named_more shows xs x all is = subst (All IsNamed) (sym (map-append shows xs (x ∷ []))) (All-append IsNamed (map shows xs) (shows x ∷ []) all (All-from_recursion IsNamed (shows x ∷ []) (is, tt)))

pub lines_more : {A : Type 0} (shows : A → List ℕ × Entry) (xs : List A) (x : A) (t : List ℕ) → t ≡ flat_map line (map shows xs) → t ++ line (shows x) ≡ flat_map line (map shows (xs ++ x ∷ []))
lines_more shows xs x t is = ap (λ u. u ++ line (shows x)) is ∙ flat_map_more line [] (map shows xs) (shows x) ∙ ap (flat_map line) (sym (map-append shows xs (x ∷ [])))

pub lines_added : {A : Type 0} (shows : A → List ℕ × Entry) (xs : List A) (x : A) (lines old new : List (List ℕ)) (written : List ℕ) → joined old ≡ joined lines ++ flat_map line (map shows xs)
    → new ≡ old ++ written ∷ [] → written ≡ line (shows x) → joined new ≡ joined lines ++ flat_map line (map shows (xs ++ x ∷ []))
lines_added shows xs x lines old new written is push spelled =
    let L = flat_map line (map shows xs) in
    ap joined push ∙ sym (flat_map_more (λ (l : List ℕ). l) [] old written) ∙ ap (λ t. t ++ written) is ∙ append_assoc (joined lines) L written
    ∙ ap (λ t. joined lines ++ t) (ap (λ w. L ++ w) spelled ∙ lines_more shows xs x L refl)

-- ---- One text and one file

pub one_file : (text : List ℕ) (es fs : Entries) → IsFile text es → IsFile text fs → es ≡ fs
one_file text es fs f g = (front_one text es fs [] [] (file_front text es f) (file_front text fs g)).0

pub file_of : (es : Entries) → AreEntries es → IsFile (text_of es) es
file_of es are = record { entries = are; spelled = refl }

pub written_is_read : (es : Entries) → AreEntries es → IsFile (text_of es) es × ((fs : Entries) → IsFile (text_of es) fs → fs ≡ es) × (IsNoFile (text_of es) → ⊥)
written_is_read es are = (file_of es are, λ fs g. one_file (text_of es) fs es g (file_of es are), λ none. none es (file_of es are))
