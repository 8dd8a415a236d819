-- The lines of a text are its first line and those of what comes after it
use Rattle.std.proofs.Common.{◌≡◌, ◌∷◌, [], ℕ, suc, refl, ◌+◌, ◌<◌, ◌≤◌, ◌∙◌, sym, ap, subst, List, length, take, drop, min, arith, inl, inr, true, false, cond}
use Rattle.std.proofs.lemmas.Bool.{cases_lt}
use Rattle.std.proofs.lemmas.Bool.Decides.{nat_tests}
use Rattle.std.proofs.Math.ListN.{drop_of_length-le}
use Rattle.std.specs.Prelude.{◌==◌, Bool, Option, Some, None, Result, Ok, Err, nat_lt, not, position}
use Rattle.std.specs.List.{position_or_len}
use Rattle.pem_text.specs.declared.block.Block.{Block}
use Rattle.pem_text.specs.declared.block.PemError.{PemError}
use Rattle.pem_text.specs.declared.block.PemError.TheVariants.{Base64, NoEnd, OtherEnd, Memory}
use Rattle.pem_text.specs.declared.reading.Part.{Part}
use Rattle.pem_text.specs.Reading.{IsCause, Step, first_of, lines, onto_first, outcome, rest_of, step}

abbrev len : List ℕ → ℕ
len = position_or_len (λ c. c == 10)

-- ---- where the first line ends

some_of : (b : Bool) (k i : ℕ) → Some i ≡ cond b (Some k) None → i ≡ k
some_of true k i e = cc
some_of false k i e = cc

none_of : (b : Bool) (k : ℕ) → None ≡ cond b (Some k) None → b ≡ false
none_of true k e = cc
none_of false k e = refl

pub feed_some : (text : List ℕ) (i : ℕ) → Some i ≡ position (λ c. c == 10) text → i ≡ len text
feed_some text i e = some_of (nat_lt (len text) (length text)) (len text) i e

len_within : (text : List ℕ) → len text ≤ length text
len_within [] = omega arith
len_within (c ∷ cs) =
    let behind = len_within cs in
    elim (c == 10) as (λ b. cond (not b) (1 + len cs) 0 ≤ suc (length cs)) [ true ↦ omega arith | false ↦ omega arith ]

pub feed_none : (text : List ℕ) → None ≡ position (λ c. c == 10) text → length text ≡ len text
feed_none text e =
    let test = none_of (nat_lt (len text) (length text)) (len text) e in
    let most = len_within text in
    grind (arith, nat_tests)

pub rest_min : (text : List ℕ) (k : ℕ) → drop (min (k + 1) (length text)) text ≡ drop (k + 1) text
rest_min text k =
    elim (cases_lt (length text) (k + 1)) [
      | inl short ↦
          let m : min (k + 1) (length text) ≡ length text = omega arith in
          rw m (drop_of_length-le text {i = length text} (omega arith) ∙ sym (drop_of_length-le text {i = k + 1} (omega arith)))
      | inr long ↦
          let m : min (k + 1) (length text) ≡ k + 1 = omega arith in
          rw m refl
    ]

-- ---- lines

lines_cons : (c : ℕ) (cs : List ℕ) → lines (c ∷ cs) ≡ cond (c == 10) ([] ∷ lines cs) (onto_first c (lines cs))
unfolding lines
lines_cons c cs = refl

no_lines : lines [] ≡ []
unfolding lines
no_lines = refl

abbrev Cut : ℕ → List ℕ → ℕ → List (List ℕ) → Type 0
Cut c cs n all = all ≡ take n (c ∷ cs) ∷ lines (drop (n + 1) (c ∷ cs))

cut_at : (c : ℕ) (cs : List ℕ) → Cut c cs (1 + len cs) (onto_first c (lines cs)) → Cut c cs (len (c ∷ cs)) (lines (c ∷ cs))
cut_at c cs behind =
    lines_cons c cs
    ∙ elim (c == 10) as (λ b. Cut c cs (cond (not b) (1 + len cs) 0) (cond b ([] ∷ lines cs) (onto_first c (lines cs))))
    [ true ↦ refl | false ↦ behind ]

-- no line feed at the first place
cut_later : (c : ℕ) (cs : List ℕ) → lines cs ≡ take (len cs) cs ∷ lines (drop (len cs + 1) cs)
    → Cut c cs (1 + len cs) (onto_first c (lines cs))
cut_later c cs e =
    let n : 1 + len cs ≡ suc (len cs) = omega arith in
    let m : 1 + len cs + 1 ≡ suc (len cs + 1) = omega arith in
    ap (onto_first c) e
    ∙ ap (λ (k : ℕ). take k (c ∷ cs) ∷ lines (drop (len cs + 1) cs)) (sym n)
    ∙ ap (λ (k : ℕ). take (1 + len cs) (c ∷ cs) ∷ lines (drop k (c ∷ cs))) (sym m)

-- a text that is not empty
pub lines_cut : (c : ℕ) (cs : List ℕ) → lines (c ∷ cs) ≡ first_of (c ∷ cs) ∷ lines (rest_of (c ∷ cs))
lines_cut c [] = cut_at c [] (ap (onto_first c) no_lines ∙ ap (λ (t : List (List ℕ)). (c ∷ []) ∷ t) (sym no_lines))
lines_cut c (d ∷ ds) = cut_at c (d ∷ ds) (cut_later c (d ∷ ds) (lines_cut d ds))

-- what a line leaves to the rest
abbrev after : List (List ℕ) → Result Step PemError → Result (List Block) PemError
after rest (Ok s) = outcome rest s.blocks s.part
after rest (Err e) = Err e

outcome_cut : (text line rest : List ℕ) (bs : List Block) (p : Option Part) → 0 < length text → line ≡ first_of text → rest ≡ rest_of text
    → outcome (lines text) bs p ≡ after (lines rest) (step bs p line)
unfolding outcome
outcome_cut [] line rest bs p some e f = absurd (omega arith)
outcome_cut (c ∷ cs) line rest bs p some e f =
    ap (λ (ls : List (List ℕ)). outcome ls bs p) (lines_cut c cs)
    ∙ ap (λ (l : List ℕ). after (lines (rest_of (c ∷ cs))) (step bs p l)) (sym e)
    ∙ ap (λ (r : List ℕ). after (lines r) (step bs p line)) (sym f)

-- a line that is read
pub outcome_next : (text line rest : List ℕ) (bs : List Block) (p : Option Part) (more : List Block) (q : Option Part) → 0 < length text → line ≡ first_of text
    → rest ≡ rest_of text → step bs p line ≡ Ok (record { blocks = more; part = q }) → outcome (lines text) bs p ≡ outcome (lines rest) more q
outcome_next text line rest bs p more q some e f read =
    outcome_cut text line rest bs p some e f ∙ ap (after (lines rest)) read

-- a line that is refused
outcome_refused : (text line rest : List ℕ) (bs : List Block) (p : Option Part) (e : PemError) → 0 < length text → line ≡ first_of text
    → rest ≡ rest_of text → step bs p line ≡ Err e → outcome (lines text) bs p ≡ Err e
outcome_refused text line rest bs p e some at behind refused =
    outcome_cut text line rest bs p some at behind ∙ ap (after (lines rest)) refused

pub outcome_cause : (text line rest : List ℕ) (bs : List Block) (p : Option Part) (e : PemError) → 0 < length text → line ≡ first_of text
    → rest ≡ rest_of text → IsCause (step bs p line) e → IsCause (outcome (lines text) bs p) e
outcome_cause text line rest bs p Memory some at behind cause = tt
outcome_cause text line rest bs p (Base64 l) some at behind cause = outcome_refused text line rest bs p (Base64 l) some at behind cause
outcome_cause text line rest bs p (NoEnd l) some at behind cause = outcome_refused text line rest bs p (NoEnd l) some at behind cause
outcome_cause text line rest bs p (OtherEnd l) some at behind cause = outcome_refused text line rest bs p (OtherEnd l) some at behind cause

pub cause_along : (r s : Result (List Block) PemError) (e : PemError) → r ≡ s → IsCause r e → IsCause s e
cause_along r s e same = subst (λ (t : Result (List Block) PemError). IsCause t e) same

-- no lines are left
pub outcome_end : (bs : List Block) → outcome (lines []) bs None ≡ Ok bs
unfolding outcome lines
outcome_end bs = refl

pub outcome_open : (bs : List Block) (p : Part) → outcome (lines []) bs (Some p) ≡ Err (NoEnd p.label)
unfolding outcome lines
outcome_open bs p = refl
