-- What is written is read back
use Rattle.std.proofs.Common.{◌≡◌, ◌++◌, ◌∷◌, [], ℕ, zero, suc, refl, ◌-◌, ◌<◌, ◌≤◌, ◌∙◌, sym, ap, List, length, take, drop, true, false, arith, rules, All, append-nil, append_assoc, length-append, eq-eqb, cond}
use Rattle.std.specs.Prelude.{◌==◌, Option, Some, None, Result, Ok, Err, codes, filter, nat_eq, reverse}
use Rattle.std.specs.Cmp.Lexicographic.{pointwise}
use Rattle.std.proofs.lemmas.List.{nil_from_length, length-drop, reverse-append, reverse-reverse, take-append-drop}
use Rattle.std.proofs.lemmas.List.Elements.{All-append, All-head, All-tail, All-take, All-drop}
use Rattle.std.proofs.Math.Seq.{take-append_seam, drop-append_seam}
use Rattle.base64.specs.Engines.{standard}
use Rattle.base64.specs.GeneralPurpose.{IsBytes, encode_of}
use Rattle.base64.specs.declared.decode.DecodeError.{DecodeError}
use Rattle.base64.proofs.EngineFacts.{decode_of-encode_of}
use Rattle.pem_text.specs.declared.block.Block.{Block}
use Rattle.pem_text.specs.declared.block.PemError.{PemError}
use Rattle.pem_text.specs.declared.block.PemError.TheVariants.{Base64, NoEnd, OtherEnd}
use Rattle.pem_text.specs.declared.reading.Part.{Part}
use Rattle.pem_text.specs.Pem.{in_lines, lines_of, pem}
use Rattle.pem_text.specs.Reading.{IsInLine, Step, blocks, continued, decoded, ended, is_blank, is_character, label_before_hyphens, label_in, lines, onto_first, outcome, skip_blanks, step, with_block, without_end_blanks}
use Rattle.pem_text.proofs.Blanks.{keep_one}
use Rattle.pem_text.proofs.Symbols.{all_of, encoded_all}

-- a character is no hyphen; it is no white space
abbrev IsNoHyphen : ℕ → Type 0
IsNoHyphen c = (c == 45) ≡ false

abbrev IsNoBlank : ℕ → Type 0
IsNoBlank c = is_blank c ≡ false

-- ---- lines

-- a line that is ended by a line feed
lines_line : (line rest : List ℕ) → All IsInLine line → lines (line ++ 10 ∷ rest) ≡ line ∷ lines rest
unfolding lines
lines_line [] rest h = refl
lines_line (c ∷ cs) rest h =
    rw (All-head IsInLine c cs h) (ap (onto_first c) (lines_line cs rest (All-tail IsInLine c cs h)))

-- ---- boundaries

abbrev hyphens : List ℕ
hyphens = codes "-----"

same_octets : (xs : List ℕ) → pointwise nat_eq xs xs ≡ true
same_octets [] = refl
same_octets (x ∷ xs) = rw (eq-eqb x x refl) (same_octets xs)

hyphens_stay : (label : List ℕ) → without_end_blanks (label ++ hyphens) ≡ label ++ hyphens
hyphens_stay label =
    let turned : reverse (label ++ hyphens) ≡ hyphens ++ reverse label = reverse-append label hyphens in
    ap (λ (t : List ℕ). reverse t)
    (ap skip_blanks turned ∙ keep_one 45 (codes "----" ++ reverse label) refl ∙ sym turned)
    ∙ reverse-reverse (label ++ hyphens)

label_stands : (label : List ℕ) → label_before_hyphens (label ++ hyphens) ≡ Some label
label_stands label =
    let size : length (label ++ hyphens) - 5 ≡ length label = omega (arith, length-append label hyphens) in
    let front : take (length (label ++ hyphens) - 5) (label ++ hyphens) ≡ label = rw size (take-append_seam label hyphens) in
    let back : drop (length (label ++ hyphens) - 5) (label ++ hyphens) ≡ hyphens = rw size (drop-append_seam label hyphens) in
    ap (λ (t : List ℕ). cond (pointwise nat_eq t hyphens) (Some (take (length (label ++ hyphens) - 5) (label ++ hyphens))) None) back
    ∙ ap (λ (t : List ℕ). Some t) front

label_found : (label : List ℕ) → label_before_hyphens (without_end_blanks (label ++ hyphens)) ≡ Some label
label_found label = ap label_before_hyphens (hyphens_stay label) ∙ label_stands label

begins : (label : List ℕ) → label_in (codes "-----BEGIN ") (codes "-----BEGIN " ++ (label ++ hyphens)) ≡ Some label
begins label = label_found label

ends : (label : List ℕ) → label_in (codes "-----END ") (codes "-----END " ++ (label ++ hyphens)) ≡ Some label
ends label = label_found label

no_begin : (line : List ℕ) → 0 < length line → All IsNoHyphen line → label_in (codes "-----BEGIN ") line ≡ None
no_begin [] some h = absurd (omega arith)
no_begin (c ∷ cs) some h = rw (All-head IsNoHyphen c cs h) refl

no_end : (line : List ℕ) → 0 < length line → All IsNoHyphen line → label_in (codes "-----END ") line ≡ None
no_end [] some h = absurd (omega arith)
no_end (c ∷ cs) some h = rw (All-head IsNoHyphen c cs h) refl

-- ---- a line of characters

all_stay : (cs : List ℕ) → All IsNoBlank cs → filter is_character cs ≡ cs
all_stay [] h = refl
all_stay (c ∷ cs) h =
    rw (All-head IsNoBlank c cs h) (ap (λ (t : List ℕ). c ∷ t) (all_stay cs (All-tail IsNoBlank c cs h)))

abbrev continued_or : Part → List ℕ → Option (List ℕ) → Result Step PemError
continued_or p line o = elim o [
  | Some _ ↦ Err (NoEnd p.label)
  | None ↦ Ok (record {
    blocks = [];
    part = Some (record { label = p.label; body = p.body ++ filter is_character line });
  })
]

abbrev inside_or : Part → List ℕ → Option (List ℕ) → Result Step PemError
inside_or p line o = elim o [ Some label ↦ ended [] p label | None ↦ continued [] p line ]

abbrev grown : Part → List ℕ → Step
grown p line = record { blocks = []; part = Some (record { label = p.label; body = p.body ++ line }) }

step_line : (p : Part) (line : List ℕ) → 0 < length line → All IsNoHyphen line → All IsNoBlank line
    → step [] (Some p) line ≡ Ok (grown p line)
step_line p line some h b =
    ap (inside_or p line) (no_end line some h)
    ∙ ap (continued_or p line) (no_begin line some h)
    ∙ ap (λ (t : List ℕ). Ok (grown p t)) (all_stay line b)

-- what a line leaves to the rest
abbrev after : List (List ℕ) → Result Step PemError → Result (List Block) PemError
after rest (Ok s) = outcome rest s.blocks s.part
after rest (Err e) = Err e

outcome_step : (line : List ℕ) (rest : List (List ℕ)) (p : Option Part) (s : Step) → step [] p line ≡ Ok s
    → outcome (line ∷ rest) [] p ≡ outcome rest s.blocks s.part
unfolding outcome
outcome_step line rest p s e = ap (after rest) e

abbrev part_of : List ℕ → List ℕ → Option Part
part_of label body = Some (record { label = label; body = body })

-- the lines of some characters
walk : (n : ℕ) (cs rest label body : List ℕ) → length cs ≤ n → All IsInLine cs → All IsNoHyphen cs → All IsNoBlank cs
    → outcome (lines (lines_of n cs ++ rest)) [] (part_of label body) ≡ outcome (lines rest) [] (part_of label (body ++ cs))
unfolding lines_of
walk zero cs rest label body fits l h b =
    let none : cs ≡ [] = nil_from_length cs (omega arith) in
    ap (λ (t : List ℕ). outcome (lines rest) [] (part_of label t)) (sym (append-nil body) ∙ ap (λ (t : List ℕ). body ++ t) (sym none))
walk (suc n) [] rest label body fits l h b =
    ap (λ (t : List ℕ). outcome (lines rest) [] (part_of label t)) (sym (append-nil body))
walk (suc n) (c ∷ cs) rest label body fits l h b =
    let all = c ∷ cs in
    let line = take 64 all in
    let more = drop 64 all in
    let shorter = length-drop 64 all in
    let p : Part = record { label = label; body = body } in
    let parts : ((line ++ 10 ∷ []) ++ lines_of n more) ++ rest ≡ line ++ 10 ∷ (lines_of n more ++ rest) = simp append_assoc in
    ap (λ (t : List ℕ). outcome (lines t) [] (part_of label body)) parts
    ∙ ap (λ (t : List (List ℕ)). outcome t [] (part_of label body)) (lines_line line (lines_of n more ++ rest) (All-take IsInLine 64 all l))
    ∙ outcome_step line (lines (lines_of n more ++ rest)) (part_of label body) (grown p line)
    (step_line p line (omega arith) (All-take IsNoHyphen 64 all h) (All-take IsNoBlank 64 all b))
    ∙ walk n more rest label (body ++ line) (omega arith) (All-drop IsInLine 64 all l) (All-drop IsNoHyphen 64 all h) (All-drop IsNoBlank 64 all b)
    ∙ ap (λ (t : List ℕ). outcome (lines rest) [] (part_of label t)) (append_assoc body line more ∙ ap (λ (t : List ℕ). body ++ t) (take-append-drop 64 all))

-- ---- the boundaries as lines

abbrev begin_line : List ℕ → List ℕ
begin_line label = codes "-----BEGIN " ++ (label ++ hyphens)

abbrev end_line : List ℕ → List ℕ
end_line label = codes "-----END " ++ (label ++ hyphens)

begin_in_line : (label : List ℕ) → All IsInLine label → All IsInLine (begin_line label)
begin_in_line label h =
    All-append IsInLine (codes "-----BEGIN ") (label ++ hyphens) (all_of IsInLine (codes "-----BEGIN ") (search rules))
    (All-append IsInLine label hyphens h (all_of IsInLine hyphens (search rules)))

end_in_line : (label : List ℕ) → All IsInLine label → All IsInLine (end_line label)
end_in_line label h =
    All-append IsInLine (codes "-----END ") (label ++ hyphens) (all_of IsInLine (codes "-----END ") (search rules))
    (All-append IsInLine label hyphens h (all_of IsInLine hyphens (search rules)))

abbrev begun_or : Option (List ℕ) → Option Part
begun_or o = elim o [ Some label ↦ Some (record { label = label; body = [] }) | None ↦ None ]

open_block : (label rest : List ℕ) → All IsInLine label
    → outcome (lines (begin_line label ++ 10 ∷ rest)) [] None ≡ outcome (lines rest) [] (part_of label [])
open_block label rest h =
    ap (λ (t : List (List ℕ)). outcome t [] None) (lines_line (begin_line label) rest (begin_in_line label h))
    ∙ outcome_step (begin_line label) (lines rest) None (record { blocks = []; part = part_of label [] })
    (ap (λ (o : Option (List ℕ)). Ok (record { blocks = []; part = begun_or o })) (begins label))

abbrev decoded_or : List ℕ → Result (List ℕ) DecodeError → Result Block PemError
decoded_or label r = elim r [ Ok octets ↦ Ok (record { label = label; octets = octets }) | Err _ ↦ Err (Base64 label) ]

abbrev block_of : List ℕ → List ℕ → Block
block_of label octets = record { label = label; octets = octets }

step_end : (label octets : List ℕ) → IsBytes octets
    → step [] (part_of label (encode_of standard octets)) (end_line label) ≡ Ok (record { blocks = block_of label octets ∷ []; part = None })
step_end label octets bytes =
    let p : Part = record { label = label; body = encode_of standard octets } in
    ap (inside_or p (end_line label)) (ends label)
    ∙ ap (λ (b : _). cond b (with_block [] (decoded p)) (Err (OtherEnd label))) (same_octets label)
    ∙ ap (λ (r : Result (List ℕ) DecodeError). with_block [] (decoded_or label r)) (decode_of-encode_of standard octets refl bytes)

close_block : (label octets : List ℕ) → All IsInLine label → IsBytes octets
    → outcome (lines (end_line label ++ 10 ∷ [])) [] (part_of label (encode_of standard octets)) ≡ Ok (block_of label octets ∷ [])
unfolding outcome lines
close_block label octets h bytes =
    ap (λ (t : List (List ℕ)). outcome t [] (part_of label (encode_of standard octets))) (lines_line (end_line label) [] (end_in_line label h))
    ∙ outcome_step (end_line label) [] (part_of label (encode_of standard octets)) (record { blocks = block_of label octets ∷ []; part = None })
    (step_end label octets bytes)

-- what is written is read back
pub read_back : (label octets : List ℕ) → All IsInLine label → IsBytes octets → blocks (pem label octets) ≡ Ok (block_of label octets ∷ [])
read_back label octets h bytes =
    let cs = encode_of standard octets in
    let rest = in_lines cs ++ (end_line label ++ 10 ∷ []) in
    let parts : pem label octets ≡ begin_line label ++ 10 ∷ rest = simp append_assoc in
    ap blocks parts
    ∙ open_block label rest h
    ∙ walk (length cs) cs (end_line label ++ 10 ∷ []) label [] (omega arith)
    (encoded_all IsInLine (search rules) refl refl octets) (encoded_all IsNoHyphen (search rules) refl refl octets)
    (encoded_all IsNoBlank (search rules) refl refl octets)
    ∙ close_block label octets h bytes
