-- The arguments of a command line.
use Rattle.std.proofs.Common.{◌≡◌, ◌≢◌, ℕ, ◌≤◌, Bool, true, false, List, ◌∷◌, ◌++◌, length, refl, sym, ◌∙◌, subst, rules, All, take}
use Rattle.std.proofs.lemmas.List.{take_all}
use lib.Pointwise.{bytes_decides}
use Rattle.std.specs.Prelude.{codes, nat_eq}
use Rattle.std.specs.Cmp.Lexicographic.{pointwise}
use Rattle.std.specs.Bool.{Decides}
use Rattle.std.proofs.lemmas.List.Elements.{All-from_recursion}
use Rattle.phc_core.specs.Ident.{IsIdent}
use Rattle.passdb_core.specs.Commands.{Command, add, change, check, remove, IsCommand, IsPassword, command_text}
use Rattle.passdb_core.specs.Reading.{IsCut}
use Rattle.passdb_core.proofs.Cuts.{Lacks, cut_is, ident_no_space, no_cut, one_cut, password_no_space}

pub refused : (b : Bool) (P : Type 0) → Decides b P → b ≡ false → P → ⊥
refused b P d e p = let k : false ≡ true = sym e ∙ d.1 p in cc k

pub named_same : (a b s t : List ℕ) → IsIdent a → IsIdent b → a ++ 32 ∷ s ≡ b ++ 32 ∷ t → (a ≡ b) × (s ≡ t)
named_same a b s t is too e = one_cut 32 a b s t (ident_no_space a is) (ident_no_space b too) e

pub passwords_same : (a b s t : List ℕ) → IsPassword a → IsPassword b → a ++ 32 ∷ s ≡ b ++ 32 ∷ t → (a ≡ b) × (s ≡ t)
passwords_same a b s t is too e = one_cut 32 a b s t (password_no_space a is) (password_no_space b too) e

-- the word in front of a command, and those after it
abbrev pub verb : Command → List ℕ
verb (add name w) = codes "add"
verb (check name w) = codes "check"
verb (change name old new) = codes "change"
verb (remove name) = codes "remove"

abbrev pub words_after : Command → List ℕ
words_after (add name w) = name ++ 32 ∷ w
words_after (check name w) = name ++ 32 ∷ w
words_after (change name old new) = name ++ 32 ∷ (old ++ 32 ∷ new)
words_after (remove name) = name

pub text_parts : (c : Command) → command_text c ≡ verb c ++ 32 ∷ words_after c
text_parts (add name w) = refl
text_parts (check name w) = refl
text_parts (change name old new) = refl
text_parts (remove name) = refl

pub verb_no_space : (c : Command) → Lacks 32 (verb c)
verb_no_space (add name w) = All-from_recursion (λ b. b ≢ 32) (codes "add") (search rules)
verb_no_space (check name w) = All-from_recursion (λ b. b ≢ 32) (codes "check") (search rules)
verb_no_space (change name old new) = All-from_recursion (λ b. b ≢ 32) (codes "change") (search rules)
verb_no_space (remove name) = All-from_recursion (λ b. b ≢ 32) (codes "remove") (search rules)

pub command_has_space : (t : List ℕ) (c : Command) → Lacks 32 t → t ≡ command_text c → ⊥
command_has_space t c plain e = no_cut 32 t (verb c) (words_after c) plain (e ∙ text_parts c)

pub not_same : (r : Bool) (a b s : List ℕ) → r ≡ pointwise nat_eq a b → b ≡ s → r ≡ false → a ≢ s
not_same r a b s is known differ e = let k : true ≡ false = sym ((bytes_decides a b).1 (e ∙ sym known)) ∙ sym is ∙ differ in cc k

pub verb_is_known : (line front back : List ℕ) → IsCut 32 line front back → front ≢ codes "add" → front ≢ codes "check" → front ≢ codes "change" → front ≢ codes "remove"
    → (c : Command) → IsCommand c → line ≡ command_text c → ⊥
verb_is_known line front back cut m n o p (add name w) is e = m (cut_is 32 line front back (codes "add") (words_after (add name w)) cut (verb_no_space (add name w)) e).0
verb_is_known line front back cut m n o p (check name w) is e = n (cut_is 32 line front back (codes "check") (words_after (check name w)) cut (verb_no_space (check name w)) e).0
verb_is_known line front back cut m n o p (change name old new) is e =
    o (cut_is 32 line front back (codes "change") (words_after (change name old new)) cut (verb_no_space (change name old new)) e).0
verb_is_known line front back cut m n o p (remove name) is e = p (cut_is 32 line front back (codes "remove") (words_after (remove name)) cut (verb_no_space (remove name)) e).0

pub all_taken : (P : ℕ → Type 0) (xs : List ℕ) (i : ℕ) → length xs ≤ i → All P (take i xs) → All P xs
all_taken P xs i all h = subst (All P) (take_all i xs all) h
