-- Reading commands.
use Rattle.std.proofs.Common.{◌≡◌, ◌≢◌, ℕ, ◌<◌, ◌≤◌, List, [], ◌∷◌, ◌++◌, length, length-append, map, refl, sym, ap, ◌∙◌, subst, arith, rules, append_assoc}
use Rattle.std.specs.Prelude.{codes, ◌==◌, Bool, true, false, Result, Ok, Err, IfOk}
use Rattle.std.specs.List.{flat_map}
use Rattle.std.proofs.lemmas.List.Elements.{All-append, All-cons, All-from_recursion, All-weaker}
use Rattle.std.proofs.lemmas.List.{flat_map_more, length-map, map-append}
use Rattle.phc_core.specs.Ident.{IsIdent}
use Rattle.phc_core.proofs.OneLine.{ident_one_line}
use Rattle.passdb_core.specs.Commands.{Command, add, change, check, remove, IsCommand, command_text}
use Rattle.passdb_core.specs.Entries.{Entries, text_of}
use Rattle.passdb_core.specs.Reading.{AreCommands, IsFront, IsInput, IsCut, IsNoInput, IsScript, HasNoFront, Stops, command_line}
use Rattle.passdb_core.proofs.Cuts.{Lacks, cut_is, no_cut, one_cut, password_no_feed}
use Rattle.passdb_core.proofs.Files.{front_one}
use Rattle.passdb_core.proofs.Words.{named_same, passwords_same, text_parts, verb, verb_no_space, words_after}

-- ---- A command's text is one line

ident_no_feed : (t : List ℕ) → IsIdent t → Lacks 10 t
ident_no_feed t is = All-weaker (λ b. (b ≢ 10) × (b < 128)) (λ b. b ≢ 10) (λ b h. h.0) t (ident_one_line t is)

spaced : (a b : List ℕ) → Lacks 10 a → Lacks 10 b → Lacks 10 (a ++ 32 ∷ b)
spaced a b p q = All-append (λ b. b ≢ 10) a (32 ∷ b) p (All-cons (λ b. b ≢ 10) 32 b (λ e. omega (arith, e)) q)

pub command_no_feed : (c : Command) → IsCommand c → Lacks 10 (command_text c)
command_no_feed (add name w) is = spaced (codes "add") (name ++ 32 ∷ w) (All-from_recursion (λ b. b ≢ 10) (codes "add") (search rules)) (spaced name w (ident_no_feed name is.0) (password_no_feed w is.1))
command_no_feed (check name w) is = spaced (codes "check") (name ++ 32 ∷ w) (All-from_recursion (λ b. b ≢ 10) (codes "check") (search rules)) (spaced name w (ident_no_feed name is.0) (password_no_feed w is.1))
command_no_feed (change name old new) is =
    spaced (codes "change") (name ++ 32 ∷ (old ++ 32 ∷ new)) (All-from_recursion (λ b. b ≢ 10) (codes "change") (search rules))
    (spaced name (old ++ 32 ∷ new) (ident_no_feed name is.0) (spaced old new (password_no_feed old is.1) (password_no_feed new is.2)))
command_no_feed (remove name) is = spaced (codes "remove") name (All-from_recursion (λ b. b ≢ 10) (codes "remove") (search rules)) (ident_no_feed name is)

-- ---- One text is that of one command

add_check : codes "add" ≢ codes "check"
add_check = search rules

add_change : codes "add" ≢ codes "change"
add_change = search rules

add_remove : codes "add" ≢ codes "remove"
add_remove = search rules

check_change : codes "check" ≢ codes "change"
check_change = search rules

check_remove : codes "check" ≢ codes "remove"
check_remove = search rules

change_remove : codes "change" ≢ codes "remove"
change_remove = search rules

parted : (c d : Command) → command_text c ≡ command_text d → (verb c ≡ verb d) × (words_after c ≡ words_after d)
parted c d e = one_cut 32 (verb c) (verb d) (words_after c) (words_after d) (verb_no_space c) (verb_no_space d) (sym (text_parts c) ∙ e ∙ text_parts d)

pub one_command : (c d : Command) → IsCommand c → IsCommand d → command_text c ≡ command_text d → c ≡ d
one_command (add n w) (add m v) p q e = let k = named_same n m w v p.0 q.0 (parted (add n w) (add m v) e).1 in ap (λ x. add x w) k.0 ∙ ap (add m) k.1
one_command (add n w) (check m v) p q e = absurd (add_check (parted (add n w) (check m v) e).0)
one_command (add n w) (change m v u) p q e = absurd (add_change (parted (add n w) (change m v u) e).0)
one_command (add n w) (remove m) p q e = absurd (add_remove (parted (add n w) (remove m) e).0)
one_command (check n w) (add m v) p q e = absurd (add_check (sym (parted (check n w) (add m v) e).0))
one_command (check n w) (check m v) p q e = let k = named_same n m w v p.0 q.0 (parted (check n w) (check m v) e).1 in ap (λ x. check x w) k.0 ∙ ap (check m) k.1
one_command (check n w) (change m v u) p q e = absurd (check_change (parted (check n w) (change m v u) e).0)
one_command (check n w) (remove m) p q e = absurd (check_remove (parted (check n w) (remove m) e).0)
one_command (change n w t) (add m v) p q e = absurd (add_change (sym (parted (change n w t) (add m v) e).0))
one_command (change n w t) (check m v) p q e = absurd (check_change (sym (parted (change n w t) (check m v) e).0))
one_command (change n w t) (change m v u) p q e =
    let k = named_same n m (w ++ 32 ∷ t) (v ++ 32 ∷ u) p.0 q.0 (parted (change n w t) (change m v u) e).1 in
    let l = passwords_same w v t u p.1 q.1 k.1 in
    ap (λ x. change x w t) k.0 ∙ ap (λ x. change m x t) l.0 ∙ ap (change m v) l.1
one_command (change n w t) (remove m) p q e = absurd (change_remove (parted (change n w t) (remove m) e).0)
one_command (remove n) (add m v) p q e = absurd (add_remove (sym (parted (remove n) (add m v) e).0))
one_command (remove n) (check m v) p q e = absurd (check_remove (sym (parted (remove n) (check m v) e).0))
one_command (remove n) (change m v u) p q e = absurd (change_remove (sym (parted (remove n) (change m v u) e).0))
one_command (remove n) (remove m) p q e = ap remove (parted (remove n) (remove m) e).1

-- ---- Lines of commands

script_cut : (c : Command) (cs : List Command) (s : List ℕ) → flat_map command_line (c ∷ cs) ++ s ≡ command_text c ++ 10 ∷ (flat_map command_line cs ++ s)
script_cut c cs s = append_assoc (command_line c) (flat_map command_line cs) s ∙ append_assoc (command_text c) (10 ∷ []) (flat_map command_line cs ++ s)

whole_cut : (c : Command) (cs : List Command) → flat_map command_line (c ∷ cs) ≡ command_text c ++ 10 ∷ flat_map command_line cs
whole_cut c cs = append_assoc (command_text c) (10 ∷ []) (flat_map command_line cs)

nothing : (a b : List ℕ) → [] ≡ a ++ 10 ∷ b → ⊥
nothing [] b e = let k : [] ≡ 10 ∷ b = e in cc k
nothing (x ∷ a) b e = let k : [] ≡ x ∷ (a ++ 10 ∷ b) = e in cc k

-- The next line of commands.
pub record NextLine (rest : List ℕ) : Type 0 where
  pub next : Command
  pub more : List ℕ
  pub is : IsCommand next
  pub spelled : rest ≡ command_text next ++ 10 ∷ more

next_line : (cs ds : List Command) (rest : List ℕ) → AreCommands cs → AreCommands ds → flat_map command_line cs ++ rest ≡ flat_map command_line ds → rest ≢ [] → NextLine rest
next_line [] [] rest a b e some = absurd (some e)
next_line [] (d ∷ ds) rest a b e some = record { next = d; more = flat_map command_line ds; is = b.0; spelled = e ∙ whole_cut d ds }
next_line (c ∷ cs) [] rest a b e some = absurd (nothing (command_text c) (flat_map command_line cs ++ rest) (sym e ∙ script_cut c cs rest))
next_line (c ∷ cs) (d ∷ ds) rest a b e some =
    let k = one_cut 10 (command_text c) (command_text d) (flat_map command_line cs ++ rest) (flat_map command_line ds) (command_no_feed c a.0) (command_no_feed d b.0)
    (sym (script_cut c cs rest) ∙ e ∙ whole_cut d ds) in
    next_line cs ds rest a.1 b.1 k.1 some

pub no_script : (text : List ℕ) (cs : List Command) (rest : List ℕ) → AreCommands cs → text ≡ flat_map command_line cs ++ rest → rest ≢ [] → (NextLine rest → ⊥)
    → (ds : List Command) → IsScript text ds → ⊥
no_script text cs rest a e some none ds is = none (next_line cs ds rest a is.commands (sym e ∙ is.spelled) some)

scripts_same : (cs ds : List Command) → AreCommands cs → AreCommands ds → flat_map command_line cs ≡ flat_map command_line ds → cs ≡ ds
scripts_same [] [] a b e = refl
scripts_same [] (d ∷ ds) a b e = absurd (nothing (command_text d) (flat_map command_line ds) (e ∙ whole_cut d ds))
scripts_same (c ∷ cs) [] a b e = absurd (nothing (command_text c) (flat_map command_line cs) (sym e ∙ whole_cut c cs))
scripts_same (c ∷ cs) (d ∷ ds) a b e =
    let k = one_cut 10 (command_text c) (command_text d) (flat_map command_line cs) (flat_map command_line ds) (command_no_feed c a.0) (command_no_feed d b.0)
    (sym (whole_cut c cs) ∙ e ∙ whole_cut d ds) in
    ap (λ h. h ∷ cs) (one_command c d a.0 b.0 k.0) ∙ ap (λ t. d ∷ t) (scripts_same cs ds a.1 b.1 k.1)

commands_more : (cs : List Command) (c : Command) → AreCommands cs → IsCommand c → AreCommands (cs ++ c ∷ [])
commands_more [] c a is = (is, tt)
commands_more (d ∷ cs) c a is = (a.0, commands_more cs c a.1 is)

pub read_more : {A : Type 0} (f : A → Command) (xs ys : List A) (x : A) → ys ≡ xs ++ x ∷ [] → AreCommands (map f xs) → IsCommand (f x) → AreCommands (map f ys)
read_more f xs ys x e a is = subst AreCommands (sym (ap (map f) e ∙ map-append f xs (x ∷ []))) (commands_more (map f xs) (f x) a is)

pub script_more : {A : Type 0} (f : A → Command) (text : List ℕ) (xs ys : List A) (x : A) (rest front more : List ℕ) → ys ≡ xs ++ x ∷ [] → text ≡ flat_map command_line (map f xs) ++ rest
    → rest ≡ front ++ 10 ∷ more → front ≡ command_text (f x) → text ≡ flat_map command_line (map f ys) ++ more
script_more f text xs ys x rest front more e is cut named =
    let L = flat_map command_line (map f xs) in
    is ∙ ap (λ t. L ++ t) (cut ∙ ap (λ t. t ++ 10 ∷ more) named ∙ sym (append_assoc (command_text (f x)) (10 ∷ []) more))
    ∙ sym (append_assoc L (command_line (f x)) more)
    ∙ ap (λ t. t ++ more) (flat_map_more command_line [] (map f xs) (f x) ∙ ap (flat_map command_line) (sym (ap (map f) e ∙ map-append f xs (x ∷ []))))

-- ---- The input

pub one_input : (x : List ℕ) (es fs : Entries) (cs ds : List Command) → IsInput x es cs → IsInput x fs ds → (es ≡ fs) × (cs ≡ ds)
one_input x es fs cs ds p q =
    let f : IsFront x es (10 ∷ flat_map command_line cs) = record { entries = p.entries; spelled = p.spelled; stops = refl } in
    let g : IsFront x fs (10 ∷ flat_map command_line ds) = record { entries = q.entries; spelled = q.spelled; stops = refl } in
    let k = front_one x es fs (10 ∷ flat_map command_line cs) (10 ∷ flat_map command_line ds) f g in
    let rest : 10 ∷ flat_map command_line cs ≡ 10 ∷ flat_map command_line ds = k.1 in
    (k.0, scripts_same cs ds p.commands q.commands (cc rest))

-- What is no input.
pub no_line : (rest : List ℕ) → Lacks 10 rest → NextLine rest → ⊥
no_line rest plain n = no_cut 10 rest (command_text n.next) n.more plain n.spelled

pub no_command : (rest front more : List ℕ) → IsCut 10 rest front more → ((c : Command) → IsCommand c → front ≡ command_text c → ⊥) → NextLine rest → ⊥
no_command rest front more cut none n =
    none n.next n.is (cut_is 10 rest front more (command_text n.next) n.more cut (command_no_feed n.next n.is) n.spelled).0

input_front : (x : List ℕ) (es : Entries) (cs : List Command) → IsInput x es cs → IsFront x es (10 ∷ flat_map command_line cs)
input_front x es cs p = record { entries = p.entries; spelled = p.spelled; stops = refl }

pub front_none : (x : List ℕ) → HasNoFront x → IsNoInput x
front_none x none es cs p = none es (10 ∷ flat_map command_line cs) (input_front x es cs p)

pub no_empty_line : (x : List ℕ) (es : Entries) (rest : List ℕ) → IsFront x es rest → rest ≡ [] → IsNoInput x
no_empty_line x es rest f none fs cs p =
    let k : rest ≡ 10 ∷ flat_map command_line cs = (front_one x es fs rest (10 ∷ flat_map command_line cs) f (input_front x fs cs p)).1 in
    cc (none, k)

pub script_none : (x : List ℕ) (es : Entries) (rest lines : List ℕ) (b : ℕ) → IsFront x es rest → rest ≡ b ∷ lines → ((cs : List Command) → IsScript lines cs → ⊥) → IsNoInput x
script_none x es rest lines b f is none fs cs p =
    let k : rest ≡ 10 ∷ flat_map command_line cs = (front_one x es fs rest (10 ∷ flat_map command_line cs) f (input_front x fs cs p)).1 in
    none cs (record { commands = p.commands; spelled = (let j : lines ≡ flat_map command_line cs = cc (is, k) in j) })

feed : (b : ℕ) (t : List ℕ) → Stops (b ∷ t) → b ≡ 10
feed b t h = h

pub input_from : (x : List ℕ) (es : Entries) (rest lines : List ℕ) (b : ℕ) (cs : List Command) → IsFront x es rest → rest ≡ b ∷ lines → IsScript lines cs → IsInput x es cs
input_from x es rest lines b cs f is s = record {
  entries = f.entries;
  commands = s.commands;
  spelled = f.spelled ∙ ap (λ t. text_of es ++ t) (is ∙ ap (λ o. o ∷ lines) (feed b lines (subst Stops is f.stops)) ∙ ap (λ t. 10 ∷ t) s.spelled);
}

pub some_left : (b : Bool) (t : List ℕ) → b ≡ (length t == 0) → b ≡ false → t ≢ []
some_left b t is not none = let k : b ≡ true = is ∙ ap (λ l. length l == 0) none in cc (k, not)

pub ok_as : {A E : Type 0} (r : Result A E) (P Q : A → Type 0) → ((a : A) → P a → Q a) → IfOk r P → IfOk r Q
ok_as (Ok a) P Q f h = f a h
ok_as (Err e) P Q f h = tt

pub nil_from : (t : List ℕ) → length t ≡ 0 → t ≡ []
nil_from [] e = refl
nil_from (b ∷ t) e = absurd (omega (arith, e))

-- ---- There are no more commands than octets

command_some : (c : Command) → 1 ≤ length (command_line c)
command_some c = omega (arith, length-append (command_text c) (10 ∷ []))

pub few_commands : (cs : List Command) → length cs ≤ length (flat_map command_line cs)
few_commands [] = omega arith
few_commands (c ∷ cs) = omega (arith, length-append (command_line c) (flat_map command_line cs), command_some c, few_commands cs)

pub few_script : {A : Type 0} (f : A → Command) (text : List ℕ) (xs : List A) (rest : List ℕ) → text ≡ flat_map command_line (map f xs) ++ rest → length xs ≤ length text
few_script f text xs rest is = omega (arith, few_commands (map f xs), length-map xs f, ap length is, length-append (flat_map command_line (map f xs)) rest)
