-- Commands, one after the other.
use Rattle.std.proofs.Common.{◌≡◌, ◌<◌, ◌≤◌, ◌+◌, ℕ, List, [], ◌∷◌, ◌++◌, Bool, true, false, map, take, drop, length, get_or, refl, sym, ap, ◌∙◌, subst, arith, zero-add, add_assoc, append-nil, append_assoc, length-append}
use Rattle.std.specs.Prelude.{Option, Some, None, IfSome, if◌then◌else◌, nat_lt}
use Rattle.std.specs.Option.{option_map}
use Rattle.std.specs.Io.KnownBytes.{Consumes}
use Rattle.std.proofs.KnownBytes.{Consumes-kept, Consumes-nil, Consumes-trans}
use Rattle.std.proofs.lemmas.Bool.{lt-ltb, le-ltb}
use Rattle.std.proofs.lemmas.Bool.Decides.{nat_tests}
use Rattle.std.proofs.lemmas.List.{map-append, take_more, take-append-drop, take-append-le, drop-append-le, take_all, drop_all}
use Rattle.octet_core.specs.Faults.{Rose}
use Rattle.passdb_core.specs.declared.error.DbError.{DbError}
use Rattle.passdb_core.specs.declared.error.DbError.TheVariants.{Malformed, Rng, Memory}
use Rattle.passdb_core.specs.declared.reply.Reply.{Reply}
use Rattle.passdb_core.specs.Calls.{CannotDraw, Does, RefusedBy, Runs, RunsShort}
use Rattle.passdb_core.specs.Commands.{Command, Run, after, does_to, draws, entries_after, run}
use Rattle.passdb_core.specs.Entries.{Book, Entries}

-- a run, and a second one after it
abbrev pub continue : Run → Run → Run
continue a b = record { replies = a.replies ++ b.replies; entries = b.entries; left = b.left; steps = a.steps + b.steps }

-- the run of no command
abbrev pub idle : Entries → List ℕ → Run
idle es d = record { replies = []; entries = es; left = d; steps = 0 }

continue_idle : (es : Entries) (d : List ℕ) (x : Option Run) → x ≡ option_map (continue (idle es d)) x
continue_idle es d None = refl
continue_idle es d (Some m) = ap (λ n. Some (record { replies = m.replies; entries = m.entries; left = m.left; steps = n })) (sym (zero-add m.steps))

after_continue : (y : Reply) (k : ℕ) (b : Run) (x : Option Run) → option_map (after y k) (option_map (continue b) x) ≡ option_map (continue (after y k b)) x
after_continue y k b None = refl
after_continue y k b (Some m) = ap (λ n. Some (record { replies = y ∷ (b.replies ++ m.replies); entries = m.entries; left = m.left; steps = n })) (sym (add_assoc k b.steps m.steps))

record Stepped (b : Bool) (f : Run → Run) (x : Option Run) (a : Run) : Type 0 where
  enough : b ≡ false
  more : Run
  ran : x ≡ Some more
  is : f more ≡ a

stepped : (b : Bool) (f : Run → Run) (x : Option Run) (a : Run) → (if b then None else option_map f x) ≡ Some a → Stepped b f x a
stepped true f x a e = absurd (let k : None ≡ Some a = e in cc k)
stepped false f None a e = absurd (let k : None ≡ Some a = e in cc k)
stepped false f (Some m) a e = record { enough = refl; more = m; ran = refl; is = (let k : Some (f m) ≡ Some a = e in cc k) }

enough : (n k : ℕ) → nat_lt n k ≡ false → k ≤ n
enough n k e = grind (arith, nat_tests, e)

-- a command for which there are octets enough
step_is : (r : ℕ) (c : Command) (cs : List Command) (es : Entries) (d : List ℕ) → draws (does_to r es c).change ≤ length d
    → run r (c ∷ cs) es d
    ≡ option_map (after (does_to r es c).reply (does_to r es c).steps) (run r cs (entries_after r es c (take (draws (does_to r es c).change) d)) (drop (draws (does_to r es c).change) d))
unfolding run
step_is r c cs es d long = rw (le-ltb (length d) (draws (does_to r es c).change) long) refl

-- and one for which there are not
step_short : (r : ℕ) (c : Command) (cs : List Command) (es : Entries) (d : List ℕ) → length d < draws (does_to r es c).change → run r (c ∷ cs) es d ≡ None
unfolding run
step_short r c cs es d short = rw (lt-ltb (length d) (draws (does_to r es c).change) short) refl

pub run_append : (r : ℕ) (cs more : List Command) (es : Entries) (d z : List ℕ) (a : Run) → run r cs es d ≡ Some a
    → run r (cs ++ more) es (d ++ z) ≡ option_map (continue a) (run r more a.entries (a.left ++ z))
unfolding run
run_append r [] more es d z a e =
    let same : idle es d ≡ a = (let k : Some (idle es d) ≡ Some a = e in cc k) in
    subst (λ (m : Run). run r more es (d ++ z) ≡ option_map (continue m) (run r more m.entries (m.left ++ z))) same (continue_idle es d (run r more es (d ++ z)))
run_append r (c ∷ cs) more es d z a e =
    let n = draws (does_to r es c).change in
    let B = after (does_to r es c).reply (does_to r es c).steps in
    let s = stepped (nat_lt (length d) n) B (run r cs (entries_after r es c (take n d)) (drop n d)) a e in
    let long : n ≤ length d = enough (length d) n s.enough in
    let i = run_append r cs more (entries_after r es c (take n d)) (drop n d) z s.more s.ran in
    step_is r c (cs ++ more) es (d ++ z) (omega (arith, long, length-append d z))
    ∙ ap (λ t. option_map B (run r (cs ++ more) (entries_after r es c t) (drop n (d ++ z)))) (take-append-le n d z long)
    ∙ ap (λ t. option_map B (run r (cs ++ more) (entries_after r es c (take n d)) t)) (drop-append-le n d z long)
    ∙ ap (option_map B) i
    ∙ after_continue (does_to r es c).reply (does_to r es c).steps s.more (run r more s.more.entries (s.more.left ++ z))
    ∙ ap (λ (m : Run). option_map (continue m) (run r more m.entries (m.left ++ z))) s.is

unfolded_none : (r : ℕ) (es : Entries) (d : List ℕ) → run r [] es d ≡ Some (idle es d)
unfolding run
unfolded_none r es d = refl

pub run_none : (r : ℕ) (es : Entries) (d : List ℕ) → run r [] es d ≡ Some (idle es d)
run_none r es d = unfolded_none r es d

-- What commands came to on the octets that they drew they come to with more octets after those.
pub run_told : (r : ℕ) (cs : List Command) (es : Entries) (d z : List ℕ) (a : Run) → run r cs es d ≡ Some a
    → run r cs es (d ++ z) ≡ Some (continue a (idle a.entries (a.left ++ z)))
run_told r cs es d z a e =
    ap (λ l. run r l es (d ++ z)) (sym (append-nil cs)) ∙ run_append r cs [] es d z a e ∙ ap (option_map (continue a)) (run_none r a.entries (a.left ++ z))

-- One command more.
pub run_more : (r : ℕ) (cs : List Command) (c : Command) (es : Entries) (d z : List ℕ) (a : Run) → run r cs es d ≡ Some a → a.left ≡ [] → length z ≡ draws (does_to r a.entries c).change
    → run r (cs ++ c ∷ []) es (d ++ z)
    ≡ Some (continue a (after (does_to r a.entries c).reply (does_to r a.entries c).steps (idle (entries_after r a.entries c z) [])))
run_more r cs c es d z a e none long =
    let n = draws (does_to r a.entries c).change in
    let B = after (does_to r a.entries c).reply (does_to r a.entries c).steps in
    let all : take n z ≡ z = take_all n z (omega (arith, long)) in
    let rest : drop n z ≡ [] = drop_all n z (omega (arith, long)) in
    run_append r cs (c ∷ []) es d z a e
    ∙ ap (λ t. option_map (continue a) (run r (c ∷ []) a.entries (t ++ z))) none
    ∙ ap (option_map (continue a)) (step_is r c [] a.entries z (omega (arith, long))
    ∙ ap (λ t. option_map B (run r [] (entries_after r a.entries c t) (drop n z))) all
    ∙ ap (λ t. option_map B (run r [] (entries_after r a.entries c z) t)) rest
    ∙ ap (option_map B) (run_none r (entries_after r a.entries c z) []))

-- A command that has to draw more than is left.
pub run_stops : (r : ℕ) (cs : List Command) (c : Command) (more : List Command) (es : Entries) (d z : List ℕ) (a : Run) → run r cs es d ≡ Some a → a.left ≡ []
    → length z < draws (does_to r a.entries c).change → run r (cs ++ c ∷ more) es (d ++ z) ≡ None
run_stops r cs c more es d z a e none short =
    run_append r cs (c ∷ more) es d z a e
    ∙ ap (λ t. option_map (continue a) (run r (c ∷ more) a.entries (t ++ z))) none
    ∙ ap (option_map (continue a)) (step_short r c more a.entries z short)

-- ---- What the calls promise

pub runs_none : (b : Book) (told : Option (List ℕ)) (n : ℕ) → Runs b [] told told n n [] b.entries
runs_none b told n = record {
  drawn = [];
  took = Consumes-nil told;
  ends = idle b.entries [];
  ran = run_none b.rounds b.entries [];
  all_drawn = refl;
  replies = refl;
  entries = refl;
  cost = omega arith;
}

-- the file after commands
abbrev then_book : Book → Run → Book
then_book b a = record { entries = a.entries; rounds = b.rounds }

book_from : (a b : Book) → a.entries ≡ b.entries → a.rounds ≡ b.rounds → a ≡ b
book_from a b e f = λ i. record { entries = e i; rounds = f i }

pub runs_more : (b mid : Book) (cs : List Command) (c : Command) (told between told_after : Option (List ℕ)) (n m k : ℕ) (ys : List Reply) (y : Reply) (es : Entries)
    → mid.rounds ≡ b.rounds → Runs b cs told between n m ys mid.entries → Does mid c between told_after m k y es
    → Runs b (cs ++ c ∷ []) told told_after n k (ys ++ y ∷ []) es
runs_more b mid cs c told between told_after n m k ys y es same h d =
    let a = h.ends in
    let at : mid ≡ then_book b a = book_from mid (then_book b a) h.entries same in
    let e : Does (then_book b a) c between told_after m k y es = subst (λ (x : Book). Does x c between told_after m k y es) at d in
    record {
      drawn = h.drawn ++ e.drawn;
      took = Consumes-trans told between told_after h.drawn e.drawn h.took e.took;
      ends = continue a (after (does_to b.rounds a.entries c).reply (does_to b.rounds a.entries c).steps (idle (entries_after b.rounds a.entries c e.drawn) []));
      ran = run_more b.rounds cs c b.entries h.drawn e.drawn a h.ran h.all_drawn e.count;
      all_drawn = refl;
      replies = ap (λ t. t ++ y ∷ []) h.replies ∙ ap (λ t. a.replies ++ t ∷ []) e.reply;
      entries = e.entries;
      cost = omega (arith, h.cost, e.cost);
    }

earlier : (a b n : ℕ) → a ≤ b → Rose b n → Rose a n
earlier a b n le r = omega (arith, le, r)

told_stops : (r : ℕ) (cs : List Command) (c : Command) (more : List Command) (es : Entries) (told between : Option (List ℕ)) (d : List ℕ) (a : Run) → run r cs es d ≡ Some a → a.left ≡ []
    → Consumes told between d → IfSome between (λ u. length u < draws (does_to r a.entries c).change) → IfSome told (λ t. run r (cs ++ c ∷ more) es t ≡ None)
told_stops r cs c more es None between d a ran none took short = tt
told_stops r cs c more es (Some t) None d a ran none took short = absurd took
told_stops r cs c more es (Some t) (Some u) d a ran none took short =
    subst (λ x. run r (cs ++ c ∷ more) es x ≡ None) (sym took) (run_stops r cs c more es d u a ran none short)

fewer : (between : Option (List ℕ)) (n : ℕ) → n ≡ 16 → IfSome between (λ u. length u < 16) → IfSome between (λ u. length u < n)
fewer None n e h = tt
fewer (Some u) n e h = omega (arith, e, h)

pub runs_short : (b mid : Book) (cs : List Command) (c : Command) (more : List Command) (told between told_after : Option (List ℕ)) (n m : ℕ) (ys : List Reply) (before at now : ℕ)
    → mid.rounds ≡ b.rounds → before ≤ at → Runs b cs told between n m ys mid.entries → CannotDraw mid c between told_after at now
    → RunsShort b (cs ++ c ∷ more) told told_after before now
runs_short b mid cs c more told between told_after n m ys before at now same le h d =
    let a = h.ends in
    let is : mid ≡ then_book b a = book_from mid (then_book b a) h.entries same in
    let e : CannotDraw (then_book b a) c between told_after at now = subst (λ (x : Book). CannotDraw x c between told_after at now) is d in
    record {
      rose = earlier before at now le e.1.0.0;
      drawn = h.drawn;
      took = Consumes-kept told between told_after h.drawn h.took e.1.1;
      short = ap (run b.rounds (cs ++ c ∷ more) b.entries) (sym (append-nil h.drawn)) ∙ run_stops b.rounds cs c more b.entries h.drawn [] a h.ran h.all_drawn (omega (arith, e.0));
      told_short = told_stops b.rounds cs c more b.entries told between h.drawn a h.ran h.all_drawn h.took (fewer between (draws (does_to b.rounds a.entries c).change) e.0 e.1.0.1);
    }

pub map_more : {A B : Type 0} (f : A → B) (xs : List A) (i : ℕ) (x : A) → i < length xs → x ≡ get_or xs i x → map f (take (i + 1) xs) ≡ map f (take i xs) ++ f x ∷ []
map_more f xs i x lt at = ap (map f) (take_more xs i x lt ∙ ap (λ y. take i xs ++ y ∷ []) (sym at)) ∙ map-append f (take i xs) (x ∷ [])

map_parts : {A : Type 0} (f : A → Command) (xs : List A) (i : ℕ) (x : A) → i < length xs → x ≡ get_or xs i x → map f xs ≡ map f (take i xs) ++ f x ∷ map f (drop (i + 1) xs)
map_parts f xs i x lt at =
    ap (map f) (sym (take-append-drop (i + 1) xs)) ∙ map-append f (take (i + 1) xs) (drop (i + 1) xs) ∙ ap (λ t. t ++ map f (drop (i + 1) xs)) (map_more f xs i x lt at)
    ∙ append_assoc (map f (take i xs)) (f x ∷ []) (map f (drop (i + 1) xs))

pub stops : {A : Type 0} (f : A → Command) (xs : List A) (i : ℕ) (x : A) (b mid : Book) (told between told_after : Option (List ℕ)) (n m : ℕ) (ys : List Reply) (before at now : ℕ) (e : DbError)
    → i < length xs → x ≡ get_or xs i x → mid.rounds ≡ b.rounds → before ≤ at → Runs b (map f (take i xs)) told between n m ys mid.entries
    → RefusedBy (CannotDraw mid (f x) between told_after at now) e → RefusedBy (RunsShort b (map f xs) told told_after before now) e
stops f xs i x b mid told between told_after n m ys before at now Malformed lt is same le d h = absurd h
stops f xs i x b mid told between told_after n m ys before at now Memory lt is same le d h = tt
stops f xs i x b mid told between told_after n m ys before at now Rng lt is same le d h =
    subst (λ l. RunsShort b l told told_after before now) (sym (map_parts f xs i x lt is)) (runs_short b mid (map f (take i xs)) (f x) (map f (drop (i + 1) xs)) told between told_after n m ys before at now same le d h)
