-- A reset: a name that is removed and added again has its new entry at its place.
use Rattle.std.proofs.Common.{ℕ, ◌≡◌, List, [], ◌∷◌, length, refl, sym, ap, ◌∙◌, subst}
use Rattle.std.specs.Prelude.{cond, Option, Some, None}
use Rattle.std.specs.Ordering.{is_eq, match_ordering, nat_cmp}
use Rattle.std.specs.declared.cmp.Ordering.{Ordering}
use Rattle.std.specs.declared.cmp.Ordering.TheVariants.{Less, Equal, Greater}
use Rattle.std.specs.Cmp.Lexicographic.{nat_list_cmp_total, slice_cmp}
use Rattle.std.specs.Io.KnownBytes.{Consumes}
use Rattle.std.proofs.KnownBytes.{Consumes-nil}
use Rattle.std.proofs.lemmas.Map.Lookups.{exact_bytes}
use Rattle.passdb_core.specs.Calls.{Does}
use Rattle.passdb_core.specs.Commands.{Change, add, becomes, does, does_to, draws, entries_after, made, remove}
use Rattle.passdb_core.specs.Entries.{AreEntries, Book, Entries, IsBelow, at, put, without}
use Rattle.passdb_core.specs.Entry.{Entry, fresh}
use Rattle.passdb_core.specs.declared.reply.Reply.{Reply}
use Rattle.passdb_core.specs.declared.reply.Reply.TheVariants.{Changed, Removed, Unknown}
use Rattle.passdb_command.specs.Work.{Outcomes, resets}

abbrev R : List ℕ → List ℕ → Ordering
R = slice_cmp nat_cmp

-- ---- A name that is below those of the entries

below_more : (name k : List ℕ) (es : Entries) → R name k ≡ Less → IsBelow k es → IsBelow name es
below_more name k [] h b = tt
below_more name k (e ∷ es) h b = (nat_list_cmp_total.trans name k e.0 h b.0, below_more name k es h b.1)

without-below : (name : List ℕ) (es : Entries) → IsBelow name es → without es name ≡ es
without-below name [] b = refl
without-below name (e ∷ es) b = ap (λ (o : Ordering). cond (is_eq o) es (e ∷ without es name)) b.0 ∙ ap (λ (t : Entries). e ∷ t) (without-below name es b.1)

at-below : (name : List ℕ) (es : Entries) → IsBelow name es → at es name ≡ None
at-below name [] b = refl
at-below name (e ∷ es) b = ap (λ (o : Ordering). cond (is_eq o) (Some e.1) (at es name)) b.0 ∙ at-below name es b.1

put-below : (name : List ℕ) (v : Entry) (es : Entries) → IsBelow name es → put es name v ≡ (name, v) ∷ es
put-below name v [] b = refl
put-below name v (e ∷ es) b = ap (λ (o : Ordering). match_ordering o ((name, v) ∷ e ∷ es) ((e.0, v) ∷ es) (e ∷ put es name v)) b.0

-- ---- An entry, by how the name compares to its own

without_first : (name : List ℕ) (e : List ℕ × Entry) (es : Entries) (o : Ordering) → R name e.0 ≡ o → without (e ∷ es) name ≡ cond (is_eq o) es (e ∷ without es name)
without_first name e es o h = ap (λ (o : Ordering). cond (is_eq o) es (e ∷ without es name)) h

put_first : (name : List ℕ) (v : Entry) (e : List ℕ × Entry) (es : Entries) (o : Ordering) → R name e.0 ≡ o
    → put (e ∷ es) name v ≡ match_ordering o ((name, v) ∷ e ∷ es) ((e.0, v) ∷ es) (e ∷ put es name v)
put_first name v e es o h = ap (λ (o : Ordering). match_ordering o ((name, v) ∷ e ∷ es) ((e.0, v) ∷ es) (e ∷ put es name v)) h

at_first : (name : List ℕ) (e : List ℕ × Entry) (es : Entries) (o : Ordering) → R name e.0 ≡ o → at (e ∷ es) name ≡ cond (is_eq o) (Some e.1) (at es name)
at_first name e es o h = ap (λ (o : Ordering). cond (is_eq o) (Some e.1) (at es name)) h

below_of_equal : (name : List ℕ) (e : List ℕ × Entry) (es : Entries) → R name e.0 ≡ Equal → IsBelow e.0 es → IsBelow name es
below_of_equal name e es h b = subst (λ (k : List ℕ). IsBelow k es) (sym (exact_bytes name e.0 h)) b

put_without_first : (name : List ℕ) (v : Entry) (e : List ℕ × Entry) (es : Entries) (o : Ordering) → R name e.0 ≡ o → IsBelow e.0 es
    → put (without es name) name v ≡ put es name v → put (without (e ∷ es) name) name v ≡ put (e ∷ es) name v
put_without_first name v e es Less h b rest =
    ap (λ (t : Entries). put t name v) (without_first name e es Less h ∙ ap (λ (t : Entries). e ∷ t) (without-below name es (below_more name e.0 es h b)))
put_without_first name v e es Equal h b rest =
    ap (λ (t : Entries). put t name v) (without_first name e es Equal h) ∙ put-below name v es (below_of_equal name e es h b)
    ∙ ap (λ (k : List ℕ). (k, v) ∷ es) (exact_bytes name e.0 h) ∙ sym (put_first name v e es Equal h)
put_without_first name v e es Greater h b rest =
    ap (λ (t : Entries). put t name v) (without_first name e es Greater h) ∙ put_first name v e (without es name) Greater h
    ∙ ap (λ (t : Entries). e ∷ t) rest ∙ sym (put_first name v e es Greater h)

put-without : (name : List ℕ) (v : Entry) (es : Entries) → AreEntries es → put (without es name) name v ≡ put es name v
put-without name v [] a = refl
put-without name v (e ∷ es) a = put_without_first name v e es (R name e.0) refl a.2 (put-without name v es a.3)

at_without_first : (name : List ℕ) (e : List ℕ × Entry) (es : Entries) (o : Ordering) → R name e.0 ≡ o → IsBelow e.0 es
    → at (without es name) name ≡ None → at (without (e ∷ es) name) name ≡ None
at_without_first name e es Less h b rest =
    ap (λ (t : Entries). at t name) (without_first name e es Less h) ∙ at_first name e (without es name) Less h ∙ rest
at_without_first name e es Equal h b rest =
    ap (λ (t : Entries). at t name) (without_first name e es Equal h) ∙ at-below name es (below_of_equal name e es h b)
at_without_first name e es Greater h b rest =
    ap (λ (t : Entries). at t name) (without_first name e es Greater h) ∙ at_first name e (without es name) Greater h ∙ rest

at-without : (name : List ℕ) (es : Entries) → AreEntries es → at (without es name) name ≡ None
at-without name [] a = refl
at-without name (e ∷ es) a = at_without_first name e es (R name e.0) refl a.2 (at-without name es a.3)

-- ---- The name is removed, and added with another password

removed_is_there : (r : ℕ) (o : Option Entry) (name : List ℕ) → Removed ≡ (does r o (remove name)).reply → (e : Entry) × (o ≡ Some e)
removed_is_there r None name h = absurd (let k : Removed ≡ Unknown = h in cc k)
removed_is_there r (Some e) name h = (e, refl)

made_outcome : (b : Book) (name w : List ℕ) (o : Option Entry) (e : Entry) (told told_after : Option (List ℕ)) (es : Entries) (drawn : List ℕ)
    → o ≡ Some e → length drawn ≡ 16 → Consumes told told_after drawn → es ≡ put b.entries name (fresh b.rounds w drawn)
    → Outcomes b name (resets b.rounds o w) told told_after Changed es
made_outcome b name w o e told told_after es drawn there count took entries =
    let whole : Outcomes b name (resets b.rounds (Some e) w) told told_after Changed es = record { reply = refl; drawn = drawn; count = count; took = took; entries = entries } in
    subst (λ (x : Option Entry). Outcomes b name (resets b.rounds x w) told told_after Changed es) (sym there) whole

pub removed_and_added : (b c : Book) (name w : List ℕ) (told told_after : Option (List ℕ)) (y z : Reply) (s t : ℕ) (es : Entries)
    → AreEntries b.entries → c.rounds ≡ b.rounds → y ≡ (does_to b.rounds b.entries (remove name)).reply → y ≡ Removed
    → c.entries ≡ entries_after b.rounds b.entries (remove name) [] → Does c (add name w) told told_after s t z es
    → Outcomes b name (resets b.rounds (at b.entries name) w) told told_after Changed es
removed_and_added b c name w told told_after y z s t es are rounds reply is entries d =
    let there = removed_is_there b.rounds (at b.entries name) name (sym is ∙ reply) in
    let gone : c.entries ≡ without b.entries name =
    entries ∙ ap (λ (x : Option Entry). becomes b.rounds name (does b.rounds x (remove name)).change b.entries []) there.1 in
    let none : at c.entries name ≡ None = ap (λ (t : Entries). at t name) gone ∙ at-without name b.entries are in
    let change : (does_to c.rounds c.entries (add name w)).change ≡ made w = ap (λ (x : Option Entry). (does c.rounds x (add name w)).change) none in
    let put_there : es ≡ put b.entries name (fresh b.rounds w d.drawn) =
    d.entries ∙ ap (λ (x : Change). becomes c.rounds name x c.entries d.drawn) change
    ∙ ap (λ (r : ℕ). put c.entries name (fresh r w d.drawn)) rounds ∙ ap (λ (t : Entries). put t name (fresh b.rounds w d.drawn)) gone
    ∙ put-without name (fresh b.rounds w d.drawn) b.entries are in
    made_outcome b name w (at b.entries name) there.0 told told_after es d.drawn there.1 (d.count ∙ ap draws change) d.took put_there

-- ---- The name is not there

other_reply : (b : Book) (name w : List ℕ) (o : Option Entry) (told : Option (List ℕ)) (y : Reply) (es : Entries)
    → y ≡ (does b.rounds o (remove name)).reply → (y ≡ Removed → ⊥) → es ≡ becomes b.rounds name (does b.rounds o (remove name)).change b.entries []
    → Outcomes b name (resets b.rounds o w) told told y es
other_reply b name w None told y es reply other entries = record { reply = reply; drawn = []; count = refl; took = Consumes-nil told; entries = entries }
other_reply b name w (Some e) told y es reply other entries = absurd (other reply)

pub not_removed : (b : Book) (name w : List ℕ) (told : Option (List ℕ)) (y : Reply) (es : Entries)
    → y ≡ (does_to b.rounds b.entries (remove name)).reply → (y ≡ Removed → ⊥) → es ≡ entries_after b.rounds b.entries (remove name) []
    → Outcomes b name (resets b.rounds (at b.entries name) w) told told y es
not_removed b name w told y es reply other entries = other_reply b name w (at b.entries name) told y es reply other entries
