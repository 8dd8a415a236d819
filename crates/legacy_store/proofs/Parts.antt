-- One part more, in lists of parts and in lists of lists of them.
use Rattle.std.proofs.Common.{ℕ, ◌≡◌, ◌+◌, ◌≤◌, ◌<◌, List, [], ◌∷◌, ◌++◌, length, refl, sym, ap, ◌∙◌, arith, subst, take, get_or}
use Rattle.std.specs.List.{flat_map, sum_by}
use Rattle.std.proofs.lemmas.List.{append_assoc, append-nil}
use Rattle.std.proofs.lemmas.List.Sums.{sum_by-append}
use Rattle.transfer.specs.declared.store.error.TransferError.{TransferError}
use Rattle.transfer.specs.declared.store.error.TransferError.TheVariants.{ContentMalformed}
use Rattle.transfer.specs.TransferError.{RefusedBy}
use Rattle.transfer.specs.Parts.{AreOpen, IsFirstFault, OpensMore, PartKind}
use Rattle.transfer.specs.Opening.{RefusedAfter}
use Rattle.transfer.proofs.Faults.{flat_more, open_append, part_refused, refused_as, take_one}

-- ---- One part more

pub none_open : {A B : Type 0} (K : PartKind A B TransferError) (limit sum : ℕ) → sum ≤ limit → AreOpen K limit sum [] []
none_open K limit sum le = record { each = tt; within = omega (arith, le) }

pub one_open : {A B : Type 0} (K : PartKind A B TransferError) (limit sum : ℕ) (x : A) (y : B) → K.OpensTo x y → sum + K.share x ≤ limit → AreOpen K limit sum (x ∷ []) (y ∷ [])
one_open K limit sum x y o le = record { each = (o, tt); within = omega (arith, le, sum_by-append K.share (x ∷ []) []) }

-- The part at a place is opened after those before it.
pub part_more : {A B : Type 0} (K : PartKind A B TransferError) (limit sum now : ℕ) (xs : List A) (i : ℕ) (x : A) (ys : List B) (y : B)
    → i < length xs → x ≡ get_or xs i x → AreOpen K limit sum (take i xs) ys → now ≡ sum + sum_by K.share (take i xs) → K.OpensTo x y → now + K.share x ≤ limit
    → AreOpen K limit sum (take (i + 1) xs) (ys ++ y ∷ [])
part_more K limit sum now xs i x ys y lt at opened sums o le =
    subst (λ t. AreOpen K limit sum t (ys ++ y ∷ [])) (sym (take_one xs i x lt at))
    (open_append K limit sum now (take i xs) ys (x ∷ []) (y ∷ []) opened sums (one_open K limit now x y o le))

pub part_share : {A : Type 0} (s : A → ℕ) (xs : List A) (i : ℕ) (x : A) → i < length xs → x ≡ get_or xs i x → sum_by s (take (i + 1) xs) ≡ sum_by s (take i xs) + s x
part_share s xs i x lt at =
    let whole : sum_by s (take (i + 1) xs) ≡ sum_by s (take i xs) + sum_by s (x ∷ []) = ap (sum_by s) (take_one xs i x lt at) ∙ sum_by-append s (take i xs) (x ∷ []) in
    omega (arith, whole, sum_by-append s (x ∷ []) [])

-- The parts at a place are opened after those before it.
pub flat_opens : {X A B : Type 0} (K : PartKind A B TransferError) (f : X → List A) (limit sum now : ℕ) (xs : List X) (i : ℕ) (x : X) (old mid new : List B)
    → i < length xs → x ≡ get_or xs i x → OpensMore K limit sum (flat_map f (take i xs)) old mid → now ≡ sum + sum_by K.share (flat_map f (take i xs)) → OpensMore K limit now (f x) mid new
    → OpensMore K limit sum (flat_map f (take (i + 1) xs)) old new
flat_opens K f limit sum now xs i x old mid new lt at a sums b = record {
  made = a.made ++ b.made;
  grows = b.grows ∙ ap (λ t. t ++ b.made) a.grows ∙ append_assoc old a.made b.made;
  opened = flat_more K f limit sum now xs i x a.made b.made lt at a.opened sums b.opened;
}

-- ---- A list that is malformed

pub malformed_after : (F : TransferError → ℕ → Type 0) (P : Type 0) (old new k : ℕ) → (P → F ContentMalformed k) → new ≡ old + k → (e : TransferError)
    → RefusedBy (λ e. (e ≡ ContentMalformed) × P) ⊥ e → RefusedAfter F old new e
malformed_after F P old new k f is e h =
    refused_as (λ e. (e ≡ ContentMalformed) × P) (λ e. (n : ℕ) × F e n × (new ≡ old + n)) ⊥ ⊥ (λ e h. (k, subst (λ x. F x k) (sym h.0) (f h.1), is)) (λ h. h) e h

pub malformed_by : (P : Type 0) (e : TransferError) → (e ≡ ContentMalformed) × P → RefusedBy (λ e. (e ≡ ContentMalformed) × P) ⊥ e
malformed_by P e h = subst (RefusedBy (λ e. (e ≡ ContentMalformed) × P) ⊥) (sym h.0) (refl, h.1)

-- One part alone.
pub one_refused : {A B : Type 0} (K : PartKind A B TransferError) (limit sum : ℕ) (x : A) (old new : ℕ) (e : TransferError) → sum ≤ limit → RefusedAfter (K.Fault sum x) old new e
    → RefusedAfter (IsFirstFault K limit sum (x ∷ [])) old new e
one_refused K limit sum x old new e le h =
    part_refused K limit sum sum (x ∷ []) 0 x [] old old new e (omega arith) refl (none_open K limit sum le) (omega arith) (omega arith) h

pub none_more : {A B : Type 0} (K : PartKind A B TransferError) (limit sum : ℕ) (old : List B) → sum ≤ limit → OpensMore K limit sum [] old old
none_more K limit sum old le = record { made = []; grows = sym (append-nil old); opened = none_open K limit sum le }
