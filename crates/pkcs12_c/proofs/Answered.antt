-- Where there is room, and where there are random octets, their numbers do not come.
use Rattle.std.proofs.Common.{◌≡◌, ◌∙◌, ℕ, ◌≤◌, inl, inr, List, length, sym, ap, subst, arith}
use Rattle.std.specs.Prelude.{◌≢◌, Result, Ok, Err, IfOk, IfErr}
use Rattle.std.proofs.lemmas.Bool.{cases_lt}
use Rattle.transfer.specs.Limits.{rounds_limit}
use Rattle.transfer.specs.declared.store.error.TransferError.{TransferError}
use Rattle.transfer.specs.declared.store.error.TransferError.TheVariants.{Memory, Rng}
use Rattle.pkcs12_c.specs.Answers.{ChangeAnswers, Follows, Hands, OpenAnswers, Refuses, StoreChanged, StoreOpened, StoreTransferred, TransferAnswers}
use Rattle.pkcs12_c.specs.Changed.{IsRefusedChange}
use Rattle.pkcs12_c.specs.Drawn.{IsRefusedDrawn, TransfersDrawn}
use Rattle.pkcs12_c.specs.Opened.{OpensWithin}
use Rattle.pkcs12_c.specs.PemText.{opened_text, pem_text}
use Rattle.pkcs12_c.specs.Refusal.{answer_number}
use Rattle.pkcs12_c.specs.Room.{ChangesDrawWithin, HasRoom, OpeningsFit, StoresOutnumber, TransfersFit, room_for}
use Rattle.pkcs12_c.specs.declared.refusal.Refusal.{Refusal}
use Rattle.pkcs12_c.specs.declared.refusal.Refusal.TheVariants.{Rounds, Password, Store, Room}
use Rattle.pkcs12_c.proofs.Numbers.{numbers_tell}

abbrev pub Answer : Type 0
Answer = Result (Unit {0}) Refusal

-- ---- two answers are not one

pub done_is_not : (r : Answer) (e : Refusal) → r ≡ Ok tt → r ≡ Err e → ⊥
done_is_not r e h k = absurd cc

pub rounds_is_not_room : (r : Answer) → r ≡ Err Rounds → r ≡ Err Room → ⊥
rounds_is_not_room r h k = absurd cc

pub password_is_not_room : (r : Answer) → r ≡ Err Password → r ≡ Err Room → ⊥
password_is_not_room r h k = absurd cc

pub store_is_not_room : (r : Answer) (e : TransferError) → r ≡ Err (Store e) → r ≡ Err Room → ⊥
store_is_not_room r e h k = absurd cc

pub rounds_is_not_store : (r : Answer) (e : TransferError) → r ≡ Err Rounds → r ≡ Err (Store e) → ⊥
rounds_is_not_store r e h k = absurd cc

pub password_is_not_store : (r : Answer) (e : TransferError) → r ≡ Err Password → r ≡ Err (Store e) → ⊥
password_is_not_store r e h k = absurd cc

same_cause : (r : Answer) (e f : TransferError) → r ≡ Err (Store e) → r ≡ Err (Store f) → e ≡ f
same_cause r e f h k = cc

-- ---- room

-- no more than the room is needed, and it is enough
record Roomy (n output needed : ℕ) (r : Answer) : Type 0 where
  pub within : needed ≤ room_for n
  pub enough : room_for n ≤ output → r ≡ Err Room → ⊥

refuses_roomy : (n : ℕ) (old new : List ℕ) (needed : ℕ) (r : Answer) (e : TransferError) → Refuses old new needed r (Store e) → Roomy n (length old) needed r
refuses_roomy n old new needed r e f = record { within = omega (arith, f.2); enough = λ enough lacks. store_is_not_room r e f.0 lacks }

hands_roomy : (n : ℕ) (text old new : List ℕ) (needed : ℕ) (r : Answer) → length text ≤ room_for n → Hands text old new needed r → Roomy n (length old) needed r
hands_roomy n text old new needed r fits (inl f) = record { within = omega (arith, f.size, fits); enough = λ enough lacks. done_is_not r Room (f.whole (omega (arith, fits, enough))).0 lacks }
hands_roomy n text old new needed r fits (inr f) = refuses_roomy n old new needed r _ f

follows_roomy : {T : Type 0} (n : ℕ) (text : T → List ℕ) (t : Result T TransferError) (P : T → Type 0) (old new : List ℕ) (needed : ℕ) (r : Answer)
    → ((x : T) → P x → length (text x) ≤ room_for n) → IfOk t P → Follows text t old new needed r → Roomy n (length old) needed r
follows_roomy n text (Ok x) P old new needed r fits is f = hands_roomy n (text x) old new needed r (fits x is) f
follows_roomy n text (Err e) P old new needed r fits is f = refuses_roomy n old new needed r e f

-- ---- random octets

memory_is_not : (r : Answer) → r ≡ Err (Store Memory) → r ≡ Err (Store Rng) → ⊥
memory_is_not r h k = absurd cc

-- The answer is a refusal of the store, other than running out of memory, only where that is what the store came to.
hands_no_refusal : (text old new : List ℕ) (needed : ℕ) (r : Answer) (e : TransferError) → (r ≡ Err (Store Memory) → r ≡ Err (Store e) → ⊥) → Hands text old new needed r → r ≡ Err (Store e) → ⊥
hands_no_refusal text old new needed r e other (inl f) is =
    elim (cases_lt (length old) (length text)) [
      | inl lt ↦ store_is_not_room r e is (f.none lt).0
      | inr le ↦ done_is_not r (Store e) (f.whole le).0 is
    ]
hands_no_refusal text old new needed r e other (inr f) is = other f.0 is

follows_from : {T : Type 0} (text : T → List ℕ) (t : Result T TransferError) (old new : List ℕ) (needed : ℕ) (r : Answer) (e : TransferError) → (r ≡ Err (Store Memory) → r ≡ Err (Store e) → ⊥)
    → Follows text t old new needed r → r ≡ Err (Store e) → t ≡ Err e
follows_from text (Ok x) old new needed r e other f is = absurd (hands_no_refusal (text x) old new needed r e other f is)
follows_from text (Err d) old new needed r e other f is = ap (λ c. Err c) (same_cause r d e f.0 is)

refused_is : {T : Type 0} (t : Result T TransferError) (P : TransferError → Type 0) (e : TransferError) → t ≡ Err e → IfErr t P → P e
refused_is t P e is h = let Q : Result _ TransferError → Type 0 = λ t. IfErr t P in subst Q is h

-- ---- the transfer

module _ (b p q random : List ℕ) (rounds limit : ℕ) (old new : List ℕ) (needed : ℕ) (r : Answer) (a : TransferAnswers b p q random rounds limit old new needed r) where
  -- one of the three cases holds
  transfer_cases : (Refuses old new needed r Rounds → ⊥) → (Refuses old new needed r Password → ⊥) → (rounds ≤ rounds_limit → StoreTransferred b p q random rounds limit old new needed r → ⊥) → ⊥
  transfer_cases by_rounds by_password by_store =
      by_rounds (a.rounds_first (λ are. by_password (a.then_password are (λ is. by_store are.1 (a.then_store are is)))))

  transferred_roomy : TransfersFit → rounds ≤ rounds_limit → StoreTransferred b p q random rounds limit old new needed r → Roomy (length b) (length old) needed r
  transferred_roomy fit most s =
      follows_roomy (length b) (λ t. pem_text t.certificates t.documents) s.transferred (λ t. TransfersDrawn b p limit rounds q random t.certificates t.documents) old new needed r
      (λ t h. fit b p q random limit rounds t.certificates t.documents most h) s.opened s.follows

  pub transfer_room : TransfersFit → (number : ℕ) → number ≡ answer_number r → HasRoom (length b) (length old) needed number
  transfer_room fit number is = record {
    within = elim (cases_lt (room_for (length b)) needed) [
      | inl lt ↦ absurd (transfer_cases (λ f. omega (arith, lt, f.2)) (λ f. omega (arith, lt, f.2)) (λ most s. omega (arith, lt, (transferred_roomy fit most s).within)))
      | inr le ↦ le
    ];
    enough = λ enough same.
        let lacks : r ≡ Err Room = numbers_tell r (Err Room) (sym is ∙ same) in
        transfer_cases (λ f. rounds_is_not_room r f.0 lacks) (λ f. password_is_not_room r f.0 lacks) (λ most s. (transferred_roomy fit most s).enough enough lacks);
  }

  pub random_enough : StoresOutnumber → (number : ℕ) → number ≡ answer_number r → length b ≤ length random → number ≢ 20
  random_enough outnumber number is enough same =
      let short : r ≡ Err (Store Rng) = numbers_tell r (Err (Store Rng)) (sym is ∙ same) in
      transfer_cases (λ f. rounds_is_not_store r Rng f.0 short) (λ f. password_is_not_store r Rng f.0 short)
      (λ most s.
      let is : s.transferred ≡ Err Rng = follows_from (λ t. pem_text t.certificates t.documents) s.transferred old new needed r Rng (memory_is_not r) s.follows short in
      omega (arith, enough, outnumber b p random limit (refused_is s.transferred (IsRefusedDrawn b p limit random) Rng is s.refused)))

-- ---- the opening

module _ (b p : List ℕ) (limit : ℕ) (old new : List ℕ) (needed : ℕ) (r : Answer) (a : OpenAnswers b p limit old new needed r) where
  open_cases : (Refuses old new needed r Password → ⊥) → (StoreOpened b p limit old new needed r → ⊥) → ⊥
  open_cases by_password by_store = by_password (a.password_first (λ is. by_store (a.then_store is)))

  opened_roomy : OpeningsFit → StoreOpened b p limit old new needed r → Roomy (length b) (length old) needed r
  opened_roomy fit s =
      follows_roomy (length b) (λ o. opened_text o.contents o.keys) s.opened (λ o. OpensWithin b p limit o.contents o.keys) old new needed r (λ o h. fit b p limit o.contents o.keys h) s.opens s.follows

  pub open_room : OpeningsFit → (number : ℕ) → number ≡ answer_number r → HasRoom (length b) (length old) needed number
  open_room fit number is = record {
    within = elim (cases_lt (room_for (length b)) needed) [
      | inl lt ↦ absurd (open_cases (λ f. omega (arith, lt, f.2)) (λ s. omega (arith, lt, (opened_roomy fit s).within)))
      | inr le ↦ le
    ];
    enough = λ enough same.
        let lacks : r ≡ Err Room = numbers_tell r (Err Room) (sym is ∙ same) in
        open_cases (λ f. password_is_not_room r f.0 lacks) (λ s. (opened_roomy fit s).enough enough lacks);
  }

-- ---- the change of a password

module _ (b p q random : List ℕ) (limit : ℕ) (old new : List ℕ) (needed : ℕ) (r : Answer) (a : ChangeAnswers b p q random limit old new needed r) where
  change_cases : (Refuses old new needed r Password → ⊥) → (StoreChanged b p q random limit old new needed r → ⊥) → ⊥
  change_cases by_password by_store = by_password (a.password_first (λ is. by_password (a.then_new_password is (λ too. by_store (a.then_store is too)))))

  pub change_random_enough : ChangesDrawWithin → (number : ℕ) → number ≡ answer_number r → length b ≤ length random → number ≢ 20
  change_random_enough within number is enough same =
      let short : r ≡ Err (Store Rng) = numbers_tell r (Err (Store Rng)) (sym is ∙ same) in
      change_cases (λ f. password_is_not_store r Rng f.0 short)
      (λ s.
      let is : s.changed ≡ Err Rng = follows_from (λ c. c) s.changed old new needed r Rng (memory_is_not r) s.follows short in
      let cause = (refused_is s.changed (IsRefusedChange b p limit random) Rng is s.refused).cause in
      s.exact.suffices cause.allowed (omega (arith, enough, within b p limit cause.allowed)) is)
