-- Where there is room for a store that is made, and where there are random octets for it, their numbers do not come.
use Rattle.std.proofs.Common.{◌≡◌, ◌∙◌, ℕ, ◌≤◌, Bool, true, false, inl, inr, List, length, refl, sym, ap, subst, arith}
use Rattle.std.specs.Prelude.{◌≢◌, Result, Ok, Err, IfOk, IfErr}
use Rattle.std.proofs.lemmas.Bool.{cases_lt}
use Rattle.create_core.specs.declared.error.CreateError.TheVariants as making
use Rattle.key_files.specs.declared.key_refusal.KeyRefusal.TheVariants as key
use Rattle.pem_stores.specs.declared.certificates.CertificateRefusal.TheVariants as certificate
use Rattle.pem_stores.specs.declared.text_refusal.TextRefusal.TheVariants as text
use Rattle.transfer.specs.Limits.{store_limit}
use Rattle.transfer.specs.declared.store.error.TransferError.TheVariants.{Rng}
use Rattle.pkcs12_c.specs.Answers.{CreateAnswers, FollowsCreation, Refuses, StoreCreated}
use Rattle.pkcs12_c.specs.Created.{Asked, CreatesDrawn, IsRefusedCreation}
use Rattle.pkcs12_c.specs.Refusal.{answer_number, creation_refusal}
use Rattle.pkcs12_c.specs.Room.{HasStoreRoom, key_draws}
use Rattle.pkcs12_c.specs.declared.created.CreationRefusal.{CreationRefusal}
use Rattle.pkcs12_c.specs.declared.created.CreationRefusal.TheVariants.{Texts, Making}
use Rattle.pkcs12_c.specs.declared.refusal.Refusal.{Refusal}
use Rattle.pkcs12_c.specs.declared.refusal.Refusal.TheVariants.{Rounds, Password, Name, Store, Room}
use Rattle.pkcs12_c.proofs.Answered.{Answer, done_is_not, password_is_not_room, password_is_not_store, rounds_is_not_room, rounds_is_not_store, store_is_not_room}
use Rattle.pkcs12_c.proofs.Numbers.{numbers_tell}

-- ---- refusals of PEM texts are others

abbrev is_room : Refusal → Bool
is_room Room = true
is_room _ = false

abbrev is_draw : Refusal → Bool
is_draw (Store Rng) = true
is_draw _ = false

no_room : (e : CreationRefusal) → is_room (creation_refusal e) ≡ false
no_room (Texts text.KeyPem) = refl
no_room (Texts (text.Key key.NoKey)) = refl
no_room (Texts (text.Key key.ManyKeys)) = refl
no_room (Texts (text.Key key.UnknownForm)) = refl
no_room (Texts (text.Key key.Malformed)) = refl
no_room (Texts (text.Key key.NoCurve)) = refl
no_room (Texts (text.Key key.TooLong)) = refl
no_room (Texts (text.Key key.UnknownScheme)) = refl
no_room (Texts (text.Key key.TooManyRounds)) = refl
no_room (Texts (text.Key key.PasswordMissing)) = refl
no_room (Texts (text.Key key.NotOpened)) = refl
no_room (Texts (text.Key key.Memory)) = refl
no_room (Texts text.CertificatePem) = refl
no_room (Texts (text.Certificates certificate.NoCertificate)) = refl
no_room (Texts (text.Certificates certificate.Trusted)) = refl
no_room (Texts (text.Certificates certificate.Malformed)) = refl
no_room (Texts (text.Certificates certificate.Memory)) = refl
no_room (Texts text.OtherKey) = refl
no_room (Texts text.Memory) = refl
no_room (Making making.Malformed) = refl
no_room (Making making.Rng) = refl
no_room (Making making.TooLong) = refl
no_room (Making making.Memory) = refl

-- too few random octets are told of making alone
drawn_short : (e : CreationRefusal) → is_draw (creation_refusal e) ≡ true → e ≡ Making making.Rng
drawn_short (Texts text.KeyPem) h = absurd cc
drawn_short (Texts (text.Key key.NoKey)) h = absurd cc
drawn_short (Texts (text.Key key.ManyKeys)) h = absurd cc
drawn_short (Texts (text.Key key.UnknownForm)) h = absurd cc
drawn_short (Texts (text.Key key.Malformed)) h = absurd cc
drawn_short (Texts (text.Key key.NoCurve)) h = absurd cc
drawn_short (Texts (text.Key key.TooLong)) h = absurd cc
drawn_short (Texts (text.Key key.UnknownScheme)) h = absurd cc
drawn_short (Texts (text.Key key.TooManyRounds)) h = absurd cc
drawn_short (Texts (text.Key key.PasswordMissing)) h = absurd cc
drawn_short (Texts (text.Key key.NotOpened)) h = absurd cc
drawn_short (Texts (text.Key key.Memory)) h = absurd cc
drawn_short (Texts text.CertificatePem) h = absurd cc
drawn_short (Texts (text.Certificates certificate.NoCertificate)) h = absurd cc
drawn_short (Texts (text.Certificates certificate.Trusted)) h = absurd cc
drawn_short (Texts (text.Certificates certificate.Malformed)) h = absurd cc
drawn_short (Texts (text.Certificates certificate.Memory)) h = absurd cc
drawn_short (Texts text.OtherKey) h = absurd cc
drawn_short (Texts text.Memory) h = absurd cc
drawn_short (Making making.Malformed) h = absurd cc
drawn_short (Making making.Rng) h = refl
drawn_short (Making making.TooLong) h = absurd cc
drawn_short (Making making.Memory) h = absurd cc

name_is_not_room : (r : Answer) → r ≡ Err Name → r ≡ Err Room → ⊥
name_is_not_room r h k = absurd cc

name_is_not_draw : (r : Answer) → r ≡ Err Name → r ≡ Err (Store Rng) → ⊥
name_is_not_draw r h k = absurd cc

same_refusal : (r : Answer) (e f : Refusal) → r ≡ Err e → r ≡ Err f → e ≡ f
same_refusal r e f h k = cc

refused_is_not_room : (r : Answer) (e : CreationRefusal) → r ≡ Err (creation_refusal e) → r ≡ Err Room → ⊥
refused_is_not_room r e h k = let told : is_room (creation_refusal e) ≡ true = ap is_room (same_refusal r (creation_refusal e) Room h k) in let not = no_room e in absurd cc

-- ---- what is returned

-- no more than a store may have is needed, and it is enough
record Fitting (output needed : ℕ) (r : Answer) : Type 0 where
  pub within : needed ≤ store_limit
  pub enough : store_limit ≤ output → r ≡ Err Room → ⊥

module _ (a : Asked) (random old new : List ℕ) (needed : ℕ) (r : Answer) where
  follows_fitting : (t : Result (List ℕ) CreationRefusal) → IfOk t (CreatesDrawn a random) → FollowsCreation t old new needed r → Fitting (length old) needed r
  follows_fitting (Ok b) (entries, has, made) f =
      let short = made.creates.creates.short in
      record { within = omega (arith, f.size, short); enough = λ enough lacks. done_is_not r Room (f.whole (omega (arith, short, enough))).0 lacks }
  follows_fitting (Err e) made f = record { within = omega (arith, f.2); enough = λ enough lacks. refused_is_not_room r e f.0 lacks }

  drawn_enough : (t : Result (List ℕ) CreationRefusal) → IfErr t (IsRefusedCreation a random) → FollowsCreation t old new needed r → key_draws ≤ length random → r ≡ Err (Store Rng) → ⊥
  drawn_enough (Ok b) refused f enough is =
      elim (cases_lt (length old) (length b)) [
        | inl lt ↦ store_is_not_room r Rng is (f.none lt).0
        | inr le ↦ done_is_not r (Store Rng) (f.whole le).0 is
      ]
  drawn_enough (Err e) refused f enough is =
      let short : e ≡ Making making.Rng = drawn_short e (ap is_draw (same_refusal r (creation_refusal e) (Store Rng) f.0 is)) in
      let (entries, has, made) = subst (IsRefusedCreation a random) short refused in
      omega (arith, enough, ap length has.entered.keys, made.1.1.1)

  module _ (c : CreateAnswers a random old new needed r) where
    -- one of the four cases holds
    create_cases : (Refuses old new needed r Rounds → ⊥) → (Refuses old new needed r Password → ⊥) → (Refuses old new needed r Name → ⊥) → (StoreCreated a random old new needed r → ⊥) → ⊥
    create_cases by_rounds by_password by_name by_store =
        by_rounds (c.rounds_first (λ are. by_password (c.then_password are (λ is. by_password (c.then_key_password are is (λ given. by_name (c.then_name are is given (λ named. by_store (c.then_store are is given named)))))))))

    pub created_room : (number : ℕ) → number ≡ answer_number r → HasStoreRoom (length old) needed number
    created_room number is = record {
      within = elim (cases_lt store_limit needed) [
        | inl lt ↦ absurd (create_cases (λ f. omega (arith, lt, f.2)) (λ f. omega (arith, lt, f.2)) (λ f. omega (arith, lt, f.2)) (λ s. omega (arith, lt, (follows_fitting s.created s.creates s.follows).within)))
        | inr le ↦ le
      ];
      enough = λ enough same.
          let lacks : r ≡ Err Room = numbers_tell r (Err Room) (sym is ∙ same) in
          create_cases (λ f. rounds_is_not_room r f.0 lacks) (λ f. password_is_not_room r f.0 lacks) (λ f. name_is_not_room r f.0 lacks)
          (λ s. (follows_fitting s.created s.creates s.follows).enough enough lacks);
    }

    pub created_random_enough : (number : ℕ) → number ≡ answer_number r → key_draws ≤ length random → number ≢ 20
    created_random_enough number is enough same =
        let short : r ≡ Err (Store Rng) = numbers_tell r (Err (Store Rng)) (sym is ∙ same) in
        create_cases (λ f. rounds_is_not_store r Rng f.0 short) (λ f. password_is_not_store r Rng f.0 short) (λ f. name_is_not_draw r f.0 short)
        (λ s. drawn_enough s.created s.refused s.follows enough short)
