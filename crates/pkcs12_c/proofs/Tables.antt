-- A table, and what a list returns for it.
use Rattle.std.proofs.Common.{◌≡◌, ℕ, ◌<◌, inl, inr, List, length, arith, subst, refl}
use Rattle.std.specs.Prelude.{Result, Ok, Err}
use Rattle.inventory_core.specs.declared.listed.Listed.{Listed}
use Rattle.legacy_store.specs.Verdicts.{IsDecidedUnder}
use Rattle.legacy_store.specs.declared.mac_rule.MacRule.TheVariants.{Required}
use Rattle.transfer.specs.declared.store.error.TransferError.{TransferError}
use Rattle.pkcs12_c.specs.Answers.{Fills, ListAnswers, Refuses, StoreListed}
use Rattle.pkcs12_c.specs.Listed.{ListsWithin}
use Rattle.pkcs12_c.specs.Opened.{IsRefusedAny}
use Rattle.pkcs12_c.specs.Password.{IsPassword}
use Rattle.pkcs12_c.specs.declared.refusal.Refusal.{Refusal}
use Rattle.pkcs12_c.specs.declared.refusal.Refusal.TheVariants.{Store, Room}

-- A success is decided whatever it holds.
pub decided_ok : {A B : Type 0} (b p : List ℕ) (limit : ℕ) (a : A) (t : B) → IsDecidedUnder Required b p limit (Ok a) → IsDecidedUnder Required b p limit (Ok t)
decided_ok b p limit a t d = record {
  refuses = λ e h. elim (d.refuses e h) [ inl m ↦ absurd cc | inr m ↦ absurd cc ];
  completes = λ h. inl refl;
}

pub decided_err : {A B : Type 0} (b p : List ℕ) (limit : ℕ) (e : TransferError) → IsDecidedUnder {T = A} Required b p limit (Err e) → IsDecidedUnder {T = B} Required b p limit (Err e)
decided_err b p limit e d = record {
  refuses = λ f h. elim (d.refuses f h) [ inl m ↦ inl cc | inr m ↦ inr cc ];
  completes = λ h. elim (d.completes h) [ inl k ↦ absurd cc | inr m ↦ inr cc ];
}

-- A text that has more octets than the room is not written, and its size is told.
longer_fills : (text old : List ℕ) (size : ℕ) → size ≡ length text → length old < size → Fills text old old size (Err Room)
longer_fills text old size is longer = record {
  size = is;
  whole = λ fits. absurd (omega (arith, is, longer, fits));
  none = λ lt. (refl, refl);
}

module _ (b p q : List ℕ) (limit : ℕ) (old new : List ℕ) (needed : ℕ) (r : Result (Unit {0}) Refusal) (same : p ≡ q) (is : IsPassword q) where
  list_answers : StoreListed b p limit old new needed r → ListAnswers b q limit old new needed r
  list_answers s = record {
    password_first = λ not. absurd (not is);
    then_store = λ too. subst (λ w. StoreListed b w limit old new needed r) same s;
  }

  pub listed_answers : (l : Listed) (text : List ℕ) → ListsWithin b p limit text → IsDecidedUnder Required b p limit (Ok l) → Fills text old new needed r → ListAnswers b q limit old new needed r
  listed_answers l text lists exact fills = list_answers (record {
    listed = Ok text;
    lists = lists;
    refused = tt;
    exact = decided_ok b p limit l text exact;
    follows = inl fills;
  })

  pub refused_answers : (e : TransferError) → IsRefusedAny b p limit e → IsDecidedUnder {T = Listed} Required b p limit (Err e) → Refuses old new needed r (Store e) → ListAnswers b q limit old new needed r
  refused_answers e refused exact follows = list_answers (record {
    listed = Err e;
    lists = tt;
    refused = refused;
    exact = decided_err b p limit e exact;
    follows = follows;
  })
