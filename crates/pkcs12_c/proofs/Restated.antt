-- Want of memory may come at any point.
use Rattle.std.proofs.Common.{ℕ, ◌+◌, ◌≤◌, ◌≡◌, ◌∙◌, inl, inr, List, ap, arith, subst}
use Rattle.std.specs.Prelude.{Option, Some, None, Result, Ok, Err, IfOk, IfSome}
use Rattle.frame.specs.Calls.{Effects}
use Rattle.transfer.specs.declared.store.error.TransferError.{TransferError}
use Rattle.transfer.specs.declared.store.error.TransferError.TheVariants.{Memory}
use Rattle.transfer.specs.Sealing.{SealsAll}
use Rattle.transfer.specs.Transferred.{Settles, Transfers}
use Rattle.transfer.specs.Words.{command}
use Rattle.pkcs12_c.specs.Drawn.{TransfersDrawn}

any : (o : Option (List ℕ)) (P : List ℕ → Type 0) → ((d : List ℕ) → P d) → IfSome o P
any None P f = tt
any (Some d) P f = f d

-- an answer that says out of memory is settled
pub settled_memory : {T : Type 0} (b p : List ℕ) (limit : ℕ) (left : Option (List ℕ)) (r : Result T TransferError) → r ≡ Err Memory → Settles b p limit left r
unfolding Settles
settled_memory b p limit left r e = record {
  refuses = λ f h. inl e;
  completes = λ h. inr (inl e);
  draws = λ bags keys n h. any left _ (λ d. (λ k. inl e, λ k. inl e));
}

-- What the draw was counted to have failed does not matter.
pub drawn_made : (b p q random spare : List ℕ) (rounds limit : ℕ) (e : Effects) (certificates documents : List (List ℕ)) → e.draw.told ≡ Some random → e.draw.told_after ≡ Some spare → e.steps ≡ 0
    → e.steps_after ≤ e.steps + limit → Transfers (command p q rounds limit) e b certificates documents → TransfersDrawn b p limit rounds q random certificates documents
drawn_made b p q random spare rounds limit e certificates documents told after zero within t = record {
  steps = e.steps_after;
  spare = spare;
  transfers = record {
    bags = t.bags;
    keys = t.keys;
    work = t.work;
    verdict = t.verdict;
    in_order = t.in_order;
    sealed = subst (λ (l : Option (List ℕ)). SealsAll rounds q l (Some spare) t.keys documents) told (subst (λ (l : Option (List ℕ)). SealsAll rounds q e.draw.told l t.keys documents) after t.sealed);
    counted = t.counted ∙ ap (λ n. n + t.work) zero;
  };
  within = omega (arith, zero, within);
}

pub if_ok : {T E : Type 0} (r : Result T E) (P Q : T → Type 0) → ((t : T) → P t → Q t) → IfOk r P → IfOk r Q
if_ok (Ok t) P Q f h = f t h
if_ok (Err e) P Q f h = tt
