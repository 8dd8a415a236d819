use Rattle.std.proofs.Common.{◌≡◌, ℕ, ◌+◌, ◌<◌, List, [], length, drop, get_or, inl, inr, sym, subst}
use Rattle.std.proofs.lemmas.List.{drop_more}
use Rattle.phc_core.specs.declared.error.Error.{Error}
use Rattle.phc_core.specs.ParamsString.{pairs_of, name_in, value_in}
use Rattle.pbkdf2.specs.Settings.{Settings}
use Rattle.pbkdf2.specs.Params.{PairFault, PairLeads, Leads, Fails}
use Rattle.pbkdf2.proofs.params_text.read_pairs.Goals as goal

-- the pair at place k is the first of those that are left
fails_here : (ps : List (List ℕ)) (k : ℕ) (s : Settings) (name value : List ℕ) (e : Error) → k < length ps → name ≡ name_in (get_or ps k []) → value ≡ value_in (get_or ps k [])
    → PairFault name value e → Fails (drop k ps) s e
fails_here ps k s name value e lt named valued fault =
    subst (λ (q : List (List ℕ)). Fails q s e) (sym (drop_more ps k [] lt))
    (inl (subst (λ (v : List ℕ). PairFault (name_in (get_or ps k [])) v e) valued (subst (λ (n : List ℕ). PairFault n value e) named fault)))

-- what the pair at place k leads to, and what the others lead to from there
leads_on : (ps : List (List ℕ)) (k : ℕ) (s m t : Settings) (name value : List ℕ) → k < length ps → name ≡ name_in (get_or ps k []) → value ≡ value_in (get_or ps k [])
    → PairLeads name value s m → Leads (drop (k + 1) ps) m t → Leads (drop k ps) s t
leads_on ps k s m t name value lt named valued lead rest =
    subst (λ (q : List (List ℕ)). Leads q s t) (sym (drop_more ps k [] lt)) (m, (rw (← named, ← valued) lead, rest))

fails_on : (ps : List (List ℕ)) (k : ℕ) (s m : Settings) (name value : List ℕ) (e : Error) → k < length ps → name ≡ name_in (get_or ps k []) → value ≡ value_in (get_or ps k [])
    → PairLeads name value s m → Fails (drop (k + 1) ps) m e → Fails (drop k ps) s e
fails_on ps k s m name value e lt named valued lead rest =
    subst (λ (q : List (List ℕ)). Fails q s e) (sym (drop_more ps k [] lt)) (inr (m, (rw (← named, ← valued) lead, rest)))

pub loop-k-preserved : goal.loop-k-preserved
loop-k-preserved c =
    let ps = pairs_of c.args.params.now in
    record {
      leads = λ t h. c.loop-k.invariant.leads t (leads_on ps c.loop-k.k c.loop-k.found c.in-Ok.next t _ _ c.in-Some.ensures.0 c.in-Some.ensures.1 c.in-Some.ensures.2 c.in-Ok.ensures.ok h);
      fails = λ e h. c.loop-k.invariant.fails e (fails_on ps c.loop-k.k c.loop-k.found c.in-Ok.next _ _ e c.in-Some.ensures.0 c.in-Some.ensures.1 c.in-Some.ensures.2 c.in-Ok.ensures.ok h);
    }

pub returns-in-Err-clause-err : goal.returns-in-Err-clause-err
returns-in-Err-clause-err c =
    c.loop-k.invariant.fails c.in-Err.fault
    (fails_here (pairs_of c.args.params.now) c.loop-k.k c.loop-k.found _ _ c.in-Err.fault c.in-Some.ensures.0 c.in-Some.ensures.1 c.in-Some.ensures.2 c.in-Err.ensures.err)
