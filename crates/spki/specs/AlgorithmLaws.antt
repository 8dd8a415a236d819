-- lemmas only: nothing to believe here
-- Algorithms are read exactly, and what is written of one is read again.
use Rattle.std.proofs.Common.{◌≡◌, ℕ, Bool, List, [], ◌++◌, Option, Some, None, refl, sym, ap, subst, ◌∙◌, inl, inr}
use Rattle.std.specs.Prelude.{◌↔◌}
use Rattle.std.proofs.lemmas.List.{append-nil}
use Rattle.asn1_core.specs.Der.{el, oid}
use Rattle.asn1_core.specs.Oid.{oid_octets}
use Rattle.asn1_core.specs.Reading.{Front, ended, oid_at, oid_of}
use Rattle.asn1_core.specs.Texts.{Exact, ExactAll, Whole, Perhaps, On, Ended, Within, OidOf, seen_option}
use Rattle.asn1_core.specs.declared.identifier.ObjectIdentifier.{ObjectIdentifier}
use Rattle.asn1_core.specs.ExactLaws.{on-exact, ended-exact, same-exact}
use Rattle.asn1_core.specs.ElementLaws.{within-exact, oid_of-exact}
use Rattle.asn1_core.specs.OptionLaws.{OnOption, on_option-exact}
use Rattle.der_core.specs.Optional.{canon_option, writable_option}
use Rattle.der_core.specs.OptionalLaws.{option_canonical, option_spelled}
use Rattle.spki.specs.declared.algorithm.AlgorithmIdentifier.{AlgorithmIdentifier}
use Rattle.spki.specs.Algorithm.{algorithm, algorithm_of, AlgorithmOf, algorithm_at, AlgorithmText, algorithm_content, SpellsAlgorithm}

module _ {V : Type 0} (can : ℕ → Bool) (P : List ℕ → V → Type 0) (p : Front V) (exact : Exact P p) (whole : Whole can P) where
  abbrev Parts : List ℕ → AlgorithmIdentifier V → Type 0
  Parts = On (Within 6 OidOf) (λ o. OnOption P (λ x. Ended (algorithm o x)))

  parts : ExactAll Parts (algorithm_of can p)
  parts = on-exact (Within 6 OidOf) (λ o. OnOption P (λ x. Ended (algorithm o x))) oid_at _ (within-exact 6 OidOf oid_of refl oid_of-exact)
      (λ o. on_option-exact can P (λ x. Ended (algorithm o x)) p (λ x. ended (algorithm o x)) exact whole (λ t l v h. absurd cc) (λ x. ended-exact (algorithm o x)))

  tail_to : (o : ObjectIdentifier) (q : List ℕ) (v : AlgorithmIdentifier V) → OnOption P (λ x. Ended (algorithm o x)) q v → (v.oid ≡ o) × Perhaps P q v.parameters
  tail_to o q v (inl s) = (ap (λ (a : AlgorithmIdentifier V). a.oid) s.1, subst (λ (a : AlgorithmIdentifier V). Perhaps P q a.parameters) (sym s.1) s.0)
  tail_to o q v (inr (a, z, x, r, s, is)) =
      let e : q ≡ a = is ∙ ap (λ (l : List ℕ). a ++ l) s.0 ∙ append-nil a in
      (ap (λ (a : AlgorithmIdentifier V). a.oid) s.1, subst (λ (a : AlgorithmIdentifier V). Perhaps P q a.parameters) (sym s.1) (subst (λ (l : List ℕ). P l x) (sym e) r))

  to : (b : List ℕ) (v : AlgorithmIdentifier V) → Parts b v → AlgorithmOf P b v
  to b v (a, q, o, (w, is, e), t, f) =
      let h = tail_to o q v t in
      (q, h.1, f ∙ ap (λ (l : List ℕ). l ++ q) (e ∙ ap (λ (l : List ℕ). el 6 l) (is ∙ ap oid_octets (sym h.0))))

  tail_from : (o : ObjectIdentifier) (q : List ℕ) (x : Option V) → Perhaps P q x → OnOption P (λ x. Ended (algorithm o x)) q (algorithm o x)
  tail_from o q None r = inl (r, refl)
  tail_from o q (Some a) r = inr (q, [], a, r, (refl, refl), sym (append-nil q))

  from : (b : List ℕ) (v : AlgorithmIdentifier V) → AlgorithmOf P b v → Parts b v
  from b v (q, r, is) = (oid (oid_octets v.oid), q, v.oid, (oid_octets v.oid, refl, refl), tail_from v.oid q v.parameters r, is)

  pub algorithm_of-exact : ExactAll (AlgorithmOf P) (algorithm_of can p)
  algorithm_of-exact = same-exact Parts (AlgorithmOf P) (algorithm_of can p) to from parts

  pub algorithm-exact : Exact (AlgorithmText P) (algorithm_at can p)
  algorithm-exact = within-exact 0x30 (AlgorithmOf P) (algorithm_of can p) refl algorithm_of-exact

-- ---- what is written

module _ {A V : Type 0} (seen : A → V) (P : List ℕ → V → Type 0) (canon : A → List ℕ) where
  pub algorithm_canonical : (writable : A → Type 0) → ((a : A) → writable a → P (canon a) (seen a)) → (o : ObjectIdentifier) (p : Option A) → writable_option writable p
      → AlgorithmText P (el 0x30 (algorithm_content canon o p)) (algorithm o (seen_option seen p))
  algorithm_canonical writable again o p h = (algorithm_content canon o p, (canon_option canon p, option_canonical seen P canon writable again p h, refl), refl)

module _ {A V : Type 0} (seen : A → V) (P : List ℕ → V → Type 0) (writable : A → Type 0) (spell : List ℕ → A → Type 0) (spelled : (b : List ℕ) (a : A) → P b (seen a) ↔ (writable a × spell b a)) where
  spelled_to : (b : List ℕ) (o : ObjectIdentifier) (p : Option A) → AlgorithmText P b (algorithm o (seen_option seen p)) → writable_option writable p × SpellsAlgorithm spell b o p
  spelled_to b o p (w, (q, r, is), e) =
      let t = (option_spelled seen P writable spell spelled q p).0 r in
      (t.0, (q, t.1, e ∙ ap (λ (l : List ℕ). el 0x30 l) is))

  spelled_from : (b : List ℕ) (o : ObjectIdentifier) (p : Option A) → writable_option writable p × SpellsAlgorithm spell b o p → AlgorithmText P b (algorithm o (seen_option seen p))
  spelled_from b o p (h, (q, s, e)) = (oid (oid_octets o) ++ q, (q, (option_spelled seen P writable spell spelled q p).1 (h, s), refl), e)

  pub algorithm_spelled : (b : List ℕ) (o : ObjectIdentifier) (p : Option A) → AlgorithmText P b (algorithm o (seen_option seen p)) ↔ (writable_option writable p × SpellsAlgorithm spell b o p)
  algorithm_spelled b o p = (spelled_to b o p, spelled_from b o p)
