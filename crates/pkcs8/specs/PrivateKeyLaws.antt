-- lemmas only: nothing to believe here
-- Private keys are read exactly, and what is written of one is read again.
use Rattle.std.proofs.Common.{◌≡◌, ◌≤◌, ℕ, Bool, List, [], ◌∷◌, ◌++◌, Option, Some, None, refl, sym, ap, subst, ◌∙◌, append_assoc, arith, inl, inr, IsTrue, nat_eq}
use Rattle.std.proofs.lemmas.Bool.{eqb-true, eq-eqb}
use Rattle.std.proofs.lemmas.List.{append-nil}
use Rattle.asn1_core.specs.Der.{el, uint, shortest}
use Rattle.asn1_core.specs.Reading.{Front, All, within, uint_at, on, option_at}
use Rattle.asn1_core.specs.Texts.{Exact, ExactAll, Whole, On, Within, Uint, Perhaps, seen_option}
use Rattle.asn1_core.specs.ExactLaws.{on-exact, same-exact}
use Rattle.asn1_core.specs.ElementLaws.{within-exact, within-whole}
use Rattle.asn1_core.specs.NumberLaws.{uint-exact}
use Rattle.asn1_core.specs.OptionLaws.{OnOption, on_option-exact}
use Rattle.asn1_core.specs.declared.identifier.ObjectIdentifier.{ObjectIdentifier}
use Rattle.der_core.specs.Optional.{writable_option}
use Rattle.spki.specs.Algorithm.{algorithm, algorithm_at, AlgorithmText, algorithm_content}
use Rattle.spki.specs.AlgorithmLaws.{algorithm-exact, algorithm_canonical}
use Rattle.pkcs8.specs.declared.private_key_info.PrivateKeyInfo.{PrivateKeyInfo}
use Rattle.pkcs8.specs.PrivateKeyInfo.{private_key, version_of, Skipped, AttributesText, AreAttributes, AreFurther, attributes_at, ended_further, PrivateKeyOf, PrivateKeyText, private_key_of, private_key_at, public_key_content, private_key_content}
use Rattle.pkcs8.specs.FieldLaws.{attributes-exact, ended_further-exact, EndedFurther, follows_public_key, follows_attributes}

-- six parts, one after the other
six : (u a k x q y : List ℕ) → u ++ (a ++ (k ++ (x ++ (q ++ y)))) ≡ u ++ a ++ k ++ x ++ q ++ y
six u a k x q y =
    sym (append_assoc u a (k ++ (x ++ (q ++ y)))) ∙ sym (append_assoc (u ++ a) k (x ++ (q ++ y))) ∙ sym (append_assoc (u ++ a ++ k) x (q ++ y)) ∙ sym (append_assoc (u ++ a ++ k ++ x) q y)

version_small : {W : Type 0} (q : Option W) → version_of q ≤ 1
version_small None = omega arith
version_small (Some q) = omega arith

pub version_seen : {B W : Type 0} (seen : B → W) (q : Option B) → version_of (seen_option seen q) ≡ version_of q
version_seen seen None = refl
version_seen seen (Some q) = refl

module _ {V K W : Type 0} (can : ℕ → Bool) (P : List ℕ → V → Type 0) (p : Front V) (exact : Exact P p) (whole : Whole can P)
    (L : List ℕ → K → Type 0) (l : Front K) (exact_key : Exact L l) (Q : List ℕ → W → Type 0) (q : All W) (exact_public : ExactAll Q q) where
  abbrev Public : ℕ → (Option W → PrivateKeyInfo V K W) → List ℕ → PrivateKeyInfo V K W → Type 0
  Public n v = OnOption (Within 0x81 Q) (λ w. EndedFurther n w (v w))

  abbrev Tail : ℕ → (Option W → PrivateKeyInfo V K W) → List ℕ → PrivateKeyInfo V K W → Type 0
  Tail n v = OnOption AttributesText (λ x. Public n v)

  abbrev Parts : List ℕ → PrivateKeyInfo V K W → Type 0
  Parts = On (Uint 1) (λ n. On (AlgorithmText P) (λ a. On L (λ k. Tail n (λ w. private_key a k w))))

  tail-exact : (n : ℕ) (v : Option W → PrivateKeyInfo V K W) → ExactAll (Tail n v)
      (on (option_at (λ t. nat_eq t 0xa0) attributes_at) (λ x. on (option_at (λ t. nat_eq t 0x81) (within 0x81 q)) (λ w. ended_further n w (v w))))
  tail-exact n v = on_option-exact _ AttributesText _ attributes_at _ attributes-exact (within-whole 0xa0 Skipped refl) (follows_attributes Q n v)
      (λ x. on_option-exact _ (Within 0x81 Q) _ (within 0x81 q) _ (within-exact 0x81 Q q refl exact_public) (within-whole 0x81 Q refl) (follows_public_key {W = W} n None (v None))
      (λ w. ended_further-exact n w (v w)))

  parts : ExactAll Parts (private_key_of can p l q)
  parts = on-exact (Uint 1) _ (uint_at 1) _ (uint-exact 1) (λ n. on-exact (AlgorithmText P) _ (algorithm_at can p) _ (algorithm-exact can P p exact whole)
      (λ a. on-exact L _ l _ exact_key (λ k. tail-exact n (λ w. private_key a k w))))

  -- what comes after the key
  pub record Behind (n : ℕ) (v : Option W → PrivateKeyInfo V K W) (b : List ℕ) (w : PrivateKeyInfo V K W) : Type 0 where
    pub attributes : List ℕ
    pub public : List ℕ
    pub further : List ℕ
    pub key : Option W
    pub are_attributes : AreAttributes attributes
    pub is_public : Perhaps (Within 0x81 Q) public key
    pub are_further : AreFurther further
    pub agrees : IsTrue (nat_eq n (version_of key))
    pub value : w ≡ v key
    pub is : b ≡ attributes ++ (public ++ further)

  public_to : (n : ℕ) (v : Option W → PrivateKeyInfo V K W) (b x : List ℕ) (w : PrivateKeyInfo V K W) → AreAttributes x → Public n v b w → Behind n v (x ++ b) w
  public_to n v b x w a (inl (h, f, e)) = record { attributes = x; public = []; further = b; key = None; are_attributes = a; is_public = refl; are_further = f; agrees = h; value = e; is = refl }
  public_to n v b x w a (inr (q, y, k, r, (h, f, e), is)) = record { attributes = x; public = q; further = y; key = Some k; are_attributes = a; is_public = r; are_further = f; agrees = h; value = e; is = ap (λ (l : List ℕ). x ++ l) is }

  tail_to : (n : ℕ) (v : Option W → PrivateKeyInfo V K W) (b : List ℕ) (w : PrivateKeyInfo V K W) → Tail n v b w → Behind n v b w
  tail_to n v b w (inl t) = public_to n v b [] w (None, refl) t
  tail_to n v b w (inr (x, r, u, h, t, is)) = subst (λ (l : List ℕ). Behind n v l w) (sym is) (public_to n v r x w (Some u, h) t)

  to : (b : List ℕ) (v : PrivateKeyInfo V K W) → Parts b v → PrivateKeyOf P L Q b v
  to b v (u, r1, n, (w, (small, num), e), (a, r2, algo, ra, (k, r3, key, rk, t, e3), e2), e1) =
      let h = tail_to n (λ w. private_key algo key w) r3 v t in
      let version : u ≡ uint (version_of h.key) = e ∙ ap (λ (l : List ℕ). el 2 l) (num ∙ ap shortest (eqb-true n (version_of h.key) h.agrees)) in
      let behind : r1 ≡ a ++ (k ++ (h.attributes ++ (h.public ++ h.further))) = e2 ∙ ap (λ (l : List ℕ). a ++ l) (e3 ∙ ap (λ (l : List ℕ). k ++ l) h.is) in
      let is : b ≡ uint (version_of h.key) ++ a ++ k ++ h.attributes ++ h.public ++ h.further =
      e1 ∙ ap (λ (l : List ℕ). l ++ r1) version ∙ ap (λ (l : List ℕ). uint (version_of h.key) ++ l) behind ∙ six (uint (version_of h.key)) a k h.attributes h.public h.further in
      subst (λ (z : PrivateKeyInfo V K W). PrivateKeyOf P L Q b z) (sym h.value) (a, k, h.attributes, h.public, h.further, ra, rk, h.are_attributes, h.is_public, h.are_further, is)

  public_from : (n : ℕ) (v : Option W → PrivateKeyInfo V K W) (o : Option W) (q y : List ℕ) → Perhaps (Within 0x81 Q) q o → AreFurther y → IsTrue (nat_eq n (version_of o)) → Public n v (q ++ y) (v o)
  public_from n v None q y r f h = inl (h, subst AreFurther (sym (ap (λ (l : List ℕ). l ++ y) r)) f, refl)
  public_from n v (Some a) q y r f h = inr (q, y, a, r, (h, f, refl), refl)

  tail_from : (n : ℕ) (v : Option W → PrivateKeyInfo V K W) (w : PrivateKeyInfo V K W) (x rest : List ℕ) (o : Option (Unit {0})) → Perhaps AttributesText x o → Public n v rest w → Tail n v (x ++ rest) w
  tail_from n v w x rest None r t = inl (subst (λ (l : List ℕ). Public n v l w) (sym (ap (λ (l : List ℕ). l ++ rest) r)) t)
  tail_from n v w x rest (Some u) r t = inr (x, rest, u, r, t, refl)

  from : (b : List ℕ) (v : PrivateKeyInfo V K W) → PrivateKeyOf P L Q b v → Parts b v
  from b v (a, k, x, q, y, ra, rk, (o, rx), rq, f, is) =
      let n = version_of v.public_key in
      let t = tail_from n (λ w. private_key v.algorithm v.private_key w) v x (q ++ y) o rx
      (public_from n (λ w. private_key v.algorithm v.private_key w) v.public_key q y rq f (eq-eqb n n refl)) in (
        uint n,
        a ++ (k ++ (x ++ (q ++ y))),
        n,
        (shortest n, (version_small v.public_key, refl), refl),
        (a, k ++ (x ++ (q ++ y)), v.algorithm, ra, (k, x ++ (q ++ y), v.private_key, rk, t, refl), refl),
        is ∙ sym (six (uint n) a k x q y),
      )

  pub private_key_of-exact : ExactAll (PrivateKeyOf P L Q) (private_key_of can p l q)
  private_key_of-exact = same-exact Parts (PrivateKeyOf P L Q) (private_key_of can p l q) to from parts

  pub private_key-exact : Exact (PrivateKeyText P L Q) (private_key_at can p l q)
  private_key-exact = within-exact 0x30 (PrivateKeyOf P L Q) (private_key_of can p l q) refl private_key_of-exact

-- ---- what is written

module _ {A V K L B W : Type 0} (seen : A → V) (P : List ℕ → V → Type 0) (canon : A → List ℕ) (seen_key : K → L) (R : List ℕ → L → Type 0) (canon_key : K → List ℕ)
    (seen_public : B → W) (Q : List ℕ → W → Type 0) (bits : B → ℕ × List ℕ) where
  pub public_canonical : ((k : B) → Q ((bits k).0 ∷ (bits k).1) (seen_public k)) → (q : Option B) → Perhaps (Within 0x81 Q) (public_key_content bits q) (seen_option seen_public q)
  public_canonical again None = refl
  public_canonical again (Some k) = ((bits k).0 ∷ (bits k).1, again k, refl)

  pub private_key_canonical : (writable : A → Type 0) → ((a : A) → writable a → P (canon a) (seen a)) → ((k : B) → Q ((bits k).0 ∷ (bits k).1) (seen_public k))
      → (o : ObjectIdentifier) (p : Option A) (k : K) (q : Option B) → writable_option writable p → R (canon_key k) (seen_key k)
      → PrivateKeyText P R Q (el 0x30 (private_key_content canon canon_key bits o p k q)) (private_key (algorithm o (seen_option seen p)) (seen_key k) (seen_option seen_public q))
  private_key_canonical writable again public o p k q h key =
      let a = el 0x30 (algorithm_content canon o p) in
      let front = uint (version_of q) ++ a ++ canon_key k in
      let r = public_key_content bits q in
      let is : front ++ r ≡ uint (version_of (seen_option seen_public q)) ++ a ++ canon_key k ++ [] ++ r ++ [] =
      ap (λ (l : List ℕ). l ++ r) (sym (append-nil front)) ∙ sym (append-nil (front ++ [] ++ r)) ∙ ap (λ (n : ℕ). uint n ++ a ++ canon_key k ++ [] ++ r ++ []) (sym (version_seen seen_public q)) in
      (private_key_content canon canon_key bits o p k q, (a, canon_key k, [], r, [], algorithm_canonical seen P canon writable again o p h, key, (None, refl), public_canonical public q, ([], refl), is), refl)
