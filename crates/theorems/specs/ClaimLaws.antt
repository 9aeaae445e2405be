-- What a claim is answered, each answer exactly where request 2026-08 has it, and in its order.
--
--   EndsIn t s                the text t is the bytes s and its only semicolon outside quotes
--   ends-once-exactly         which texts those are
--   ends-before               the bytes s are those before the first semicolon outside quotes
--   ClaimRefused h t k        14: no trees; else 6: too many bytes; else 7: not such a text; else 7 to 10: the text's own fault
--   claim-refusals-in-order   a claim is refused exactly in these cases, each with its number
--   claim-fourteen-exactly, claim-six-exactly, claim-seven-exactly, claim-leaf-exactly     so of each number
--   claim-given-exactly       it gives what comparing the splits of the text's tree with the majority splits gives, exactly where it is not refused
use Rattle.std.specs.Prelude.{ℕ, suc, ◌+◌, ◌≤◌, ◌<◌, ◌≡◌, ◌⊎◌, ◌↔◌, Bool, List, [], ◌∷◌, ◌++◌, if◌then◌else◌}
use Rattle.std.proofs.Common.{arith, sym, ◌∙◌, inl, inr, true≢false}
use Rattle.std.proofs.Math.Path.{refl, ap}
use Rattle.std.proofs.Math.Bool.{true, false}
use Rattle.std.proofs.Math.Dec.{ltb, eqb}
use Rattle.std.proofs.Math.ListN.{length, length-append}
use borrow.Author.Tests.{ltb-true, ltb-false, lt-ltb, le-ltb, eqb-true, eqb-false, eq-eqb, ne_eqb}
use Rattle.trees.specs.Plain.{Answer, refused, gives}
use Rattle.trees.specs.Text.{semicolon, open_after, turned, ends_text, has_end, before_end}
use Rattle.trees.specs.Tree.{Nodes, leaves}
use Rattle.trees.specs.Grammar.{IsTree}
use Rattle.trees.specs.Verdict.{judged}
use Rattle.trees.specs.Consensus.{majority}
use Rattle.trees.specs.Held.{Held, most_text}
use Rattle.trees.specs.Questions.{if_trees}
use Rattle.trees.specs.Claim.{Claimed, compared, ends_once, claimed_by, claim_of}
use Rattle.theorems.specs.QuoteLaws.{before-all, before-unended, before-closed, before-end}
use Rattle.theorems.specs.VerdictLaws.{refusal-numbers}
use Rattle.theorems.specs.Refusing.{Fault}
use Rattle.theorems.specs.FaultLaws.{fault-numbers-only, Refusal, Fine, judged-refuses, judged-accepts}

-- ---- one semicolon, and it is the last byte

-- "The text must end with its only semicolon outside quotes"
pub record EndsIn (t s : List ℕ) : Type 0 where
  pub semicolon-last : t ≡ s ++ semicolon ∷ []
  pub no_other : has_end false s ≡ false
  pub outside-quotes : open_after false s ≡ false

module _ (t s : List ℕ) (e : EndsIn t s) where
  pub ends-before : before_end false t ≡ s
  ends-before = ap (before_end false) e.semicolon-last ∙ before-end [] false s e.no_other e.outside-quotes

  ends-test : ends_once t ≡ true
  unfolding ends_once
  ends-test =
      let a : length t ≡ length s + 1 = ap length e.semicolon-last ∙ length-append s (semicolon ∷ []) in
      let b : length (before_end false t) ≡ length s = ap length ends-before in
      eq-eqb (length t) (suc (length (before_end false t))) (omega arith)

last_byte : (q : Bool) (t : List ℕ) → length t ≡ suc (length (before_end q t)) → t ≡ before_end q t ++ semicolon ∷ []
unfolding before_end ends_text
last_byte q [] e = absurd (omega arith)
last_byte q (b ∷ p) e = go (ends_text q b) refl e (last_byte (turned q b) p)
  where
    no_more : (p : List ℕ) → length p ≡ 0 → p ≡ []
    no_more [] e = refl
    no_more (x ∷ p) e = absurd (omega arith)

    ends : (q : Bool) → ends_text q b ≡ true → b ≡ semicolon
    ends true e = absurd (true≢false (sym e))
    ends false e = eqb-true b semicolon e

    go : (a : Bool) → ends_text q b ≡ a → suc (length p) ≡ suc (length (if a then [] else b ∷ before_end (turned q b) p))
        → (length p ≡ suc (length (before_end (turned q b) p)) → p ≡ before_end (turned q b) p ++ semicolon ∷ [])
        → b ∷ p ≡ (if a then [] else b ∷ before_end (turned q b) p) ++ semicolon ∷ []
    go true d k f = let z : length p ≡ 0 = omega arith in rw (no_more p z, ends q d) refl
    go false d k f = ap (λ (w : List ℕ). b ∷ w) (f (omega arith))

test-ends : (t : List ℕ) → ends_once t ≡ true → EndsIn t (before_end false t)
unfolding ends_once
test-ends t e =
    let l : length t ≡ suc (length (before_end false t)) = eqb-true _ _ e in
    record { semicolon-last = last_byte false t l; no_other = before-unended false t; outside-quotes = before-closed false t (has (has_end false t) refl l) }
  where
    has : (a : Bool) → has_end false t ≡ a → length t ≡ suc (length (before_end false t)) → has_end false t ≡ true
    has true h l = h
    has false h l = let k : length (before_end false t) ≡ length t = ap length (before-all false t h) in absurd (omega arith)

pub ends-once-exactly : (t : List ℕ) → (ends_once t ≡ true) ↔ ((s : List ℕ) × EndsIn t s)
ends-once-exactly t = (λ e. (before_end false t, test-ends t e), λ x. ends-test t x.0 x.1)

-- ---- refusals

refusal-range : (ns : List (List ℕ)) (s : List ℕ) (k : ℕ) → Refusal ns s k → (7 ≤ k) × (k ≤ 10)
refusal-range ns s k r = refusal-numbers ns s k ((judged-refuses ns s k).1 r)

module _ (h : Held) (t : List ℕ) where
  -- "6 counts the bytes before the first such, or all"
  abbrev pub bytes_counted : ℕ
  bytes_counted = length (before_end false t)

  abbrev pub ClaimRefused : ℕ → Type 0
  ClaimRefused k =
      ((k ≡ 14) × (length h.trees ≡ 0))
      ⊎ (((k ≡ 6) × (0 < length h.trees) × (most_text < bytes_counted))
      ⊎ (((k ≡ 7) × (0 < length h.trees) × (bytes_counted ≤ most_text) × ((s : List ℕ) → EndsIn t s → ⊥))
      ⊎ ((0 < length h.trees) × (bytes_counted ≤ most_text) × (s : List ℕ) × EndsIn t s × Refusal h.opening.names s k)))

  abbrev pub ClaimGiven : Claimed → Type 0
  ClaimGiven c =
      (0 < length h.trees) × (bytes_counted ≤ most_text)
      × (s : List ℕ) × EndsIn t s × (ms : List ℕ) × Fine h.opening.names s ms × (compared ms (majority h.trees) ≡ c)

  abbrev ClaimSays : Answer Claimed → Type 0
  ClaimSays (refused k) = ClaimRefused k
  ClaimSays (gives c) = ClaimGiven c

  -- ---- from the tests

  abbrev by_verdict : Answer (List ℕ) → Answer Claimed
  by_verdict (refused k) = refused k
  by_verdict (gives ms) = gives (compared ms (majority h.trees))

  by-verdict : (s : List ℕ) → claimed_by h s ≡ by_verdict (judged h.opening.names s)
  unfolding claimed_by
  by-verdict s = go (judged h.opening.names s)
    where
      go : (a : Answer (List ℕ)) → elim a as (λ _. Answer Claimed) [ refused k ↦ refused k | gives t ↦ gives (compared t (majority h.trees)) ] ≡ by_verdict a
      go (refused k) = refl
      go (gives ms) = refl

  abbrev by_tests : Bool → Bool → Bool → Answer (List ℕ) → Answer Claimed
  by_tests true b c v = refused 14
  by_tests false true c v = refused 6
  by_tests false false false v = refused 7
  by_tests false false true v = by_verdict v

  abbrev answered : Answer Claimed
  answered = by_tests (eqb (length h.trees) 0) (ltb most_text bytes_counted) (ends_once t) (judged h.opening.names (before_end false t))

  claim-by : claim_of h t ≡ answered
  unfolding claim_of if_trees
  claim-by =
      ap (λ x. if eqb (length h.trees) 0 then refused 14 else if ltb most_text bytes_counted then refused 6 else if ends_once t then x else refused 7) (by-verdict (before_end false t))
      ∙ go (eqb (length h.trees) 0) (ltb most_text bytes_counted) (ends_once t) (judged h.opening.names (before_end false t))
    where
      go : (a b c : Bool) (v : Answer (List ℕ)) → (if a then refused 14 else if b then refused 6 else if c then by_verdict v else refused 7) ≡ by_tests a b c v
      go true b c v = refl
      go false true c v = refl
      go false false true v = refl
      go false false false v = refl

  some-tree : eqb (length h.trees) 0 ≡ false → 0 < length h.trees
  some-tree e = let f = eqb-false (length h.trees) 0 e in omega (arith, f)

  said : (a b c : Bool) (v : Answer (List ℕ)) → eqb (length h.trees) 0 ≡ a → ltb most_text bytes_counted ≡ b → ends_once t ≡ c → judged h.opening.names (before_end false t) ≡ v
      → ClaimSays (by_tests a b c v)
  said true b c v p q r e = inl (refl, eqb-true _ _ p)
  said false true c v p q r e = inr (inl (refl, some-tree p, ltb-true most_text bytes_counted q))
  said false false false v p q r e =
      inr (inr (inl (refl, some-tree p, ltb-false most_text bytes_counted q, λ s x. true≢false (sym (ends-test t s x) ∙ r))))
  said false false true (refused k) p q r e =
      inr (inr (inr (some-tree p, ltb-false most_text bytes_counted q, before_end false t, test-ends t r, (judged-refuses h.opening.names (before_end false t) k).0 e)))
  said false false true (gives ms) p q r e =
      (some-tree p, ltb-false most_text bytes_counted q, before_end false t, test-ends t r, ms, (judged-accepts h.opening.names (before_end false t) ms).0 e, refl)

  says : ClaimSays (claim_of h t)
  says = rw claim-by (said _ _ _ _ refl refl refl refl)

  -- ---- to the answer

  by-none : length h.trees ≡ 0 → claim_of h t ≡ refused 14
  by-none z = claim-by ∙ ap (λ (a : Bool). by_tests a (ltb most_text bytes_counted) (ends_once t) (judged h.opening.names (before_end false t))) (eq-eqb _ 0 z)

  by-some : 0 < length h.trees → (b c : Bool) (v : Answer (List ℕ)) → ltb most_text bytes_counted ≡ b → ends_once t ≡ c → judged h.opening.names (before_end false t) ≡ v
      → claim_of h t ≡ by_tests false b c v
  by-some l b c v q r e = claim-by ∙ λ i. by_tests (ne_eqb (length h.trees) 0 (λ z. omega (arith, l)) i) (q i) (r i) (e i)

  ended-not : ((s : List ℕ) → EndsIn t s → ⊥) → ends_once t ≡ false
  ended-not f = go (ends_once t) refl
    where
      go : (c : Bool) → ends_once t ≡ c → c ≡ false
      go true e = absurd (f (before_end false t) (test-ends t e))
      go false e = refl

  by-text : 0 < length h.trees → bytes_counted ≤ most_text → (s : List ℕ) → EndsIn t s → (v : Answer (List ℕ)) → judged h.opening.names s ≡ v → claim_of h t ≡ by_verdict v
  by-text l m s x v e = by-some l false true v (le-ltb most_text bytes_counted m) (ends-test t s x) (ap (judged h.opening.names) (ends-before t s x) ∙ e)

  -- "Order: 14, then 6 to 10"
  pub claim-refusals-in-order : (k : ℕ) → (claim_of h t ≡ refused k) ↔ ClaimRefused k
  claim-refusals-in-order k = (λ e. rw e at says, back)
    where
      back : ClaimRefused k → claim_of h t ≡ refused k
      back (inl x) = by-none x.1 ∙ ap refused (sym x.0)
      back (inr (inl x)) = by-some x.1 true (ends_once t) _ (lt-ltb most_text bytes_counted x.2) refl refl ∙ ap refused (sym x.0)
      back (inr (inr (inl x))) = by-some x.1 false false _ (le-ltb most_text bytes_counted x.2) (ended-not x.3) refl ∙ ap refused (sym x.0)
      back (inr (inr (inr x))) = by-text x.0 x.1 x.2 x.3 (refused k) ((judged-refuses h.opening.names x.2 k).1 x.4)

  pub claim-given-exactly : (c : Claimed) → (claim_of h t ≡ gives c) ↔ ClaimGiven c
  claim-given-exactly c = (
    λ e. rw e at says,
    λ x. by-text x.0 x.1 x.2 x.3 (gives x.4) ((judged-accepts h.opening.names x.2 x.4).1 x.5) ∙ ap gives x.6,
  )

  -- ---- one by one

  pub claim-fourteen-exactly : (claim_of h t ≡ refused 14) ↔ (length h.trees ≡ 0)
  claim-fourteen-exactly = (λ e. go ((claim-refusals-in-order 14).0 e), by-none)
    where
      go : ClaimRefused 14 → length h.trees ≡ 0
      go (inl x) = x.1
      go (inr (inl x)) = absurd (omega (arith, x.0))
      go (inr (inr (inl x))) = absurd (omega (arith, x.0))
      go (inr (inr (inr x))) = absurd (omega (arith, refusal-range h.opening.names x.2 14 x.4))

  pub claim-six-exactly : (claim_of h t ≡ refused 6) ↔ ((0 < length h.trees) × (most_text < bytes_counted))
  claim-six-exactly = (λ e. go ((claim-refusals-in-order 6).0 e), λ x. (claim-refusals-in-order 6).1 (inr (inl (refl, x.0, x.1))))
    where
      go : ClaimRefused 6 → (0 < length h.trees) × (most_text < bytes_counted)
      go (inl x) = absurd (omega (arith, x.0))
      go (inr (inl x)) = (x.1, x.2)
      go (inr (inr (inl x))) = absurd (omega (arith, x.0))
      go (inr (inr (inr x))) = absurd (omega (arith, refusal-range h.opening.names x.2 6 x.4))

  -- not such a text, or one that is no tree by the grammar
  abbrev pub NoTreeText : Type 0
  NoTreeText = ((s : List ℕ) → EndsIn t s → ⊥) ⊎ ((s : List ℕ) × EndsIn t s × ((u : Nodes) → IsTree s u → ⊥))

  pub claim-seven-exactly : (claim_of h t ≡ refused 7) ↔ ((0 < length h.trees) × (bytes_counted ≤ most_text) × NoTreeText)
  claim-seven-exactly = (λ e. go ((claim-refusals-in-order 7).0 e), λ x. (claim-refusals-in-order 7).1 (back x.0 x.1 x.2))
    where
      own : (s : List ℕ) → Refusal h.opening.names s 7 → (u : Nodes) → IsTree s u → ⊥
      own s (inl y) = y.1
      own s (inr y) = absurd (omega (arith, fault-numbers-only h.opening.names y.2))

      go : ClaimRefused 7 → (0 < length h.trees) × (bytes_counted ≤ most_text) × NoTreeText
      go (inl x) = absurd (omega (arith, x.0))
      go (inr (inl x)) = absurd (omega (arith, x.0))
      go (inr (inr (inl x))) = (x.1, x.2, inl x.3)
      go (inr (inr (inr x))) = (x.0, x.1, inr (x.2, x.3, own x.2 x.4))

      back : 0 < length h.trees → bytes_counted ≤ most_text → NoTreeText → ClaimRefused 7
      back l m (inl f) = inr (inr (inl (refl, l, m, f)))
      back l m (inr x) = inr (inr (inr (l, m, x.0, x.1, inl (refl, x.2))))

  -- "leaves from left to right for 8 or 9, then 10"
  abbrev pub LeafRefused : ℕ → Type 0
  LeafRefused k = (s : List ℕ) × EndsIn t s × (u : Nodes) × IsTree s u × Fault h.opening.names [] (leaves u) k

  pub claim-leaf-exactly : (k : ℕ) → 8 ≤ k → k ≤ 10 → (claim_of h t ≡ refused k) ↔ ((0 < length h.trees) × (bytes_counted ≤ most_text) × LeafRefused k)
  claim-leaf-exactly k a b = (
    λ e. go ((claim-refusals-in-order k).0 e),
    λ x. (claim-refusals-in-order k).1 (inr (inr (inr (x.0, x.1, x.2.0, x.2.1, inr (x.2.2, x.2.3, x.2.4))))),
  )
    where
      leaf : (s : List ℕ) → Refusal h.opening.names s k → (u : Nodes) × IsTree s u × Fault h.opening.names [] (leaves u) k
      leaf s (inl y) = absurd (omega (arith, y.0))
      leaf s (inr y) = y

      go : ClaimRefused k → (0 < length h.trees) × (bytes_counted ≤ most_text) × LeafRefused k
      go (inl x) = absurd (omega (arith, x.0))
      go (inr (inl x)) = absurd (omega (arith, x.0))
      go (inr (inr (inl x))) = absurd (omega (arith, x.0))
      go (inr (inr (inr x))) = let y = leaf x.2 x.4 in (x.0, x.1, (x.2, x.3, y.0, y.1, y.2))
