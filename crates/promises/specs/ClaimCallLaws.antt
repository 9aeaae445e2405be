-- What the claim that a text is the majority tree is answered, of the call's own promise. That it leaves every lent byte, those of the lanes
-- among them, is what `asking-changes-nothing` says of every question. Assumes nothing.
--
--   claim-not-whole          1 exactly where the lent bytes are not whole; all else is of whole lent bytes
--   claim-refused            14, 6 and 7 to 10 are answered exactly where their fault is the first
--   claim-no-trees, claim-too-long, claim-no-tree, claim-bad-leaf     so of 14, of 6, of 7, and of 8 to 10
--   claim-given              any other text is answered by what comparing the splits of its tree with the majority splits gives
--   claim-same               a text is answered `same` exactly when its splits are the majority splits
--   claim-no-distance        and exactly when its doubled distance from the majority tree is 0
--   claim-names              it is answered c exactly when what c says is so: the mask named is in one set alone, in the one that is named, and every
--                            smaller mask is in both or in neither
--   claim-answered           and one of these is answered
--   claim-any-root           texts of one tree, with any root and any order of children, are given the same answer
--   majority-claimed-same    what the call `majority` writes is answered `same`
use Rattle.std.specs.Prelude.{ℕ, ◌≤◌, ◌<◌, ◌≡◌, ◌↔◌, Bool, List, [], ◌∷◌, ◌++◌, length, take}
use Rattle.std.proofs.Common.{arith, sym, ◌∙◌, inl, inr}
use Rattle.std.proofs.Math.Path.{refl, ap}
use Rattle.std.proofs.Math.Logic.Iff.{symm as iff_symm, trans as iff_trans}
use Rattle.std.proofs.Math.Bool.{true, false}
use Rattle.trees.specs.Plain.{Answer, refused, gives}
use Rattle.trees.specs.Text.{semicolon}
use Rattle.trees.specs.Tree.{Nodes}
use Rattle.trees.specs.Grammar.{IsTree}
use Rattle.trees.specs.Verdict.{judged}
use Rattle.trees.specs.Distance.{doubled}
use Rattle.trees.specs.Consensus as of
use Rattle.trees.specs.Held.{most_text}
use Rattle.trees.specs.Questions.{majority_of}
use Rattle.trees.specs.Claim.{Claimed, same, compared, claim_of}
use Rattle.theorems.specs.OpeningLaws.{good-opening}
use Rattle.theorems.specs.HeldLaws.{whole-facts}
use Rattle.theorems.specs.VerdictLaws.{refusal-numbers}
use Rattle.theorems.specs.FaultLaws.{Fine, judged-refuses, judged-accepts}
use Rattle.theorems.specs.Unrooted.{SameUnrooted}
use Rattle.theorems.specs.ComparedLaws.{Says}
use Rattle.theorems.specs.ClaimLaws.{bytes_counted, ClaimRefused, ClaimGiven, NoTreeText, LeafRefused, claim-refusals-in-order, claim-fourteen-exactly, claim-six-exactly, claim-seven-exactly, claim-leaf-exactly, claim-given-exactly}
use Rattle.theorems.specs.ClaimedTreeLaws.{claim-by-splits, claim-same-exactly, claim-distance-exactly, claim-named-exactly, any-root-same-claim, majority-claimed}
use Rattle.answers.specs.Answers.{refusal_number}
use Rattle.layout.specs.Store.{held_at}
use Rattle.layout.specs.WholeStore.{whole_at}
use Rattle.store.specs.HeldWholeLaws.{held_whole}
use Rattle.store.specs.LentLaws.{not-whole}
use Rattle.promises.specs.Calls.{majority, claim, Reply, filled, claimed, reply}
use Rattle.promises.specs.Steps.{Asked}
use Rattle.promises.specs.StepLaws.{asked-follows}
use Rattle.promises.specs.ReadBackCallLaws.{given_is}

-- ---- refusals

claimed-one : {x y : Answer Claimed} → claimed x ≡ claimed y → x ≡ y
claimed-one e = cc

module _ (s t : List ℕ) (a : Reply) (q : Asked s (claim t) a) where
  module _ (w : whole_at s ≡ true) where
    abbrev trees : List (List ℕ)
    trees = (held_at s).trees

    answer-exactly : (x : Answer Claimed) → (a ≡ claimed x) ↔ (claim_of (held_at s) t ≡ x)
    unfolding reply
    answer-exactly x = let e = asked-follows s w (claim t) a q in (λ d. claimed-one (sym e ∙ d), λ d. e ∙ ap claimed d)

    -- "Order: 14, then 6 to 10"
    pub claim-refused : (k : ℕ) → (a ≡ claimed (refused k)) ↔ ClaimRefused (held_at s) t k
    claim-refused k = iff_trans (answer-exactly (refused k)) (claim-refusals-in-order (held_at s) t k)

    pub claim-no-trees : (a ≡ claimed (refused 14)) ↔ (length trees ≡ 0)
    claim-no-trees = iff_trans (answer-exactly (refused 14)) (claim-fourteen-exactly (held_at s) t)

    -- "6 counts the bytes before the first such, or all"
    pub claim-too-long : (a ≡ claimed (refused 6)) ↔ ((0 < length trees) × (most_text < bytes_counted (held_at s) t))
    claim-too-long = iff_trans (answer-exactly (refused 6)) (claim-six-exactly (held_at s) t)

    -- "The text must end with its only semicolon outside quotes, else 7"
    pub claim-no-tree : (a ≡ claimed (refused 7)) ↔ ((0 < length trees) × (bytes_counted (held_at s) t ≤ most_text) × NoTreeText (held_at s) t)
    claim-no-tree = iff_trans (answer-exactly (refused 7)) (claim-seven-exactly (held_at s) t)

    pub claim-bad-leaf : (k : ℕ) → 8 ≤ k → k ≤ 10
        → (a ≡ claimed (refused k)) ↔ ((0 < length trees) × (bytes_counted (held_at s) t ≤ most_text) × LeafRefused (held_at s) t k)
    claim-bad-leaf k l m = iff_trans (answer-exactly (refused k)) (claim-leaf-exactly (held_at s) t k l m)

    pub claim-given : (c : Claimed) → (a ≡ claimed (gives c)) ↔ ClaimGiven (held_at s) t c
    claim-given c = iff_trans (answer-exactly (gives c)) (claim-given-exactly (held_at s) t c)

    never-one : a ≡ claimed (refused 1) → ⊥
    never-one e = go ((claim-refused 1).0 e)
      where
        go : ClaimRefused (held_at s) t 1 → ⊥
        go (inl x) = omega (arith, x.0)
        go (inr (inl x)) = omega (arith, x.0)
        go (inr (inr (inl x))) = omega (arith, x.0)
        go (inr (inr (inr x))) =
            let ns = (held_at s).opening.names in
            omega (arith, refusal-numbers ns x.2 1 ((judged-refuses ns x.2 1).1 x.4))

  pub claim-not-whole : (a ≡ claimed (refused 1)) ↔ (whole_at s ≡ false)
  unfolding Asked refusal_number
  claim-not-whole = (λ e. go (whole_at s) refl e, λ e. q.2 ∙ ap claimed (q.1 ∙ not-whole s (λ h. claim_of h t) e))
    where
      go : (b : Bool) → whole_at s ≡ b → a ≡ claimed (refused 1) → b ≡ false
      go true w e = absurd (never-one w e)
      go false w e = refl

-- ---- which trees are accepted

module _ (s : List ℕ) (w : whole_at s ≡ true) where
  abbrev names : List (List ℕ)
  names = (held_at s).opening.names

  abbrev chosen : List ℕ
  chosen = of.majority (held_at s).trees

  -- a text that is not refused: the bytes v of a tree with the splits ms, and a semicolon
  module _ (v ms : List ℕ) (some-tree : 0 < length (held_at s).trees) (short : length v ≤ most_text) (fine : Fine names v ms) (a : Reply)
      (q : Asked s (claim (v ++ semicolon ∷ [])) a) where
    accepts : judged names v ≡ gives ms
    accepts = (judged-accepts names v ms).1 fine

    answered : (c : Claimed) → (a ≡ claimed (gives c)) ↔ (claim_of (held_at s) (v ++ semicolon ∷ []) ≡ gives c)
    answered c = answer-exactly s (v ++ semicolon ∷ []) a q w (gives c)

    -- "Accept it exactly when its splits are the majority splits"
    pub claim-same : (a ≡ claimed (gives same)) ↔ (ms ≡ chosen)
    claim-same = iff_trans (answered same) (claim-same-exactly (held_at s) v ms some-tree short accepts)

    pub claim-no-distance : (a ≡ claimed (gives same)) ↔ (doubled ms chosen ≡ 0)
    claim-no-distance = iff_trans (answered same) (claim-distance-exactly (held_at s) v ms some-tree short accepts)

    -- "If not, name the smallest mask that is in one set alone, and which set"
    pub claim-names : (c : Claimed) → (a ≡ claimed (gives c)) ↔ Says ms chosen c
    claim-names c = iff_trans (answered c) (claim-named-exactly (held_at s) v ms some-tree short accepts c)

    pub claim-answered : (c : Claimed) × (a ≡ claimed (gives c)) × Says ms chosen c
    claim-answered =
        let e = (answered (compared ms chosen)).1 (claim-by-splits (held_at s) v ms some-tree short accepts) in
        (compared ms chosen, e, (claim-names (compared ms chosen)).0 e)

  -- "however it is rooted"; which leaf is the first at fault goes by their order, and so does its refusal
  pub claim-any-root : (x y : List ℕ) (t u : Nodes) → IsTree x t → IsTree y u → SameUnrooted t u → length x ≤ most_text → length y ≤ most_text → (a b : Reply)
      → Asked s (claim (x ++ semicolon ∷ [])) a → Asked s (claim (y ++ semicolon ∷ [])) b → (c : Claimed) → (a ≡ claimed (gives c)) ↔ (b ≡ claimed (gives c))
  claim-any-root x y t u i k o l m a b p q c =
      let opened = good-opening (held_at s).opening (whole-facts (held_at s) (held_whole s w)).opening-good in
      let few : 0 < length names = omega (arith, opened.named.count, opened.ranges.least-taxa) in
      iff_trans (answer-exactly s (x ++ semicolon ∷ []) a p w (gives c))
      (iff_trans (any-root-same-claim (held_at s) few x y t u i k o l m c) (iff_symm (answer-exactly s (y ++ semicolon ∷ []) b q w (gives c))))

  -- ---- our own majority tree: the first bytes of the buffer, as many as are answered

  pub majority-claimed-same : (out : List ℕ) (n : ℕ) (left : List ℕ) (a : Reply) → Asked s (majority out) (filled (gives n) left) → Asked s (claim (take n left)) a
      → a ≡ claimed (gives same)
  unfolding reply
  majority-claimed-same out n left a p q =
      let g = given_is (majority_of (held_at s) (length out)) out n left (asked-follows s w (majority out) (filled (gives n) left) p) in
      (answer-exactly s (take n left) a q w (gives same)).1 (majority-claimed (held_at s) (held_whole s w) (length out) (take n left) g.0)
