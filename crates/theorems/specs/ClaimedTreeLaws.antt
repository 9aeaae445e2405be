-- Which trees are the majority tree: a claim goes by the splits of the text's tree alone, and our own majority tree is accepted.
--
--   tree-ends                a text of a tree, with a semicolon behind it, ends with its only semicolon outside quotes
--   claim-by-splits          the answer to a text with the splits ms is what comparing them with the majority splits gives
--   claim-same-exactly       it is `same` exactly when they are the majority splits
--   claim-distance-exactly   and exactly when the doubled distance from the majority tree is 0
--   claim-named-exactly      it names a mask exactly when that is the smallest in one set alone, and of the two sets it names that one
--   any-root-same-claim      texts of one unrooted tree, with any root and any order of children, are given the same answer
--   majority-claimed         what `majority_of` writes of a whole collection is `same`
use Prim.Native.Nat.{ℕ, suc, ◌≤◌, ◌<◌}
use Rattle.std.proofs.Common.{arith, ap, sym, ◌∙◌, subst}
use Rattle.std.specs.Prelude.{◌≡◌, ◌↔◌, Bool, true, false, List, [], ◌∷◌, ◌++◌, ltb, eqb, length, if◌then◌else◌}
use Rattle.std.proofs.Math.Path.{refl}
use Rattle.std.proofs.Math.Logic.Iff.{trans as iff_trans}
use Rattle.std.proofs.lemmas.Bool.{eqb-false}
use Rattle.trees.specs.Plain.{Answer, refused, gives}
use Rattle.trees.specs.Text.{semicolon}
use Rattle.trees.specs.Tree.{Nodes, leaves}
use Rattle.trees.specs.Grammar.{IsTree}
use Rattle.trees.specs.Splits.{splits_of}
use Rattle.trees.specs.Verdict.{leaf_fault, judged}
use Rattle.trees.specs.Distance.{doubled}
use Rattle.trees.specs.Consensus.{recorded, is_majority, majority}
use Rattle.trees.specs.Written.{tree_of, shown, written}
use Rattle.trees.specs.Held.{Held, most_text}
use Rattle.trees.specs.Questions.{if_trees, if_room, majority_of}
use Rattle.trees.specs.Claim.{Claimed, same, compared, claim_of}
use Rattle.theorems.specs.RisingLaws.{Rising, rising-true, keep-rising, recorded-rising}
use Rattle.theorems.specs.OpeningLaws.{good-opening}
use Rattle.theorems.specs.ConsensusLaws.{good-rising}
use Rattle.theorems.specs.WholeHeld.{whole}
use Rattle.theorems.specs.HeldLaws.{whole-facts}
use Rattle.theorems.specs.VerdictLaws.{judged-good}
use Rattle.theorems.specs.GrammarLaws.{reading-complete, one-tree}
use Rattle.theorems.specs.FaultLaws.{Fine, judged-accepts, faultless-exactly}
use Rattle.theorems.specs.OutsideLaws.{leads-open, leads-unended}
use Rattle.theorems.specs.UnendedLaws.{tree-unended}
use Rattle.theorems.specs.Unrooted.{SameUnrooted, back}
use Rattle.theorems.specs.UnrootedLaws.{unrooted, unrooted-faultless}
use Rattle.theorems.specs.WrittenLaws.{judged-gives, written-tree-reads-back, written-length}
use Rattle.theorems.specs.WrittenFedLaws.{written-more}
use Rattle.theorems.specs.ReadBackLaws.{names-good, majority-whole}
use Rattle.theorems.specs.ComparedLaws.{Says, compared-exactly, same-splits, same-distance}
use Rattle.theorems.specs.ClaimLaws.{EndsIn, ends-before, claim-given-exactly}

-- ---- the text of a tree

pub tree-ends : (s : List ℕ) (t : Nodes) → IsTree s t → EndsIn (s ++ semicolon ∷ []) s
tree-ends s t i = record { semicolon-last = refl; no_other = leads-unended (tree-unended i); outside-quotes = leads-open (tree-unended i) }

module _ (h : Held) where
  abbrev names : List (List ℕ)
  names = h.opening.names

  majority-rising : Rising (majority h.trees)
  unfolding majority
  majority-rising = keep-rising (is_majority h.trees) (recorded h.trees) (recorded-rising h.trees)

  -- a text that is no tree by the grammar, has a fault in its leaves, or is too long, gives nothing; of any other:
  module _ (s ms : List ℕ) (some-tree : 0 < length h.trees) (short : length s ≤ most_text) (j : judged names s ≡ gives ms) where
    abbrev text : List ℕ
    text = s ++ semicolon ∷ []

    ms-rising : Rising ms
    ms-rising = rising-true ms (good-rising (length names) ms (judged-good names s ms j))

    fine : Fine names s ms
    fine = (judged-accepts names s ms).0 j

    ends : EndsIn text s
    ends = tree-ends s fine.0 fine.1

    pub claim-by-splits : claim_of h text ≡ gives (compared ms (majority h.trees))
    claim-by-splits =
        (claim-given-exactly h text (compared ms (majority h.trees))).1
        (some-tree, subst (λ (x : List ℕ). length x ≤ most_text) (sym (ends-before text s ends)) short, s, ends, ms, fine, refl)

    answer-exactly : (c : Claimed) → (claim_of h text ≡ gives c) ↔ (compared ms (majority h.trees) ≡ c)
    answer-exactly c = (λ e. given (sym claim-by-splits ∙ e), λ e. claim-by-splits ∙ ap gives e)
      where
        given : {x y : Claimed} → ◌≡◌ {A = Answer Claimed} (gives x) (gives y) → x ≡ y
        given e = cc

    -- "Accept it exactly when its splits are the majority splits"
    pub claim-same-exactly : (claim_of h text ≡ gives same) ↔ (ms ≡ majority h.trees)
    claim-same-exactly = iff_trans (answer-exactly same) (same-splits ms (majority h.trees) ms-rising majority-rising)

    pub claim-distance-exactly : (claim_of h text ≡ gives same) ↔ (doubled ms (majority h.trees) ≡ 0)
    claim-distance-exactly = iff_trans (answer-exactly same) (same-distance ms (majority h.trees) ms-rising majority-rising)

    -- "If not, name the smallest mask that is in one set alone, and which set"
    pub claim-named-exactly : (c : Claimed) → (claim_of h text ≡ gives c) ↔ Says ms (majority h.trees) c
    claim-named-exactly c = iff_trans (answer-exactly c) (compared-exactly ms (majority h.trees) ms-rising majority-rising c)

  -- ---- "however it is rooted"

  module _ (few : 0 < length names) where
    rooted-again : (s v : List ℕ) (t u : Nodes) → IsTree s t → IsTree v u → SameUnrooted t u → length v ≤ most_text → (c : Claimed)
        → claim_of h (s ++ semicolon ∷ []) ≡ gives c → claim_of h (v ++ semicolon ∷ []) ≡ gives c
    rooted-again s v t u i k o l c e =
        let g = (claim-given-exactly h (s ++ semicolon ∷ []) c).0 e in
        let same_text : g.2 ≡ s = sym (ends-before _ g.2 g.3) ∙ ends-before _ s (tree-ends s t i) in
        let f = g.5 in
        let is-t : f.0 ≡ t = one-tree s f.0 t (subst (λ (x : List ℕ). IsTree x f.0) same_text f.1) i in
        let fault : leaf_fault names 0 (leaves t) ≡ 0 = ap (λ x. leaf_fault names 0 (leaves x)) (sym is-t) ∙ (faultless-exactly names (leaves f.0)).1 (λ k q. f.2 (suc k) q) in
        let splits : g.4 ≡ splits_of names u = f.3 ∙ ap (splits_of names) is-t ∙ unrooted names few o fault in
        let there : judged names v ≡ gives (splits_of names u) = judged-gives names v u (reading-complete v u k) (unrooted-faultless names o fault) in
        claim-by-splits v (splits_of names u) g.0 l there ∙ ap (λ (x : List ℕ). gives (compared x (majority h.trees))) (sym splits) ∙ ap gives g.6

    -- a text that is longer is refused with 6, whatever its tree is
    pub any-root-same-claim : (s v : List ℕ) (t u : Nodes) → IsTree s t → IsTree v u → SameUnrooted t u → length s ≤ most_text → length v ≤ most_text → (c : Claimed)
        → (claim_of h (s ++ semicolon ∷ []) ≡ gives c) ↔ (claim_of h (v ++ semicolon ∷ []) ≡ gives c)
    any-root-same-claim s v t u i k o l m c = (rooted-again s v t u i k o m c, rooted-again v s u t k i (back o) l c)

  -- ---- our own majority tree

  module _ (w : whole h ≡ true) where
    many : 4 ≤ h.opening.numbers.taxa
    many = (good-opening h.opening (whole-facts h w).opening-good).ranges.least-taxa

    most : h.opening.numbers.taxa ≤ 64
    most = (good-opening h.opening (whole-facts h w).opening-good).ranges.most-taxa

    pub majority-claimed : (room : ℕ) (text : List ℕ) → majority_of h room ≡ gives text → claim_of h text ≡ gives same
    unfolding majority_of if_trees if_room written
    majority-claimed room text e = go (eqb (length h.trees) 0) (ltb room (length (written names (majority h.trees)))) refl refl e
      where
        n : ℕ
        n = h.opening.numbers.taxa

        ours : List ℕ
        ours = shown (tree_of names (majority h.trees))

        some-tree : eqb (length h.trees) 0 ≡ false → 0 < length h.trees
        some-tree z = let f = eqb-false (length h.trees) 0 z in omega (arith, f)

        claimed : eqb (length h.trees) 0 ≡ false → claim_of h (ours ++ semicolon ∷ []) ≡ gives same
        claimed z =
            (claim-same-exactly ours (majority h.trees) (some-tree z)
            (omega (arith, written-length n names (majority h.trees) (names-good h w) (majority-whole h w) (omega (arith, many)) most, written-more names (majority h.trees)))
            (written-tree-reads-back n names (majority h.trees) (names-good h w) (majority-whole h w) (omega (arith, many)) most)
            ).1 refl

        go : (a b : Bool) → eqb (length h.trees) 0 ≡ a → ltb room (length (written names (majority h.trees))) ≡ b
            → (if a then refused 14 else if b then refused 4 else gives (ours ++ semicolon ∷ [])) ≡ gives text → claim_of h text ≡ gives same
        go true b p q r = let z : ◌≡◌ {A = ℕ} 0 1 = cc in absurd (omega arith)
        go false true p q r = let z : ◌≡◌ {A = ℕ} 0 1 = cc in absurd (omega arith)
        go false false p q r = let x : ours ++ semicolon ∷ [] ≡ text = cc in ap (claim_of h) (sym x) ∙ claimed p
