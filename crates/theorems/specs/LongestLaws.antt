-- "The longest is 4,349 bytes": no tree is written longer (`written-length`, WrittenLaws), and this length is reached by the trees of a collection.
--
--   longest-opens       there is such a collection: the opening is accepted
--   longest-accepts     the text is accepted there, as tree 0
--   longest-trees       the collection then holds its 61 splits
--   longest-reached     both consensus trees of it, and its tree, are written in 4,349 bytes
use Rattle.std.specs.Prelude.{ℕ, zero, suc, ◌+◌, ◌-◌, ◌%◌, ◌^◌, ◌≤◌, ◌<◌, ◌≡◌, refl, Bool, true, false, leb, length, get_or, replicate, if◌then◌else◌}
use Rattle.std.proofs.Common.{arith, pow-suc, sym, ◌∙◌, subst, inl, inr, leb-true, leb-false, le-ltb}
use Rattle.std.proofs.Math.Path.{ap}
use mathlib.Core.List.{List, [], ◌∷◌}
use Rattle.std.specs.Int.Count.{ones}
use Rattle.std.proofs.Math.Dec.{ltb, eqb}
use Rattle.std.proofs.Math.Pow.{pow_pos, pow_mono}
use Rattle.trees.specs.Plain.{every, refused, gives}
use Rattle.trees.specs.Mask.{every_taxon, proper}
use Rattle.trees.specs.Names.{good_names}
use Rattle.trees.specs.Consensus.{strict, majority}
use Rattle.trees.specs.Written.{written}
use Rattle.trees.specs.Verdict.{Branches}
use Rattle.trees.specs.Opening.{store_size, opening}
use Rattle.trees.specs.Held.{Held, holding, opened, lane_of, with_lane, with_tree, room_for, accepted, finished, recording, finishing, feeding}
use Rattle.trees.specs.Questions.{if_room, if_tree, if_trees, tree, strict_of, majority_of, written_of}
use Rattle.trees.specs.Whole.{rising, agree_in_pairs, good_tree}
use Rattle.theorems.specs.ListLaws.{if-false, and-true, Mem}
use Rattle.theorems.specs.BitLaws.{On, Sub, first_on}
use Rattle.theorems.specs.OnesLaws.{ones-part}
use Rattle.theorems.specs.MaskLaws.{Ag, below_sub, others-xor, others-on, on-others}
use Rattle.theorems.specs.SplitLaws.{pairs-intro}
use Rattle.theorems.specs.ProperLaws.{every-ones, true-proper}
use Rattle.theorems.specs.Absent.{without_lengths}
use Rattle.theorems.specs.WrittenFedLaws.{written-accepted}
use Rattle.theorems.specs.Longest.{long_names, listed, comb_splits, long_numbers, long_opening, long_text, longest}

-- ---- the splits are in order

-- the taxa from i on, of n
module _ (n i : ℕ) (h : i ≤ n) where
  lower-within : Sub (every_taxon i) (every_taxon n)
  unfolding every_taxon
  lower-within = below_sub n (2 ^ i - 1) (omega (arith, pow_mono h, pow_pos i))

  upper : every_taxon n - every_taxon i ≡ 2 ^ n - 2 ^ i
  unfolding every_taxon
  upper = omega (arith, pow_mono h, pow_pos i)

  upper-ones : ones (2 ^ n - 2 ^ i) + i ≡ n
  upper-ones =
      omega (arith, ones-part (every_taxon i) (every_taxon n) lower-within, every-ones n, every-ones i, ap ones (sym (others-xor (every_taxon n) (every_taxon i) lower-within) ∙ upper))

upper-within : (n i j : ℕ) → i ≤ j → j ≤ n → Sub (2 ^ n - 2 ^ j) (2 ^ n - 2 ^ i)
upper-within n i j h k b o =
    let s = lower-within n i (omega arith) in
    let p = on-others (every_taxon n) (every_taxon j) (lower-within n j k) b (subst (λ (z : ℕ). On z b) (sym (upper n j k)) o) in
    subst (λ (z : ℕ). On z b) (upper n i (omega arith)) (others-on (every_taxon n) (every_taxon i) s b p.0 (λ q. p.1 (lower-within j i h b q)))

-- taxon 0 is in none of them
comb-even : (k : ℕ) → (2 ^ 64 - 2 ^ (k + 2)) % 2 ≡ 1 → ⊥
comb-even k e =
    let p : 2 ^ (k + 2) ≡ 2 ^ suc (suc k) = ap (λ (x : ℕ). 2 ^ x) (omega arith) in
    omega (arith, e, p, pow-suc 2 (suc k))

comb-proper : (k : ℕ) → k < 61 → proper 64 (2 ^ 64 - 2 ^ (k + 2)) ≡ true
comb-proper k h =
    let o = upper-ones 64 (k + 2) (omega arith) in
    true-proper 64 (2 ^ 64 - 2 ^ (k + 2)) (λ e. comb-even k (first_on (2 ^ 64 - 2 ^ (k + 2)) e)) (omega arith) (omega arith) (omega (arith, pow_pos (k + 2)))

comb-every : (k : ℕ) → k ≤ 61 → every (proper 64) (comb_splits k) ≡ true
unfolding every comb_splits
comb-every zero h = refl
comb-every (suc k) h = and-true (comb-proper k (omega arith)) (comb-every k (omega arith))

comb-rising : rising (comb_splits 61) ≡ true
unfolding rising comb_splits
comb-rising = refl

-- of two of them, one lies within the other
comb-mem : (k m : ℕ) → Mem m (comb_splits k) → (j : ℕ) × (j < k) × (m ≡ 2 ^ 64 - 2 ^ (j + 2))
unfolding comb_splits
comb-mem zero m x' = elim x' [ ]
comb-mem (suc k) m (inl e) = (k, omega arith, e)
comb-mem (suc k) m (inr h) = let r = comb-mem k m h in (r.0, omega (arith, r.1), r.2)

comb-ag : (i j : ℕ) → i + 2 ≤ 64 → j + 2 ≤ 64 → Ag (2 ^ 64 - 2 ^ (i + 2)) (2 ^ 64 - 2 ^ (j + 2))
comb-ag i j a b = go (leb i j) refl
  where
    go : (t : Bool) → leb i j ≡ t → Ag (2 ^ 64 - 2 ^ (i + 2)) (2 ^ 64 - 2 ^ (j + 2))
    go true e = inr (inr (upper-within 64 (i + 2) (j + 2) (omega (arith, leb-true i j e)) b))
    go false e = inr (inl (upper-within 64 (j + 2) (i + 2) (omega (arith, leb-false i j e)) a))

comb-agree : agree_in_pairs (comb_splits 61) ≡ true
comb-agree =
    pairs-intro (comb_splits 61)
    (λ x y h k.
    let p = comb-mem 61 x h in
    let q = comb-mem 61 y k in
    subst (λ (z : ℕ). Ag z y) (sym p.2) (subst (Ag (2 ^ 64 - 2 ^ (p.0 + 2))) (sym q.2) (comb-ag p.0 q.0 (omega (arith, p.1)) (omega (arith, q.1)))))

comb-good : good_tree 64 (comb_splits 61) ≡ true
unfolding good_tree
comb-good = and-true (comb-every 61 (omega arith)) (and-true comb-rising comb-agree)

-- ---- the collection

names-good : good_names 64 long_names ≡ true
unfolding good_names long_names
names-good = refl

pub longest-opens : opening long_numbers (listed long_names) (replicate 64 0) (replicate 64 0) (store_size long_numbers) ≡ gives long_opening
unfolding opening long_numbers listed long_names store_size long_opening
longest-opens = refl

-- ---- its one tree

-- its splits; lengths are not kept
long_branches : Branches
long_branches = without_lengths 0 (comb_splits 61)

long-room : room_for (opened long_opening) long_branches ≡ gives long_branches
unfolding room_for opened long_opening comb_splits long_branches without_lengths
long-room = refl

long-lane : ltb 0 (opened long_opening).opening.numbers.lanes ≡ true
unfolding opened long_opening long_numbers
long-lane = refl

long-empty : lane_of (opened long_opening) 0 ≡ holding []
unfolding lane_of opened long_opening long_numbers
long-empty = refl

long-named : (opened long_opening).opening.names ≡ long_names
unfolding opened long_opening
long-named = refl

long_kept : (opened long_opening).opening.numbers.kept ≡ 0
unfolding opened long_opening long_numbers
long_kept = refl

long-fed : feeding (opened long_opening) 0 long_text ≡ finishing (opened long_opening) 0 (length long_text) (gives long_branches)
unfolding long_text long_branches
long-fed =
    written-accepted 64 long_names (comb_splits 61) names-good comb-good (opened long_opening) 0 long-lane (omega arith) (omega arith) long-named long-empty
    ∙ ap (λ (kept : ℕ). finishing (opened long_opening) 0 (length long_text) (room_for (opened long_opening) (without_lengths kept (comb_splits 61)))) long_kept
    ∙ ap (finishing (opened long_opening) 0 (length long_text)) long-room

pub longest-accepts : (feeding (opened long_opening) 0 long_text).answer ≡ gives (accepted 0)
unfolding finishing finished opened
longest-accepts = ap (λ f. f.answer) long-fed

holds-one : Held
holds-one = with_lane (with_tree (opened long_opening) long_branches) 0 (holding [])

long_after : longest ≡ holds-one
unfolding longest finishing recording holds-one
long_after = ap (λ f. f.after) long-fed

pub longest-trees : longest.trees ≡ comb_splits 61 ∷ []
unfolding holds-one with_lane with_tree opened long_branches without_lengths
longest-trees = ap (λ h. h.trees) long_after

longest-names : longest.opening.names ≡ long_names
unfolding holds-one with_lane with_tree opened long_opening
longest-names = ap (λ h. h.opening.names) long_after

-- ---- what it writes

long-length : length long_text ≡ 4349
unfolding long_text
long-length = refl

long-fits : length long_text ≤ 4349
long-fits = omega (arith, long-length)

long-written : written longest.opening.names (comb_splits 61) ≡ long_text
unfolding long_text
long-written = ap (λ (ns : List (List ℕ)). written ns (comb_splits 61)) longest-names

one-majority : majority (comb_splits 61 ∷ []) ≡ comb_splits 61
unfolding majority comb_splits
one-majority = refl

one-strict : strict (comb_splits 61 ∷ []) ≡ comb_splits 61
unfolding strict comb_splits
one-strict = refl

-- a collection of one tree t, written as w
module _ (h : Held) (t w : List ℕ) (room : ℕ) (one : h.trees ≡ t ∷ []) (shown-as : written h.opening.names t ≡ w) (fits : length w ≤ room) where
  given : if_room room (written h.opening.names t) ≡ gives w
  unfolding if_room
  given = ap (if_room room) shown-as ∙ if-false (refused 4) (gives w) (le-ltb room (length w) fits)

  majority-given : majority (t ∷ []) ≡ t → majority_of h room ≡ gives w
  unfolding majority_of if_trees
  majority-given e =
      ap (λ (ts : List (List ℕ)). if eqb (length ts) 0 then refused 14 else if_room room (written h.opening.names (majority ts))) one
      ∙ ap (λ (s : List ℕ). if_room room (written h.opening.names s)) e ∙ given

  strict-given : strict (t ∷ []) ≡ t → strict_of h room ≡ gives w
  unfolding strict_of if_trees
  strict-given e =
      ap (λ (ts : List (List ℕ)). if eqb (length ts) 0 then refused 14 else if_room room (written h.opening.names (strict ts))) one
      ∙ ap (λ (s : List ℕ). if_room room (written h.opening.names s)) e ∙ given

  tree-given : written_of h 0 room ≡ gives w
  unfolding written_of if_tree tree
  tree-given = ap (λ (ts : List (List ℕ)). if ltb 0 (length ts) then if_room room (written h.opening.names (get_or ts 0 [])) else refused 13) one ∙ given

pub longest-reached :
    (majority_of longest 4349 ≡ gives long_text)
    × (strict_of longest 4349 ≡ gives long_text)
    × (written_of longest 0 4349 ≡ gives long_text)
    × (length long_text ≡ 4349)
longest-reached = (
  majority-given longest (comb_splits 61) long_text 4349 longest-trees long-written long-fits one-majority,
  strict-given longest (comb_splits 61) long_text 4349 longest-trees long-written long-fits one-strict,
  tree-given longest (comb_splits 61) long_text 4349 longest-trees long-written long-fits,
  long-length,
)
