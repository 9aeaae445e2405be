-- What is written of a whole collection, fed to an empty lane of a whole collection over the same names, is accepted with exactly the
-- splits that it was written from, and without lengths, or there is no room for it.
--
--   names-good           the names of a whole collection are good
--   strict-whole, majority-whole, tree-whole     the splits of a consensus tree and of an accepted tree are in order
--   ReadBack k s n f     the feeding f, to the collection k, of a text of n bytes with the splits s: what it answers and leaves
--   reads-back           feeding what is written is such a feeding
use Rattle.std.specs.Prelude.{ℕ, ◌+◌, ◌≤◌, ◌<◌, ◌≡◌, ◌⊎◌, ◌↔◌, Bool, ltb, eqb, length, if◌then◌else◌}
use Rattle.std.proofs.Common.{arith, sym, ◌∙◌, subst}
use Rattle.std.proofs.Math.Path.{refl, ap}
use Rattle.std.proofs.Math.Logic.{inl, inr}
use Rattle.std.proofs.Math.Bool.{true, false}
use mathlib.Core.List.{List, [], ◌∷◌, ◌++◌}
use borrow.Author.Tests.{lt-ltb, ltb-true, ltb-false, eqb-true, eqb-false}
use Rattle.trees.specs.Plain.{Answer, refused, gives}
use Rattle.trees.specs.Names.{good_names}
use Rattle.trees.specs.Consensus.{recorded, majority, strict}
use Rattle.trees.specs.Written.{written}
use Rattle.trees.specs.Verdict.{Branches}
use Rattle.trees.specs.Opening.{in_range, good_constants}
use Rattle.trees.specs.Held.{Held, holding, lane_of, with_lane, with_tree, new_splits, room_for, Progress, accepted, Fed, finished, recording, finishing, feeding}
use Rattle.trees.specs.Questions.{tree}
use Rattle.trees.specs.Whole.{good_tree, good_opening}
use Rattle.theorems.specs.ListLaws.{and_right, every-at}
use Rattle.theorems.specs.RisingLaws.{rising-true}
use Rattle.theorems.specs.OpeningLaws.{every-get_d, good-opening}
use Rattle.theorems.specs.ConsensusLaws.{good-rising, majority-good, strict-good}
use Rattle.theorems.specs.RecordedLaws.{recorded_more}
use Rattle.theorems.specs.WholeHeld.{whole}
use Rattle.theorems.specs.HeldLaws.{Whole, whole-facts}
use Rattle.theorems.specs.Absent.{absent, without_lengths}
use Rattle.theorems.specs.WrittenFedLaws.{written-accepted}

-- ---- splits of a whole collection

module _ (h : Held) (w : whole h ≡ true) where
  abbrev taxa : ℕ
  taxa = h.opening.numbers.taxa

  facts : Whole h
  facts = whole-facts h w

  pub strict-whole : good_tree taxa (strict h.trees) ≡ true
  strict-whole = strict-good taxa h.trees (λ t m. every-at (good_tree taxa) h.trees facts.trees-good t m)

  pub majority-whole : good_tree taxa (majority h.trees) ≡ true
  majority-whole = majority-good taxa h.trees (λ t m. every-at (good_tree taxa) h.trees facts.trees-good t m)

  pub tree-whole : (i : ℕ) → good_tree taxa (tree h i) ≡ true
  unfolding tree good_tree
  tree-whole i = every-get_d (good_tree taxa) h.trees [] refl facts.trees-good i

  pub names-good : good_names taxa h.opening.names ≡ true
  unfolding good_opening
  names-good =
      and_right (good_constants h.opening.numbers h.opening.first h.opening.second) _
      (and_right (in_range h.opening.numbers) _ facts.opening-good)

-- ---- what feeding it comes to

-- 11: "accepted trees equal the tree room"
abbrev pub NoTreeRoom : Held → Type 0
NoTreeRoom k = length k.trees ≡ k.opening.numbers.tree_room

-- else 12: "recorded splits and this tree's new ones together exceed the split room"; together they are what is recorded with this tree
abbrev pub NoSplitRoom : Held → List ℕ → Type 0
NoSplitRoom k s = (NoTreeRoom k → ⊥) × (k.opening.numbers.split_room < length (recorded (k.trees ++ s ∷ [])))

pub record ReadBack (k : Held) (s : List ℕ) (n : ℕ) (f : Fed) : Type 0 where
  pub taken : f.taken ≡ n
  pub no_other : (f.answer ≡ gives (accepted (length k.trees))) ⊎ ((f.answer ≡ refused 11) ⊎ (f.answer ≡ refused 12))
  pub eleven : (f.answer ≡ refused 11) ↔ NoTreeRoom k
  pub twelve : (f.answer ≡ refused 12) ↔ NoSplitRoom k s
  pub last-tree : f.answer ≡ gives (accepted (length k.trees)) → f.after.trees ≡ k.trees ++ s ∷ []
  pub last-lengths : f.answer ≡ gives (accepted (length k.trees)) → f.after.lengths ≡ k.lengths ++ absent k.opening.numbers.kept s ∷ []
  pub no-tree : (f.answer ≡ gives (accepted (length k.trees)) → ⊥) → f.after.trees ≡ k.trees
  pub no_lengths : (f.answer ≡ gives (accepted (length k.trees)) → ⊥) → f.after.lengths ≡ k.lengths

-- the number of a refusal, 0 where there is none
abbrev number : Answer Progress → ℕ
number (refused k) = k
number (gives x) = 0

-- the room for a tree, from its two tests
abbrev room_by : Bool → Bool → Branches → Answer Branches
room_by b c t = if b then refused 11 else if c then refused 12 else gives t

module _ (k : Held) (l n : ℕ) (s : List ℕ) (rises : good_tree k.opening.numbers.taxa s ≡ true) where
  more : length (recorded (k.trees ++ s ∷ [])) ≡ length (recorded k.trees) + length (new_splits k s)
  unfolding new_splits
  more = recorded_more k.trees s (rising-true s (good-rising k.opening.numbers.taxa s rises))

  abbrev full : Bool
  full = eqb (length k.trees) k.opening.numbers.tree_room

  abbrev short : Bool
  short = ltb k.opening.numbers.split_room (length (recorded k.trees) + length (new_splits k s))

  -- the split room against what is recorded with this tree
  room-short : short ≡ true → k.opening.numbers.split_room < length (recorded (k.trees ++ s ∷ []))
  room-short d = omega (arith, more, ltb-true k.opening.numbers.split_room (length (recorded k.trees) + length (new_splits k s)) d)

  room-enough : short ≡ false → length (recorded (k.trees ++ s ∷ [])) ≤ k.opening.numbers.split_room
  room-enough d = omega (arith, more, ltb-false k.opening.numbers.split_room (length (recorded k.trees) + length (new_splits k s)) d)

  -- the splits, and no lengths
  abbrev bare : Branches
  bare = without_lengths k.opening.numbers.kept s

  room_by_lem : room_for k bare ≡ room_by full short bare
  unfolding room_for without_lengths
  room_by_lem = refl

  by-room : (b c : Bool) → full ≡ b → short ≡ c → ReadBack k s n (finishing k l n (room_by b c bare))
  unfolding finishing finished recording with_lane with_tree without_lengths
  by-room true c e d = record {
    taken = refl;
    no_other = inr (inl refl);
    eleven = ((λ q. eqb-true _ _ e), λ q. refl);
    twelve = ((λ q. absurd (omega (arith, ap number q))), λ q. absurd (q.0 (eqb-true _ _ e)));
    last-tree = λ q. absurd (omega (arith, ap number q));
    last-lengths = λ q. absurd (omega (arith, ap number q));
    no-tree = λ q. refl;
    no_lengths = λ q. refl;
  }
  by-room false true e d = record {
    taken = refl;
    no_other = inr (inr refl);
    eleven = ((λ q. absurd (omega (arith, ap number q))), λ q. absurd (eqb-false _ _ e q));
    twelve = ((λ q. (eqb-false _ _ e, room-short d)), λ q. refl);
    last-tree = λ q. absurd (omega (arith, ap number q));
    last-lengths = λ q. absurd (omega (arith, ap number q));
    no-tree = λ q. refl;
    no_lengths = λ q. refl;
  }
  by-room false false e d = record {
    taken = refl;
    no_other = inl refl;
    eleven = ((λ q. absurd (omega (arith, ap number q))), λ q. absurd (eqb-false _ _ e q));
    twelve = ((λ q. absurd (omega (arith, ap number q))), λ q. absurd (omega (arith, q.1, room-enough d)));
    last-tree = λ q. refl;
    last-lengths = λ q. refl;
    no-tree = λ q. absurd (q refl);
    no_lengths = λ q. absurd (q refl);
  }

  room-read : ReadBack k s n (finishing k l n (room_for k bare))
  room-read = subst (λ (a : Answer Branches). ReadBack k s n (finishing k l n a)) (sym room_by_lem) (by-room full short refl refl)

-- "A tree that we write reads back as the same splits"; h is the collection that it is written of, k the one that it is fed to
module _ (h k : Held) (hw : whole h ≡ true) (kw : whole k ≡ true) (names : k.opening.names ≡ h.opening.names) (l : ℕ)
    (lane : l < k.opening.numbers.lanes) (empty : lane_of k l ≡ holding []) where
  same-taxa : h.opening.numbers.taxa ≡ k.opening.numbers.taxa
  same-taxa =
      sym (good-opening h.opening (facts h hw).opening-good).named.count ∙ ap length (sym names)
      ∙ (good-opening k.opening (facts k kw).opening-good).named.count

  pub reads-back : (s : List ℕ) → good_tree h.opening.numbers.taxa s ≡ true
      → ReadBack k s (length (written h.opening.names s)) (feeding k l (written h.opening.names s))
  reads-back s good =
      let n = h.opening.numbers.taxa in
      let r = (good-opening h.opening (facts h hw).opening-good).ranges in
      let text = written h.opening.names s in
      let fed : feeding k l text ≡ finishing k l (length text) (room_for k (without_lengths k.opening.numbers.kept s)) =
      written-accepted n h.opening.names s (names-good h hw) good k l (lt-ltb l k.opening.numbers.lanes lane) (omega (arith, r.least-taxa)) r.most-taxa names empty in
      subst (ReadBack k s (length text)) (sym fed) (room-read k l (length text) s (subst (λ (m : ℕ). good_tree m s ≡ true) same-taxa good))
